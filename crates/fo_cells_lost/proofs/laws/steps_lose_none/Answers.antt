use Rattle.fo_cells_lost.proofs.Lost.{moves_lose, same_moves, copied_moves, gained_moves, lost_moves, gives_lose}
use Rattle.fo_cells_lost.proofs.laws.steps_lose_none.Goals as goal

pub returns : goal.returns
returns g c = record {
  moved = λ old new high high_of doubts active roots m kept low label h. moves_lose h.safe h.trees kept m low label;
  same = same_moves (g.G.Gaps.tree c.args._before.now);
  copied = λ x y. copied_moves (g.G.Gaps.tree c.args._before.now) x y;
  gained = λ y. gained_moves (g.G.Gaps.tree c.args._before.now) y;
  lost = λ x. lost_moves (g.G.Gaps.tree c.args._before.now) x;
  given = λ at high d p high_of doubts active roots old new x h. gives_lose x h.safe h.trees;
}
