use Rattle.std.proofs.Common.{◌≡◌, ◌+◌, ◌-◌, ◌/◌, ◌≤◌, ℕ, length}
use Rattle.fo_tree_look.specs.Source.{HasBlock}
use Rattle.fo_tree_clear.specs.of_tree_down.Way.{CurrentBut}
use Rattle.fo_tree_clear.specs.of_tree_own.Shown.{ShowsNoMore}
use Rattle.fo_tree_clear.specs.Steps.{Steps}
use Rattle.fo_tree_write.specs.Write.{at_top, Counted, Wrote}
use Rattle.fo_tree_append.specs.Append.{OnLeaves, SpendsBut}
use Rattle.fo_tree_append.proofs.all.put_all.Given as goal

abbrev pub invariant-loop-done : goal.invariant-loop-done
invariant-loop-done g l = record {
  within : l.done ≤ length l.piece;
  wrote : Wrote (g.B.Blocks.state l.initial.on) (g.B.Blocks.state l.on) l.initial.tree l.top l.initial.kept l.offset l.done l.piece;
  steps : Steps l.initial.tree.tag (λ b. OnLeaves (g.B.Blocks.state l.initial.on) l.initial.tree (l.offset / 8192) ((l.offset + length l.piece - 1) / 8192) b) (λ b. OnLeaves (g.B.Blocks.state l.initial.on) l.initial.tree (l.offset / 8192) ((l.offset + length l.piece - 1) / 8192) b) (g.B.Blocks.state l.initial.on) (g.B.Blocks.state l.on);
  stays : (g.B.Blocks.state l.initial.on).tells → (b : ℕ) → HasBlock (g.B.Blocks.state l.initial.on) l.initial.tree b → ((g.B.Blocks.state l.initial.on).label b).epoch ≡ (g.B.Blocks.state l.initial.on).high → HasBlock (g.B.Blocks.state l.on) (at_top l.initial.tree l.top) b;
  spends : (c : ℕ) → CurrentBut (g.B.Blocks.state l.initial.on) l.initial.tree c l.initial.tree.depth (l.offset / 8192) → SpendsBut c (g.B.Blocks.state l.on) (at_top l.initial.tree l.top) (g.B.Blocks.state l.initial.on).spare l.offset l.done;
  counted : Counted (g.B.Blocks.state l.initial.on) (g.B.Blocks.state l.on) (at_top l.initial.tree l.top) l.offset l.done;
  shown : ShowsNoMore (g.B.Blocks.state l.initial.on).may_leave (g.B.Blocks.state l.on).may_leave;
  keeps : g.B.Blocks.keeps l.initial.on l.on;
}

abbrev pub decreases-loop-done : goal.decreases-loop-done
decreases-loop-done g l = length l.initial.piece - l.done
