use Rattle.std.proofs.Common.{◌+◌, ◌≤◌}
use Rattle.fo_tree_trim.specs.Cut.{CutSlot, Cuts}
use Rattle.fo_tree_trim.proofs.cut.cut_slots.Given as goal

abbrev pub invariant-loop-x : goal.invariant-loop-x
invariant-loop-x g l = record {
  cuts : Cuts (CutSlot (g.B.Blocks.state l.initial.on) l.tree l.last l.x) (g.B.Blocks.state l.initial.on) (g.B.Blocks.state l.on);
  keeps : g.B.Blocks.keeps l.initial.on l.on;
  room : (g.B.Blocks.state l.initial.on).room ≤ (g.B.Blocks.state l.on).room + l.x;
}
