use Rattle.std.proofs.Common.{◌-◌, ◌≤◌, length}
use Rattle.fo_tree_clear.specs.of_tree_own.Shown.{ShowsNoMore}
use Rattle.fo_tree_write.specs.Write.{at_top, Counted, Wrote}
use Rattle.fo_tree_write.proofs.write.put_within.Given as goal

abbrev pub invariant-loop-done : goal.invariant-loop-done
invariant-loop-done g l = record {
  within : l.done ≤ length l.piece;
  wrote : Wrote (g.B.Blocks.state l.initial.on) (g.B.Blocks.state l.on) l.initial.tree l.top l.initial.kept l.offset l.done l.piece;
  counted : Counted (g.B.Blocks.state l.initial.on) (g.B.Blocks.state l.on) (at_top l.initial.tree l.top) l.offset l.done;
  shown : ShowsNoMore (g.B.Blocks.state l.initial.on).may_leave (g.B.Blocks.state l.on).may_leave;
  keeps : g.B.Blocks.keeps l.initial.on l.on;
}

abbrev pub decreases-loop-done : goal.decreases-loop-done
decreases-loop-done g l = length l.initial.piece - l.done
