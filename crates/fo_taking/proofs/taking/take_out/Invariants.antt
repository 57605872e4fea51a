use Rattle.std.proofs.Common.{◌-◌, ◌≤◌}
use Rattle.fo_buffers.specs.of_crash.Images.{Image}
use Rattle.fo_takeout.specs.Walking.{work}
use Rattle.fo_taking.specs.Shown.{Shows}
use Rattle.fo_taking.specs.Taken.{Pushed, Taking}
use Rattle.fo_taking.proofs.taking.take_out.Given as goal

abbrev pub invariant-loop-left : goal.invariant-loop-left
invariant-loop-left l = record {
  taking : (now : Image) → Shows now l.labels l.buffers → Taking now l.fn.walk l.walk l.fn.queue.removals l.queue.removals l.budget l.left;
  most : l.left ≤ l.budget;
  pushed : Pushed (l.budget - l.left) l.fn.queue l.queue;
}

abbrev pub decreases-loop-left : goal.decreases-loop-left
decreases-loop-left l = work l.walk
