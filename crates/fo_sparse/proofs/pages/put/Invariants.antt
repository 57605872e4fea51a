use Rattle.std.proofs.Common.{length, take, ◌-◌, ◌≤◌}
use Rattle.fo_sparse.specs.Pages.{Puts, SamePages}
use Rattle.fo_sparse.proofs.pages.put.Given as goal

abbrev pub invariant-loop-done : goal.invariant-loop-done
invariant-loop-done l =
    (l.done ≤ length l.bytes) × Puts l.initial.pages l.pages l.offset (take l.done l.bytes) × SamePages l.initial.pages l.pages

abbrev pub decreases-loop-done : goal.decreases-loop-done
decreases-loop-done l = length l.bytes - l.done
