use Rattle.std.proofs.Common.{◌-◌}
use Rattle.fo_order.proofs.Falling.{IsWithin}
use Rattle.fo_order.proofs.marks.place_of.Given as goal

abbrev pub invariant-loop-low : goal.invariant-loop-low
invariant-loop-low l = IsWithin l.rank l.marks l.low l.high

abbrev pub decreases-loop-low : goal.decreases-loop-low
decreases-loop-low l = l.high - l.low
