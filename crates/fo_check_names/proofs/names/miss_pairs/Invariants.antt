use Rattle.std.proofs.Common.{length, ◌-◌}
use Rattle.fo_check_names.proofs.Missing.{IsMissing}
use Rattle.fo_check_names.proofs.names.miss_pairs.Given as goal

abbrev pub invariant-loop-at : goal.invariant-loop-at
invariant-loop-at l = IsMissing l.row l.count l.fn.named l.named l.initial.at l.at

abbrev pub decreases-loop-at : goal.decreases-loop-at
decreases-loop-at l = length l.initial.named - l.at
