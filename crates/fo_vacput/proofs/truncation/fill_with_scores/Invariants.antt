use Rattle.std.proofs.Common.{◌≡◌, ◌-◌, ◌≤◌, ◌++◌, length, take}
use Rattle.fo_vacput.specs.Cut.{nil_pointers}
use Rattle.fo_vacput.proofs.truncation.fill_with_scores.Given as goal

abbrev pub invariant-loop-into : goal.invariant-loop-into
invariant-loop-into l = (l.at ≤ length l.into) × (take l.at l.into ++ nil_pointers (length l.into - l.at) ≡ take l.from l.initial.into ++ nil_pointers (length l.initial.into - l.from))

abbrev pub decreases-loop-into : goal.decreases-loop-into
decreases-loop-into l = length l.into - l.at
