use Rattle.std.proofs.Common.{◌≡◌, ℕ, ◌++◌, length}
use Rattle.fo_vacput.specs.Cut.{copies}
use Rattle.fo_vacput.proofs.truncation.without.Given as goal

abbrev pub invariant-loop-front : goal.invariant-loop-front
invariant-loop-front l = (count : ℕ) × (l.bytes ≡ l.rest ++ copies count l.unit)

abbrev pub decreases-loop-front : goal.decreases-loop-front
decreases-loop-front l = length l.rest
