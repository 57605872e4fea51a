use Rattle.std.proofs.Common.{◌≢◌}
use Rattle.std.specs.List.{AllAdjacentBelow}
use Rattle.fo_check_names.specs.Names.{number_of}
use Rattle.fo_check_names.proofs.names.repeated_number.Given as goal

abbrev pub invariant-loop-i : goal.invariant-loop-i
invariant-loop-i l = AllAdjacentBelow (λ x y. number_of x ≢ number_of y) l.found l.i
