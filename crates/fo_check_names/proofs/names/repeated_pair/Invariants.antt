use Rattle.std.proofs.Common.{◌≢◌}
use Rattle.std.specs.List.{AllAdjacentBelow}
use Rattle.fo_check_names.specs.Names.{slot_of}
use Rattle.fo_check_names.proofs.names.repeated_pair.Given as goal

abbrev pub invariant-loop-i : goal.invariant-loop-i
invariant-loop-i l = AllAdjacentBelow (λ x y. slot_of x ≢ slot_of y) l.named l.i
