use Rattle.fo_gate.specs.Seats.{IsSeatOf}
use Rattle.test_gate.proofs.counting.count.Given as goal

abbrev pub invariant-loop : goal.invariant-loop
invariant-loop g l = IsSeatOf l.gate l.seat
