use Rattle.std.proofs.Common.{◌≡◌, ℕ, ◌%◌, []}
use Rattle.fo_gate.specs.Steps.{with_ticket}
use Rattle.fo_gate.proofs.gate.Gate.enter.Given as goal

abbrev pub invariant-loop : goal.invariant-loop
invariant-loop g l = (l.inner.table_id ≡ l.fn.inner.table_id) × ((t : ℕ) × (l.ticket ≡ t % 18446744073709551616) × (l.inner.me ≡ (with_ticket l.fn.inner.me.0 t, [])))
