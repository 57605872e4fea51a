use Rattle.std.proofs.Common.{◌<◌, ℕ}
use Rattle.fo_slots.specs.Read.{read, IsSlot}
use Rattle.fo_slots.proofs.slots.has_slots.Given as goal

abbrev pub invariant-loop-i : goal.invariant-loop-i
invariant-loop-i l = record {
  so_far : (j : ℕ) → j < l.i → IsSlot l.kind l.bytes j ((read l.kind l.bytes).slot j);
}
