use Rattle.std.proofs.Common.{◌≡◌, ℕ, List, length}
use Rattle.std.specs.List.{Contains}
use Rattle.fo_buffers.specs.Held.{held_at}
use Rattle.fo_turning.proofs.close.forget_all.Given as goal

abbrev pub invariant-loop : goal.invariant-loop
invariant-loop l = record {
  held : (b : ℕ) → held_at l.buffers b ≡ held_at l.fn.buffers b;
  clean : (b : ℕ) (bytes : List ℕ) → Contains l.buffers.clean (b, bytes) → Contains l.fn.buffers.clean (b, bytes);
  room : l.buffers.room ≡ l.fn.buffers.room;
}

abbrev pub decreases-loop : goal.decreases-loop
decreases-loop l = length l.buffers.clean
