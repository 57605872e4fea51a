-- A slot that waited is cleared: it alone was.
use Rattle.std.proofs.Common.{◌≡◌, inl, inr, ⊎_elim, ℕ}
use Rattle.fo_crash.specs.Steps.{Fills}
use Rattle.fo_cells.specs.Known.{Known, Remains}
use Rattle.fo_cells.proofs.Standing.{cell}
use Rattle.fo_cells_calls.specs.State.{Rest, OthersWait, state_of}
use Rattle.fo_ports.specs.State.{WasCleared}

pub one_cleared : {at i : ℕ} {old new : Known} (x y : Rest) → OthersWait at i old new → Fills (λ b j. (b ≡ at) × (j ≡ i)) old.memory (Remains old) (Remains new) → Fills (WasCleared (state_of old x) (state_of new y)) old.memory (Remains old) (Remains new)
one_cleared {at} {i} {old} {new} x y others fills = record {
  each = λ image other m c. fills.each image other m (record {
    bytes = c.bytes;
    each = λ b j. ⊎_elim
        (λ same. inl same)
        (λ w. ⊎_elim
        (λ is. inr (is, w.1))
        (λ ne. absurd (w.0.1 (w.0.0.0, others.each b j w.0.0.0 (λ e. ⊎_elim (λ no. no e.0) (λ no. no e.1) ne) w.0.0.1)))
        (cell at i b j))
        (c.each b j);
  });
}
