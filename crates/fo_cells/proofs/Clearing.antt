-- Several slots that waited are cleared, with other steps of the device between: each image that is left would, with any of them
-- cleared, be one of before.
use Rattle.std.proofs.Common.{◌≡◌, ◌≢◌, inl, inr, ⊎_elim, ℕ, sym, ◌∙◌, ap, subst}
use Rattle.fo_crash.specs.Images.{Image, SameContent, with_slot}
use Rattle.fo_crash.specs.Steps.{AddsNothing, IsCleared, Fills, cleared}
use Rattle.fo_crash.proofs.Updates.{slot_bytes, slot_other, slot_here}
use Rattle.fo_cells.specs.Known.{Known, Images, Remains}
use Rattle.fo_cells.specs.Writes.{Fires}
use Rattle.fo_cells.specs.Calls.{SuperStays}
use Rattle.fo_cells.proofs.Standing.{cell}
use Rattle.fo_cells.proofs.Firing.{fire_adds}
use Rattle.fo_cells.proofs.Filling.{OrCell, fire_fill, images_same}
use Rattle.fo_cells.proofs.Super.{super_fewer, whole_same}

-- a step that adds no image
pub fills_quiet : {slots : ℕ → ℕ → Type 0} {now : Image} {before : Image → Type 0} {old new : Known} → Fills slots now before (Remains old) → AddsNothing (Remains old) (Remains new) → Fills slots now before (Remains new)
fills_quiet fills adds = record { each = λ image other m c. fills.each image other (adds.each image m) c }

module _ {at i leaf : ℕ} {old new : Known} (slots : ℕ → ℕ → Type 0) (now : Image) (r : Fires at i leaf old new) (other_block : at ≢ 1) (stays : SuperStays old new) (same : (now at).slot i ≡ (old.memory at).slot i) where
  abbrev mid : Image → Image → Image
  mid image other = with_slot image at i ((other at).slot i)

  rest : (image other : Image) → IsCleared (OrCell slots at i) now image other → IsCleared slots now (mid image other) other
  rest image other c = record {
    bytes = λ b. c.bytes b ∙ sym (slot_bytes image at i ((other at).slot i) b);
    each = λ b j. ⊎_elim
        (λ e. inl (subst (λ y. (other y).slot j ≡ (with_slot image at i ((other at).slot i) y).slot j) (sym e.0) (subst (λ n. (other at).slot n ≡ (with_slot image at i ((other at).slot i) at).slot n) (sym e.1) (sym (slot_here image at i ((other at).slot i))))))
        (λ ne. ⊎_elim
        (λ is. inl (is ∙ sym (slot_other image at i ((other at).slot i) b j ne)))
        (λ x. ⊎_elim
        (λ own. inr (own, x.1))
        (λ e. ⊎_elim (λ no. absurd (no e.0)) (λ no. absurd (no e.1)) ne)
        x.0)
        (c.each b j))
        (cell at i b j);
  }

  in_mid : (image other : Image) → Images new image → IsCleared (OrCell slots at i) now image other → Images old (mid image other)
  in_mid image other m c = ⊎_elim
      (λ is. images_same old image (mid image other) ((fire_adds r).each image m)
      (λ b. slot_bytes image at i ((other at).slot i) b)
      (λ b j. ⊎_elim
      (λ e. subst (λ y. (with_slot image at i ((other at).slot i) y).slot j ≡ (image y).slot j) (sym e.0) (subst (λ n. (with_slot image at i ((other at).slot i) at).slot n ≡ (image at).slot n) (sym e.1) (slot_here image at i ((other at).slot i) ∙ is)))
      (λ ne. slot_other image at i ((other at).slot i) b j ne)
      (cell at i b j)))
      (λ x. fire_fill r image (mid image other) m (slot_bytes image at i ((other at).slot i)) (slot_other image at i ((other at).slot i)) (slot_here image at i ((other at).slot i) ∙ x.1 ∙ ap cleared same))
      (c.each at i)

  beside : (image other : Image) → SameContent (mid image other 1) (image 1)
  beside image other = record {
    bytes = slot_bytes image at i ((other at).slot i) 1;
    slots = λ j. slot_other image at i ((other at).slot i) 1 j (inl (λ e. other_block (sym e)));
  }

  -- One slot more is cleared.
  pub fills_more : (before : Image → Type 0) → Fills slots now before (Remains old) → Fills (OrCell slots at i) now before (Remains new)
  fills_more before fills = record {
    each = λ image other m c. fills.each (mid image other) other (record {
      cells = in_mid image other m.cells c;
      super = whole_same old (beside image other) (super_fewer stays (image 1) m.super);
    }) (rest image other c);
  }
