-- What images show once slots were cleared.
use Rattle.std.proofs.Common.{◌≡◌, ◌⊎◌, ℕ, List, [], ◌∷◌, inl, inr, ⊎_elim, refl, sym, ◌∙◌, ap}
use Rattle.fo_image.specs.declared.types.Pointer.{Pointer}
use Rattle.fo_image.specs.declared.types.Pointer.TheVariants.{Nil, Local, Score as Held}
use Rattle.fo_crash.specs.declared.slot.Slot.{Slot}
use Rattle.fo_crash.specs.declared.slot.Slot.TheVariants.{Pointer as To}
use Rattle.fo_crash.specs.Images.{Image, target, local, walk, to_block}
use Rattle.fo_crash.specs.Spots.{Spot, FoundAt, spot_below, top_spot, spot_at}
use Rattle.fo_crash.proofs.Reach.{lost}
use Rattle.fo_ports.specs.State.{State}
use Rattle.fo_tree_down.specs.of_tree_own.Shown.{active, ShowsNoMore}
use Rattle.fo_tree_trim.specs.Cut.{Cuts}

-- The first image is the second one, but for slots that lead nowhere in it.
module _ (x y : Image) (fewer : (b j : ℕ) → ((x b).slot j ≡ (y b).slot j) ⊎ ((x b).slot j ≡ To Nil)) where
  one_on : (p : Pointer) (j : ℕ) → ((local x p).slot j ≡ (local y p).slot j) ⊎ ((local x p).slot j ≡ To Nil)
  one_on Nil j = inl refl
  one_on (Local a) j = fewer a j
  one_on (Held score) j = inl refl

  -- a path leads to this block in the second image, too, and to the same spot
  record Same (s : Slot) (p : Spot) (path : List ℕ) (b : ℕ) : Type 0 where
    leads : target (walk y s path) ≡ Local b
    spot : spot_at y p s path ≡ spot_at x p s path

  along : (path : List ℕ) (s : Slot) (p : Spot) (b : ℕ) → target (walk x s path) ≡ Local b → Same s p path b
  along [] s p b e = record { leads = e; spot = refl }
  along (j ∷ path) s p b e = ⊎_elim
      (λ same.
      let on = along path ((local x (target s)).slot j) (spot_below p j ((local x (target s)).slot j)) b e in
      record {
        leads = ap (λ z. target (walk y z path)) (sym same) ∙ on.leads;
        spot = ap (λ z. spot_at y (spot_below p j z) z path) (sym same) ∙ on.spot;
      })
      (λ cleared. absurd (lost x path ((local x (target s)).slot j) (λ c h. let none : Nil ≡ Local c = sym (ap target cleared) ∙ h in cc) b e))
      (one_on (target s) j)

  found_before : {p : Spot} {b : ℕ} → FoundAt active x b p → FoundAt active y b p
  found_before {p} {b} found =
      let on = along found.path (to_block found.top) (top_spot found.top) b found.leads in
      record { top = found.top; is_top = found.is_top; path = found.path; leads = on.leads; spot = on.spot ∙ found.spot }

-- Slots that are cleared show no more.
pub cut_shows : {cut : ℕ → ℕ → Type 0} {s u : State} → Cuts cut s u → ShowsNoMore s.may_leave u.may_leave
cut_shows {cut} {s} {u} cuts = record {
  each = λ p bytes of shown.
      let was = cuts.images shown.image shown.is in
      inl (record {
        image = was.other;
        is = was.was;
        block = shown.block;
        found = found_before shown.image was.other (λ b j. ⊎_elim (λ same. inl same) (λ h. inr h.1) (was.slots b j)) shown.found;
        same = sym (was.bytes shown.block) ∙ shown.same;
      });
}
