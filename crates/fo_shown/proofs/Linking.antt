-- A slot was put that leads to no more of leaves of records than memory's did.
use Rattle.std.proofs.Common.{◌≡◌, ◌⊎◌, inl, inr, ⊎_elim, ℕ, List, sym, ◌∙◌, subst}
use Rattle.fo_crash.specs.declared.slot.Slot.{Slot}
use Rattle.fo_crash.specs.declared.place.Place.{Place}
use Rattle.fo_crash.specs.Images.{Image, Reaches, with_slot}
use Rattle.fo_crash.specs.Steps.{AddsSlot}
use Rattle.fo_crash.specs.Places.{super_place, IsPlaced, OnePlace, RanksFall}
use Rattle.fo_crash.specs.Spots.{Spot, spot_below}
use Rattle.fo_crash.proofs.Updates.{slot_here}
use Rattle.fo_ports.specs.Blocks.{zero_bytes}
use Rattle.fo_shown.specs.Shown.{IsOfRecords, IsShownAt, ShowsNoMore}
use Rattle.fo_shown.specs.Alike.{Finds, LeadsAlike}
use Rattle.fo_shown.proofs.Uses.{HasSlot, UsesSlot, slot_ways, never_returns, holder_found, found_further}

-- What is known of the places of images: block 1 stands at its own, what a slot leads to stands at the place below, and ranks fall.
pub record AllRanked (stands : ℕ → Place → Type 0) (images : Image → Type 0) : Type 0 where
  pub super_at : (image : Image) → images image → stands 1 super_place
  pub placed : (image : Image) → images image → IsPlaced stands image
  pub falls : (image : Image) → images image → RanksFall stands image

-- What a new image shows by the new slot, an old one shows by memory's.
pub linked_shows : {stands : ℕ → Place → Type 0} {now : Image} {at i : ℕ} {slot : Slot} {beside : Image → Type 0} {old new : Image → Type 0} → OnePlace stands → AllRanked stands new → AddsSlot now at i slot beside old new → LeadsAlike old now at i slot → ShowsNoMore old new
linked_shows {stands} {now} {at} {i} {slot} {beside} {old} {new} one ranked adds alike = record {
  each = λ p bytes of is. ⊎_elim
      (λ was. inl (record { image = is.image; is = was; block = is.block; found = is.found; same = is.same }))
      (λ h. ⊎_elim
      (λ same. inl (record { image = with_slot is.image at i ((now at).slot i); is = h.was; block = is.block; found = same.found; same = h.bytes ∙ is.same }))
      (λ u. uses p bytes of is.image is.is is.block is.found.path is.same h u)
      h.way)
      (slot_ways adds is.image is.is is.found);
}
  where
    uses : (p : Spot) (bytes : List ℕ) → IsOfRecords p → (image : Image) → new image → (b : ℕ) (path : List ℕ) → (image b).bytes ≡ bytes → HasSlot now at i slot beside old image b p path → UsesSlot image (with_slot image at i ((now at).slot i)) at i slot b p path → IsShownAt old p bytes ⊎ (bytes ≡ zero_bytes)
    uses p bytes of image is b path same h u =
        let o : Slot = (now at).slot i in
        let other : Image = with_slot image at i o in
        let here : (other at).slot i ≡ o = slot_here image at i o in
        let apart : Reaches image slot at → ⊥ = subst (λ s. Reaches image s at → ⊥) h.put (never_returns i one (ranked.super_at image is) (ranked.placed image is) (ranked.falls image is) u.above) in
        let there = holder_found image at i slot o h.put apart u.above in
        ⊎_elim
        (λ f.
        let goes : Finds other (spot_below u.holder i ((other at).slot i)) ((other at).slot i) f.0 f.1 p = subst (λ s. Finds other (spot_below u.holder i s) s f.0 f.1 p) (sym here) f.2 in
        inl (record { image = other; is = h.was; block = f.1; found = (found_further i f.0 there.found goes).found; same = f.3 ∙ h.bytes ∙ same }))
        (λ zeros. inr (sym same ∙ sym h.bytes ∙ zeros))
        (alike.each other u.holder p u.rest b h.was here there.found u.aside of)
