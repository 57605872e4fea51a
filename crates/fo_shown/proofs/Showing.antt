-- What is shown after one change and another.
use Rattle.std.proofs.Common.{◌≡◌, inl, inr, ⊎_elim, ℕ, ◌%◌, List, refl, sym, ◌∙◌, ap, subst}
use Rattle.std.proofs.lemmas.Bool.{cases_eq}
use Rattle.fo_ports.specs.of_image.declared.types.Kind.TheVariants.{Data, Root}
use Rattle.fo_ports.specs.of_image.declared.types.Pointer.TheVariants.{Nil, Local}
use Rattle.fo_crash.specs.declared.slot.Slot.{Slot}
use Rattle.fo_crash.specs.declared.slot.Slot.TheVariants.{Pointer as To, Entry as Head, Prev}
use Rattle.fo_crash.specs.declared.place.Place.{Place}
use Rattle.fo_crash.specs.Images.{Content, Image, Reaches, target, to_block, with_slot, with_bytes, with_block}
use Rattle.fo_crash.specs.Steps.{AddsNothing, AddsBlock, AddsBytes, AddsSlot, AddsSuper, AllAre, cleared}
use Rattle.fo_crash.specs.Places.{super_place, place_below, OnePlace}
use Rattle.fo_crash.specs.Spots.{Spot, FoundAt, spot_below, top_spot}
use Rattle.fo_crash.proofs.Reach.{reaches_on, reaches_itself}
use Rattle.fo_crash.proofs.Updates.{slot_bytes, slot_other, slot_here, bytes_other, bytes_slot, block_other, block_here}
use Rattle.fo_shown.specs.Shown.{active, IsOfRecords, IsShownAt, ShowsNoMore}
use Rattle.fo_shown.proofs.Ways.{Follows, found_on, same_below, OnPlace, AllPlaced}

-- no image was added
pub nothing_shows : {old new : Image → Type 0} → AddsNothing old new → ShowsNoMore old new
nothing_shows adds = record { each = λ p bytes of is. inl (record { image = is.image; is = adds.each is.image is.is; block = is.block; found = is.found; same = is.same }) }

-- one change after another
pub shows_joins : {a b c : Image → Type 0} → ShowsNoMore a b → ShowsNoMore b c → ShowsNoMore a c
shows_joins first second = record { each = λ p bytes of is. ⊎_elim (λ mid. first.each p bytes of mid) (λ e. inr e) (second.each p bytes of is) }

-- An old image shows what a new one does, where it leads on in the same way, and has the same bytes at the spot.
shown_by : {on : ℕ → Spot → Type 0} {old : Image → Type 0} {image other : Image} {b : ℕ} {p : Spot} {bytes : List ℕ} → Follows on image other → on 1 (top_spot 1) → old other → (on b p → (other b).bytes ≡ (image b).bytes) → FoundAt active image b p → (image b).bytes ≡ bytes → IsShownAt old p bytes
shown_by {other = other} {b = b} follows first is same found bytes_are =
    let there = found_on follows first found in
    record { image = other; is = is; block = b; found = there.0; same = same there.1 ∙ bytes_are }

-- A block was given out: no path leads to it.
pub block_shows : {tops : ℕ → Type 0} {at : ℕ} {c : Content} {old new : Image → Type 0} → tops 1 → AddsBlock tops at c old new → ShowsNoMore old new
block_shows {tops} {at} {c} {old} {new} top adds = record { each = λ p bytes of is. inl (shown p bytes is.image is.is is.block is.found is.same) }
  where
    shown : (p : Spot) (bytes : List ℕ) (image : Image) → new image → (b : ℕ) → FoundAt active image b p → (image b).bytes ≡ bytes → IsShownAt old p bytes
    shown p bytes image is b found same =
        let before = adds.before image is in
        let other : Image = with_block image at before.0 in
        let away : (a : ℕ) → Reaches image (to_block 1) a → other a ≡ image a = λ a here. block_other image at before.0 a (λ e. adds.apart image is 1 top (subst (λ x. Reaches image (to_block 1) x) e here)) in
        let follows : Follows (λ a q. Reaches image (to_block 1) a) image other = record { each = λ a j d q here to. (ap (λ (x : Content). target (x.slot j)) (away a here) ∙ to, ap (λ (x : Content). spot_below q j (x.slot j)) (sym (away a here)), reaches_on j here to) } in
        shown_by follows (reaches_itself image 1) before.1 (λ here. ap (λ (x : Content). x.bytes) (away b here)) found same

-- Bytes were put into a block that is no leaf of records.
pub bytes_show : {stands : ℕ → Place → Type 0} {now : Image} {at : ℕ} {bytes : List ℕ} {beside : Image → Type 0} {old new : Image → Type 0} → AllPlaced stands old → ((p : Place) → stands at p → (p.kind ≡ Data 0) × (p.rank % 32 ≡ 16) → ⊥) → AddsBytes now at bytes beside old new → ShowsNoMore old new
bytes_show {stands} {now} {at} {bytes} {beside} {old} {new} placed elsewhere adds = record {
  each = λ p bytes of is. inl (⊎_elim
      (λ was. record { image = is.image; is = was; block = is.block; found = is.found; same = is.same })
      (λ h. shown p bytes of is.image h.1 is.block is.found is.same)
      (adds.each is.image is.is));
}
  where
    shown : (p : Spot) (bytes : List ℕ) → IsOfRecords p → (image : Image) → old (with_bytes image at ((now at).bytes)) → (b : ℕ) → FoundAt active image b p → (image b).bytes ≡ bytes → IsShownAt old p bytes
    shown p bytes of image was b found same =
        let other : Image = with_bytes image at ((now at).bytes) in
        let slots : (a j : ℕ) → (other a).slot j ≡ (image a).slot j = λ a j. bytes_slot image at ((now at).bytes) a j in
        let follows : Follows (OnPlace stands) image other = record {
          each = λ a j c q here to.
              let leads = ap target (slots a j) ∙ to in
              (leads, ap (λ s. spot_below q j s) (sym (slots a j)), subst (λ s. stands c (place_below q.place j s)) (slots a j) ((placed.each other was).each a j c q.place here leads));
        } in
        shown_by follows (placed.super_at other was) was
        (λ here. ⊎_elim
        (λ e. absurd (elsewhere p.place (subst (λ x. stands x p.place) e here) of))
        (λ ne. ap (λ (x : Content). x.bytes) (bytes_other image at ((now at).bytes) b ne))
        (cases_eq b at))
        found same

-- A slot was put that leads nowhere.
pub slot_shows : {now : Image} {at i : ℕ} {s : Slot} {beside : Image → Type 0} {old new : Image → Type 0} → target s ≡ Nil → AddsSlot now at i s beside old new → ShowsNoMore old new
slot_shows {now} {at} {i} {s} {beside} {old} {new} nowhere adds = record {
  each = λ p bytes of is. inl (⊎_elim
      (λ was. record { image = is.image; is = was; block = is.block; found = is.found; same = is.same })
      (λ h. shown p bytes is.image h.0 h.1 is.block is.found is.same)
      (adds.each is.image is.is));
}
  where
    shown : (p : Spot) (bytes : List ℕ) (image : Image) → (image at).slot i ≡ s → old (with_slot image at i ((now at).slot i)) → (b : ℕ) → FoundAt active image b p → (image b).bytes ≡ bytes → IsShownAt old p bytes
    shown p bytes image put was b found same =
        let other : Image = with_slot image at i ((now at).slot i) in
        let slots : (a j c : ℕ) → target ((image a).slot j) ≡ Local c → (other a).slot j ≡ (image a).slot j = λ a j c to. ⊎_elim
        (λ is_at. ⊎_elim
        (λ is_i. let none : Nil ≡ Local c = sym nowhere ∙ ap target (sym put) ∙ ap (λ k. target ((image at).slot k)) (sym is_i) ∙ ap (λ k. target ((image k).slot j)) (sym is_at) ∙ to in absurd (cc))
        (λ ne. slot_other image at i ((now at).slot i) a j (inr ne))
        (cases_eq j i))
        (λ ne. slot_other image at i ((now at).slot i) a j (inl ne))
        (cases_eq a at) in
        let follows : Follows (λ a q. Unit {0}) image other = record { each = λ a j c q here to. (ap target (slots a j c to) ∙ to, ap (λ x. spot_below q j x) (sym (slots a j c to)), tt) } in
        shown_by follows tt was (λ here. slot_bytes image at i ((now at).slot i) b) found same

-- a cleared slot leads nowhere
pub cleared_nowhere : (s : Slot) → target (cleared s) ≡ Nil
cleared_nowhere (To p) = refl
cleared_nowhere (Head e) = refl
cleared_nowhere (Prev epoch at) = refl

-- in the image with another slot, a block leads on to where it did
leads_alike : (stands : ℕ → Place → Type 0) {at i : ℕ} {s o : Slot} (image : Image) → (image at).slot i ≡ s → target s ≡ target o → ((p : Place) → stands at p → place_below p i s ≡ place_below p i o) → (a j : ℕ) (p : Place) → stands a p → (target ((with_slot image at i o a).slot j) ≡ target ((image a).slot j)) × (place_below p j ((image a).slot j) ≡ place_below p j ((with_slot image at i o a).slot j))
leads_alike stands {at} {i} {s} {o} image put leads_same below_same a j p here = ⊎_elim
    (λ is_at. ⊎_elim
    (λ is_i.
    let new_is : (image a).slot j ≡ s = ap (λ k. (image k).slot j) is_at ∙ ap (λ k. (image at).slot k) is_i ∙ put in
    let old_is : (with_slot image at i o a).slot j ≡ o = ap (λ k. (with_slot image at i o k).slot j) is_at ∙ ap (λ k. (with_slot image at i o at).slot k) is_i ∙ slot_here image at i o in (
      ap target old_is ∙ sym leads_same ∙ ap target (sym new_is),
      ap (λ x. place_below p j x) new_is ∙ subst (λ k. place_below p k s ≡ place_below p k o) (sym is_i) (below_same p (subst (λ k. stands k p) is_at here)) ∙ ap (λ x. place_below p j x) (sym old_is),
    ))
    (λ ne. same (slot_other image at i o a j (inr ne)))
    (cases_eq j i))
    (λ ne. same (slot_other image at i o a j (inl ne)))
    (cases_eq a at)
  where
    same : (with_slot image at i o a).slot j ≡ (image a).slot j → (target ((with_slot image at i o a).slot j) ≡ target ((image a).slot j)) × (place_below p j ((image a).slot j) ≡ place_below p j ((with_slot image at i o a).slot j))
    same e = (ap target e, ap (λ x. place_below p j x) (sym e))

-- A slot was put that leads where memory's led, to the same place.
pub slot_stays_shows : {stands : ℕ → Place → Type 0} {now : Image} {at i : ℕ} {s : Slot} {beside : Image → Type 0} {old new : Image → Type 0} → AllPlaced stands old → target s ≡ target ((now at).slot i) → ((p : Place) → stands at p → place_below p i s ≡ place_below p i ((now at).slot i)) → AddsSlot now at i s beside old new → ShowsNoMore old new
slot_stays_shows {stands} {now} {at} {i} {s} {beside} {old} {new} placed leads_same below_same adds = record {
  each = λ p bytes of is. inl (⊎_elim
      (λ was. record { image = is.image; is = was; block = is.block; found = is.found; same = is.same })
      (λ h. shown p bytes is.image h.0 h.1 is.block is.found is.same)
      (adds.each is.image is.is));
}
  where
    shown : (p : Spot) (bytes : List ℕ) (image : Image) → (image at).slot i ≡ s → old (with_slot image at i ((now at).slot i)) → (b : ℕ) → FoundAt active image b p → (image b).bytes ≡ bytes → IsShownAt old p bytes
    shown p bytes image put was b found same =
        let other : Image = with_slot image at i ((now at).slot i) in
        let follows : Follows (OnPlace stands) image other = record {
          each = λ a j c q here to.
              let alike = leads_alike stands image put leads_same below_same a j q.place here in
              let leads : target ((other a).slot j) ≡ Local c = alike.0 ∙ to in
              (leads, same_below q j ((image a).slot j) ((other a).slot j) alike.1, subst (λ x. stands c x) (sym alike.1) ((placed.each other was).each a j c q.place here leads));
        } in
        shown_by follows (placed.super_at other was) was (λ here. slot_bytes image at i ((now at).slot i) b) found same

-- Memory's super block came in the place of another with the same slots.
pub super_shows : {stands : ℕ → Place → Type 0} {now : Image} {beside : Image → Type 0} {old new : Image → Type 0} → OnePlace stands → AllPlaced stands old → ((image : Image) → beside image → (i : ℕ) → (image 1).slot i ≡ (now 1).slot i) → AddsSuper now beside old new → ShowsNoMore old new
super_shows {stands} {now} {beside} {old} {new} one placed slots_same adds = record {
  each = λ p bytes of is. inl (⊎_elim
      (λ was. record { image = is.image; is = was; block = is.block; found = is.found; same = is.same })
      (λ h. shown p bytes of is.image h.0 (slots_same is.image h.1) is.block is.found is.same)
      (adds.each is.image is.is));
}
  where
    shown : (p : Spot) (bytes : List ℕ) → IsOfRecords p → (image : Image) → old (with_block image 1 (now 1)) → ((i : ℕ) → (image 1).slot i ≡ (now 1).slot i) → (b : ℕ) → FoundAt active image b p → (image b).bytes ≡ bytes → IsShownAt old p bytes
    shown p bytes of image was way b found same =
        let other : Image = with_block image 1 (now 1) in
        let slots : (a j : ℕ) → (other a).slot j ≡ (image a).slot j = λ a j. ⊎_elim
        (λ e. ap (λ k. (other k).slot j) e ∙ ap (λ (x : Content). x.slot j) (block_here image 1 (now 1)) ∙ sym (way j) ∙ ap (λ k. (image k).slot j) (sym e))
        (λ ne. ap (λ (x : Content). x.slot j) (block_other image 1 (now 1) a ne))
        (cases_eq a 1) in
        let follows : Follows (OnPlace stands) image other = record {
          each = λ a j c q here to.
              let leads = ap target (slots a j) ∙ to in
              (leads, ap (λ s. spot_below q j s) (sym (slots a j)), subst (λ s. stands c (place_below q.place j s)) (slots a j) ((placed.each other was).each a j c q.place here leads));
        } in
        shown_by follows (placed.super_at other was) was
        (λ here. ⊎_elim
        (λ e. let no : Root ≡ Data 0 = ap (λ (x : Place). x.kind) (one.each 1 super_place p.place (placed.super_at other was) (subst (λ x. stands x p.place) e here)) ∙ of.0 in absurd (cc))
        (λ ne. ap (λ (x : Content). x.bytes) (block_other image 1 (now 1) b ne))
        (cases_eq b 1))
        found same

-- Where every image is what memory has, memory shows what is shown.
pub settled_shows : {now : Image} {images : Image → Type 0} {p : Spot} {bytes : List ℕ} → AllAre now images → IsShownAt images p bytes → IsShownAt (λ image. image ≡ now) p bytes
settled_shows {now} {images} {p} {bytes} all is =
    let slots : (a j : ℕ) → (now a).slot j ≡ (is.image a).slot j = λ a j. sym (((all.each is.image is.is).each a).slots j) in
    let follows : Follows (λ a q. Unit {0}) is.image now = record { each = λ a j c q here to. (ap target (slots a j) ∙ to, ap (λ x. spot_below q j x) (sym (slots a j)), tt) } in
    shown_by follows tt refl (λ here. sym (((all.each is.image is.is).each is.block).bytes)) is.found is.same
