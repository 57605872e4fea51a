-- What images find after a slot that leads nowhere was put.
use Rattle.std.proofs.Common.{◌≡◌, ◌≢◌, ◌⊎◌, inl, inr, ⊎_elim, ℕ, List, [], ◌∷◌, refl, sym, ◌∙◌, ap, subst}
use Rattle.std.proofs.lemmas.Bool.{cases_eq}
use Rattle.fo_image.specs.declared.types.Pointer.{Pointer}
use Rattle.fo_image.specs.declared.types.Pointer.TheVariants.{Nil, Local, Score as Held}
use Rattle.fo_crash.specs.declared.slot.Slot.{Slot}
use Rattle.fo_crash.specs.Images.{Image, to_block, target, local, walk, with_slot}
use Rattle.fo_crash.specs.Spots.{Spot, FoundAt, spot_at, spot_below, top_spot}
use Rattle.fo_crash.specs.Steps.{AddsSlot, AddsNothing}
use Rattle.fo_crash.proofs.Reach.{lost}
use Rattle.fo_crash.proofs.Updates.{slot_bytes, slot_other}
use Rattle.fo_shown.specs.Shown.{active, IsShownAt, ShowsNoMore}
use Rattle.fo_dir_put.specs.Once.{MayComeOnce}

-- An image of these finds each block where this one does, with the same bytes.
pub record FindsIn (images : Image → Type 0) (image : Image) : Type 0 where
  pub other : Image
  pub is : images other
  pub bytes : (b : ℕ) → (other b).bytes ≡ (image b).bytes
  pub found : (b : ℕ) (p : Spot) → FoundAt active image b p → FoundAt active other b p

pub record FindsNoMore (old new : Image → Type 0) : Type 0 where
  pub each : (image : Image) → new image → FindsIn old image

-- ---- one slot leads nowhere, and all others are the same

module _ (image other : Image) {at i : ℕ} (nil : target ((image at).slot i) ≡ Nil) (same : (b j : ℕ) → (b ≢ at) ⊎ (j ≢ i) → (other b).slot j ≡ (image b).slot j) where
  either : (x : Pointer) (j : ℕ) → ((local image x).slot j ≡ (local other x).slot j) ⊎ (target ((local image x).slot j) ≡ Nil)
  either Nil j = inl refl
  either (Held y) j = inl refl
  either (Local a) j = ⊎_elim
      (λ e. ⊎_elim (λ f. inr (subst (λ k. target ((image a).slot k) ≡ Nil) (sym f) (subst (λ b. target ((image b).slot i) ≡ Nil) (sym e) nil))) (λ ne. inl (sym (same a j (inr ne)))) (cases_eq j i))
      (λ ne. inl (sym (same a j (inl ne))))
      (cases_eq a at)

  leads_too : (path : List ℕ) (s : Slot) (p : Spot) (b : ℕ) → target (walk image s path) ≡ Local b → (target (walk other s path) ≡ Local b) × (spot_at other p s path ≡ spot_at image p s path)
  leads_too [] s p b e = (e, refl)
  leads_too (j ∷ path) s p b e = ⊎_elim
      (λ h. subst (λ v. (target (walk other v path) ≡ Local b) × (spot_at other (spot_below p j v) v path ≡ spot_at image (spot_below p j ((local image (target s)).slot j)) ((local image (target s)).slot j) path)) h
      (leads_too path ((local image (target s)).slot j) (spot_below p j ((local image (target s)).slot j)) b e))
      (λ n. absurd (lost image path ((local image (target s)).slot j) (λ c f. let no : Nil ≡ Local c = sym n ∙ f in cc) b e))
      (either (target s) j)

  found_too : {b : ℕ} {p : Spot} → FoundAt active image b p → FoundAt active other b p
  found_too {b = b} f = let h = leads_too f.path (to_block f.top) (top_spot f.top) b f.leads in record { top = f.top; is_top = f.is_top; path = f.path; leads = h.0; spot = h.1 ∙ f.spot }

pub slot_finds : {at i : ℕ} {s : Slot} {now : Image} {beside old new : Image → Type 0} → target s ≡ Nil → AddsSlot now at i s beside old new → FindsNoMore old new
slot_finds {at = at} {i = i} {now = now} nil adds = record {
  each = λ image is. ⊎_elim
      (λ was. record { other = image; is = was; bytes = λ b. refl; found = λ b p f. f })
      (λ h. let before = with_slot image at i ((now at).slot i) in
      record { other = before; is = h.1; bytes = slot_bytes image at i ((now at).slot i); found = λ b p f. found_too image before (ap target h.0 ∙ nil) (slot_other image at i ((now at).slot i)) f })
      (adds.each image is);
}

-- ---- images that find no more

pub nothing_finds : {old new : Image → Type 0} → AddsNothing old new → FindsNoMore old new
nothing_finds adds = record { each = λ image is. record { other = image; is = adds.each image is; bytes = λ b. refl; found = λ b p f. f } }

pub finds_joins : {a b c : Image → Type 0} → FindsNoMore a b → FindsNoMore b c → FindsNoMore a c
finds_joins first second = record {
  each = λ image is. let h = second.each image is in let k = first.each h.other h.is in
      record { other = k.other; is = k.is; bytes = λ b. k.bytes b ∙ h.bytes b; found = λ b p f. k.found b p (h.found b p f) };
}

shown_too : {old new : Image → Type 0} {p : Spot} {bytes : List ℕ} → FindsNoMore old new → IsShownAt new p bytes → IsShownAt old p bytes
shown_too {p = p} finds s = let h = finds.each s.image s.is in record { image = h.other; is = h.is; block = s.block; found = h.found s.block p s.found; same = h.bytes s.block ∙ s.same }

pub finds_shows : {old new : Image → Type 0} → FindsNoMore old new → ShowsNoMore old new
finds_shows finds = record { each = λ p bytes of is. inl (shown_too finds is) }

-- what may come still may
pub finds_come : {old new : Image → Type 0} {leaf : ℕ} {bytes was now : List ℕ} → now ≡ was → FindsNoMore old new → MayComeOnce leaf bytes was old → MayComeOnce leaf bytes now new
finds_come {old = old} {new = new} {leaf = leaf} {bytes = bytes} same finds may = subst (λ xs. MayComeOnce leaf bytes xs new) (sym same) (record {
  distinct = λ image p is found here of. let h = finds.each image is in may.distinct h.other p h.is (h.found leaf p found) (h.bytes leaf ∙ here) of;
  beside = λ image p r is found here of has. let h = finds.each image is in ⊎_elim
      (λ st. inl st)
      (λ lone. inr (record { each = λ q ys t of_q differ shown two clash. lone.each q ys t of_q differ (shown_too finds shown) two clash }))
      (may.beside h.other p r h.is (h.found leaf p found) (h.bytes leaf ∙ here) of has);
})
