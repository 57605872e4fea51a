-- Where a slot is cleared, what other entries lead to is found as it was.
use Rattle.std.proofs.Common.{◌≡◌, ◌≢◌, ◌⊎◌, inl, inr, ⊎_elim, ℕ, zero, suc, ◌+◌, ◌*◌, ◌<◌, ◌≤◌, true, List, [], ◌∷◌, ◌++◌, length, refl, sym, ◌∙◌, ap, subst}
use Rattle.std.proofs.lemmas.Bool.{cases_eq}
use Rattle.fo_image.specs.declared.types.Entry.{Entry}
use Rattle.fo_image.specs.declared.types.Kind.{Kind}
use Rattle.fo_image.specs.declared.types.Kind.TheVariants.{Data, Dir, Root}
use Rattle.fo_image.specs.declared.types.Pointer.TheVariants.{Nil, Local}
use Rattle.fo_crash.specs.declared.slot.Slot.{Slot}
use Rattle.fo_crash.specs.declared.slot.Slot.TheVariants.{Entry as Head}
use Rattle.fo_crash.specs.declared.place.Place.{Place}
use Rattle.fo_crash.specs.Images.{Image, target, local, with_slot}
use Rattle.fo_crash.specs.Places.{place, super_place, IsPlaced}
use Rattle.fo_crash.specs.Spots.{Spot, FoundAt, FewSlots, spot_at, spot_below, top_spot}
use Rattle.fo_crash.proofs.Updates.{slot_other, slot_here}
use Rattle.fo_ports.specs.Shown.{active}
use Rattle.fo_shown.proofs.Uses.{found_or_uses}
use Rattle.fo_alike.specs.Like.{IsOfEntries}
use Rattle.fo_dir_put.proofs.Once.{found_on}
use Rattle.fo_dir_pairs.specs.Pairs.{IsNamed}
use Rattle.fo_dir_pairs.proofs.Beside.{slots}
use Rattle.fo_dir_pairs.proofs.Finding.{way_leads, way_spot}
use Rattle.fo_dir_pairs.proofs.Trails.{Holds, At, back_at, onto, at_too, via, one_holder, no_less}

-- ---- trails grow along paths

pub below_at : (kind : Kind) (tag index rank : ℕ) (trail : List ℕ) (i : ℕ) (s : Slot) → ((spot_below (record { place = place kind tag index rank; trail = trail }) i s).trail ≡ trail) ⊎ ((n : ℕ) × ((spot_below (record { place = place kind tag index rank; trail = trail }) i s).trail ≡ n ∷ trail))
below_at (Data level) tag index rank trail i s = inl refl
below_at (Dir zero) tag index rank trail i s = inr (204 * index + i, refl)
below_at (Dir (suc level)) tag index rank trail i s = inl refl
below_at Root tag index rank trail i s = inr (i, refl)

one_more : (xs : List ℕ) (n : ℕ) (ys : List ℕ) → xs ++ n ∷ ys ≡ (xs ++ n ∷ []) ++ ys
one_more [] n ys = refl
one_more (x ∷ xs) n ys = ap (λ t. x ∷ t) (one_more xs n ys)

pub grows : (image : Image) (path : List ℕ) (s : Slot) (p : Spot) → (front : List ℕ) × ((spot_at image p s path).trail ≡ front ++ p.trail)
grows image [] s p = ([], refl)
grows image (i ∷ path) s p =
    let v = (local image (target s)).slot i in
    let next = grows image path v (spot_below p i v) in
    ⊎_elim
    (λ e. (next.0, next.1 ∙ ap (λ t. next.0 ++ t) e))
    (λ h. (next.0 ++ h.0 ∷ [], next.1 ∙ ap (λ t. next.0 ++ t) h.1 ∙ one_more next.0 h.0 p.trail))
    (below_at p.place.kind p.place.tag p.place.index p.place.rank p.trail i v)

-- ---- the number of an entry

pub record Numbers (z : Spot) (i : ℕ) (s : Slot) : Type 0 where
  pub number : ℕ
  pub holds : Holds z i number
  pub trail_is : (spot_below z i s).trail ≡ number ∷ z.trail

pub numbers : (z : Spot) (i : ℕ) (s : Slot) → IsOfEntries z → i < 204 → Numbers z i s
numbers z i s of few = ⊎_elim
    (λ e. record {
      number = 204 * z.place.index + i;
      holds = inl (e, refl, few);
      trail_is = subst (λ k. (spot_below (record { place = place k z.place.tag z.place.index z.place.rank; trail = z.trail }) i s).trail ≡ (204 * z.place.index + i) ∷ z.trail) (sym e) refl;
    })
    (λ e. record {
      number = i;
      holds = inr (e, refl);
      trail_is = subst (λ k. (spot_below (record { place = place k z.place.tag z.place.index z.place.rank; trail = z.trail }) i s).trail ≡ i ∷ z.trail) (sym e) refl;
    })
    of

first_is : {m n : ℕ} {xs ys : List ℕ} → m ∷ xs ≡ n ∷ ys → m ≡ n
first_is e = cc

rest_is : {m n : ℕ} {xs ys : List ℕ} → m ∷ xs ≡ n ∷ ys → xs ≡ ys
rest_is e = cc

-- ---- a slot that was cleared

-- In the second image this slot of block `at` leads nowhere, and is no entry in use; all others are those of the first.
pub record ClearsOne (at j : ℕ) (image other : Image) : Type 0 where
  pub nil : target ((other at).slot j) ≡ Nil
  pub unused : (e : Entry) → (other at).slot j ≡ Head e → e.active ≡ true → ⊥
  pub others : (b i : ℕ) → (b ≢ at) ⊎ (i ≢ j) → (other b).slot i ≡ (image b).slot i

module _ {stands holds : ℕ → Place → Type 0} (image other : Image) (at j : ℕ) (clears : ClearsOne at j image other) (few_slots : j < 204) (entries : (z : Spot) → FoundAt active image at z → IsOfEntries z)
    (super_at : stands 1 super_place) (placed : IsPlaced stands image) (few : FewSlots stands image) (super_too : holds 1 super_place) (placed_too : IsPlaced holds other) (few_too : FewSlots holds other) where
  back : (a i c : ℕ) → target ((other a).slot i) ≡ Local c → (image a).slot i ≡ (other a).slot i
  back a i c to = slots other image at j clears.nil (λ b k ne. sym (clears.others b k ne)) a i c to

  -- the source that an entry of the second image names hangs not from the cleared slot
  aside : (z : Spot) (path : List ℕ) (n : ℕ) (front trail : List ℕ) (tag : ℕ) → At image 1 path at z → Holds z j n → trail ≡ front ++ n ∷ z.trail → IsNamed other trail tag → ⊥
  aside z path n front trail tag at_z holds_z e named = by front (sym number.trail_is ∙ named.trail_is ∙ e)
    where
      number : Numbers named.at named.slot (Head named.entry)
      number = numbers named.at named.slot (Head named.entry) named.holds named.within

      way : At other 1 (onto named.found.path []) named.block named.at
      way = subst (λ q. At other 1 (onto named.found.path []) named.block q) (way_spot named.found) (back_at other 1 named.found.path named.block (way_leads named.found))

      short : length (top_spot 1).trail ≤ length z.trail
      short = no_less {t = 1} placed few super_at path at z at_z

      by : (front : List ℕ) → number.number ∷ named.at.trail ≡ front ++ n ∷ z.trail → ⊥
      by [] same =
          let one = one_holder {t = 1} placed few super_at (onto named.found.path []) path named.block at named.slot j n named.at z (at_too other image 1 back (onto named.found.path []) named.block named.at way) at_z (rest_is same) (subst (λ m. Holds named.at named.slot m) (first_is same) number.holds) holds_z in
          clears.unused named.entry (ap (λ k. (other at).slot k) (sym one.1) ∙ ap (λ b. (other b).slot named.slot) (sym one.0) ∙ named.is) named.used.0
      by (m ∷ more) same =
          let v = via {t = 1} placed_too few_too super_too (onto named.found.path []) named.block named.at way more n z.trail (rest_is same) short in
          let one = one_holder {t = 1} placed few super_at v.way path v.block at v.slot j n v.holder z (at_too other image 1 back v.way v.block v.holder v.at) at_z v.trail_is v.holds holds_z in
          let no : Nil ≡ Local v.below = sym clears.nil ∙ ap (λ k. target ((other at).slot k)) (sym one.1) ∙ ap (λ b. target ((other b).slot v.slot)) (sym one.0) ∙ v.leads in
          absurd (cc)

  -- a block of a source that is named is found as it was
  pub still_found : {b : ℕ} {p : Spot} {tag : ℕ} → FoundAt active image b p → IsNamed other p.trail tag → FoundAt active other b p
  still_found {b} {p} {tag} found named = ⊎_elim
      (λ h. found_on alike h.found)
      (λ u.
      let number = numbers u.holder j ((image at).slot j) (entries u.holder u.above) few_slots in
      let grown = grows image u.rest ((image at).slot j) (spot_below u.holder j ((image at).slot j)) in
      absurd (aside u.holder (onto u.above.path []) number.number grown.0 p.trail tag (subst (λ q. At image 1 (onto u.above.path []) at q) (way_spot u.above) (back_at image 1 u.above.path at (way_leads u.above))) number.holds
      (ap (λ (q : Spot). q.trail) (sym u.goes.spot) ∙ grown.1 ∙ ap (λ t. grown.0 ++ t) number.trail_is) named))
      (found_or_uses image at j ((image at).slot j) ((other at).slot j) refl found)
    where
      alike : (a i : ℕ) → (with_slot image at j ((other at).slot j) a).slot i ≡ (other a).slot i
      alike a i = ⊎_elim
          (λ is_at. ⊎_elim
          (λ is_i. ap (λ k. (with_slot image at j ((other at).slot j) k).slot i) is_at ∙ ap (λ k. (with_slot image at j ((other at).slot j) at).slot k) is_i ∙ slot_here image at j ((other at).slot j) ∙ ap (λ k. (other at).slot k) (sym is_i) ∙ ap (λ k. (other k).slot i) (sym is_at))
          (λ ne. slot_other image at j ((other at).slot j) a i (inr ne) ∙ sym (clears.others a i (inr ne)))
          (cases_eq i j))
          (λ ne. slot_other image at j ((other at).slot j) a i (inl ne) ∙ sym (clears.others a i (inl ne)))
          (cases_eq a at)
