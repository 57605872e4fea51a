-- A slot of a block of pointers below was led to a block that came: what leads to the same as memory's slot does so still.
use Rattle.std.proofs.Common.{◌≡◌, ◌≢◌, ◌⊎◌, ℕ, List, [], ◌∷◌, inl, inr, ⊎_elim, refl, sym, ◌∙◌, ap, subst}
use Rattle.std.proofs.lemmas.Bool.{cases_eq}
use Rattle.fo_ports.specs.of_image.declared.types.Pointer.TheVariants.{Local}
use Rattle.fo_crash.specs.declared.slot.Slot.{Slot}
use Rattle.fo_crash.specs.declared.slot.Slot.TheVariants.{Pointer as To}
use Rattle.fo_crash.specs.declared.place.Place.{Place}
use Rattle.fo_crash.specs.Images.{Content, Image, Reaches, target, to_block, with_slot}
use Rattle.fo_crash.specs.Names.{SameUse}
use Rattle.fo_crash.specs.Places.{place_below}
use Rattle.fo_crash.specs.Spots.{Spot, FoundAt, spot_below}
use Rattle.fo_crash.proofs.Reach.{lost}
use Rattle.fo_crash.proofs.Updates.{slot_bytes, slot_other, slot_here}
use Rattle.fo_ports.specs.Blocks.{IsInner}
use Rattle.fo_shown.specs.Shown.{active, IsOfRecords}
use Rattle.fo_shown.specs.Alike.{Finds}
use Rattle.fo_shown.proofs.Ways.{AllPlaced, found_stands, same_below}
use Rattle.fo_shown.proofs.Alikes.{Beside, IsCopy, IsNew, IsLedTo, LedAside, beside_slot, found_aside, found_led_too}
use Rattle.fo_alike.specs.Like.{IsOfEntries, NoneInUse, SameUses, LeadsAll, LeadsLike, LeadsSame}
use Rattle.fo_alike.proofs.Sorts.{of_records, of_entries, uses_back}
use Rattle.fo_alike.proofs.Leads.{HoldsNone, finds_down, finds_up, leads_on, leads_nowhere, leads_down, like_copy, like_copy_back, like_joins, like_new}
use Rattle.fo_alike.proofs.Likes.{Differs, differs_back, differs_put, uses_but_slot}
use Rattle.fo_alike.proofs.Linking.{inner_below, inner_not}
use Rattle.fo_alike.proofs.Sames.{like_found_aside}

-- ---- one sort of leaves

-- The images differ in one slot, and what that leads to in the one is found from it in the other: so is what any slot leads to, from the spot
-- where it leads to.
module _ {of : Spot → Type 0} {same : Content → Content → Type 0} {bare : Content → Type 0} {stands : ℕ → Place → Type 0} {a j : ℕ} {x y : Image} {s o : Slot} (d : Differs a j x y) (put : (x a).slot j ≡ s) (here : (y a).slot j ≡ o)
    (next : (c k b : ℕ) (p : Place) → (c ≢ a) ⊎ (k ≢ j) → stands c p → target ((x c).slot k) ≡ Local b → stands b (place_below p k ((x c).slot k)))
    (kept : (b : ℕ) (p : Spot) → of p → stands b p.place → same (x b) (y b))
    (leads : (p : Spot) → stands a p.place → LeadsAll of same bare x (spot_below p j s) s y (spot_below p j o) o) where
  abbrev Found : Spot → Slot → ℕ → Spot → Type 0
  Found p z b r = ((way : List ℕ) × (c : ℕ) × Finds y p z way c r × same (x b) (y c)) ⊎ bare (x b)

  along : (path : List ℕ) (p : Spot) (z : Slot) (b : ℕ) (r : Spot) → ((c : ℕ) → target z ≡ Local c → stands c p.place) → of r → Finds x p z path b r → Found p z b r
  along [] p z b r there is f = inl ([], b, record { leads = f.leads; spot = f.spot }, kept b r is (subst (λ w. stands b w.place) f.spot (there b f.leads)))
  along (k ∷ path) p z b r there is f = ⊎_elim
      (λ on. at_block on.0 on.1 (λ u kin g. along path (spot_below p k u) u b r kin is g))
      (λ none. absurd (lost x (k ∷ path) z none b f.leads))
      (leads_on z)
    where
      Rest : Type 0
      Rest = (u : Slot) → ((c : ℕ) → target u ≡ Local c → stands c (place_below p.place k u)) → Finds x (spot_below p k u) u path b r → Found (spot_below p k u) u b r

      at_block : (c : ℕ) → target z ≡ Local c → Rest → Found p z b r
      at_block c to rest = ⊎_elim
          (λ is_a. ⊎_elim (λ is_j. own is_a is_j) (λ ne. other (inr ne)) (cases_eq k j))
          (λ ne. other (inl ne))
          (cases_eq c a)
        where
          found : Finds x (spot_below p k ((x c).slot k)) ((x c).slot k) path b r
          found = finds_down k path to f

          stood : stands c p.place
          stood = there c to

          other : (c ≢ a) ⊎ (k ≢ j) → Found p z b r
          other ne = ⊎_elim
              (λ g. inl (k ∷ g.0, g.1, finds_up k g.0 to (subst (λ v. Finds y (spot_below p k v) v g.0 g.1 r) (d.slots c k ne) g.2), g.3))
              (λ none. inr none)
              (rest ((x c).slot k) (λ b e. next c k b p.place ne stood e) found)

          own : c ≡ a → k ≡ j → Found p z b r
          own is_a is_j =
              let left : (x c).slot k ≡ s = ap (λ m. (x m).slot k) is_a ∙ ap (λ m. (x a).slot m) is_j ∙ put in
              let right : o ≡ (y c).slot k = sym here ∙ ap (λ m. (y a).slot m) (sym is_j) ∙ ap (λ m. (y m).slot k) (sym is_a) in
              ⊎_elim
              (λ g. inl (k ∷ g.0, g.1, finds_up k g.0 to (subst (λ v. Finds y (spot_below p k v) v g.0 g.1 r) right (subst (λ m. Finds y (spot_below p m o) o g.0 g.1 r) (sym is_j) g.2)), g.3))
              (λ none. inr none)
              ((leads p (subst (λ m. stands m p.place) is_a stood)).each path b r is (subst (λ m. Finds x (spot_below p m s) s path b r) is_j (subst (λ v. Finds x (spot_below p k v) v path b r) left found)))

  leads_but_slot : {p : Spot} {z : Slot} → ((c : ℕ) → target z ≡ Local c → stands c p.place) → LeadsAll of same bare x p z y p z
  leads_but_slot {p} {z} there = record { each = λ path b r is f. along path p z b r there is f }

-- ---- all three

-- The images differ in one slot of a block of pointers, which leads in the one to what is like what it leads to in the other.
pub record IsLed (stands : ℕ → Place → Type 0) (a j : ℕ) (x y : Image) (s o : Slot) : Type 0 where
  pub differs : Differs a j x y
  pub put : (x a).slot j ≡ s
  pub here : (y a).slot j ≡ o
  pub next : (c k b : ℕ) (p : Place) → (c ≢ a) ⊎ (k ≢ j) → stands c p → target ((y c).slot k) ≡ Local b → stands b (place_below p k ((y c).slot k))
  pub inner : (p : Place) → stands a p → IsInner p.kind
  pub leads : (p : Spot) → stands a p.place → LeadsLike x (spot_below p j s) s y (spot_below p j o) o

pub like_below : {stands : ℕ → Place → Type 0} {a j : ℕ} {x y : Image} {s o z : Slot} {p : Spot} → IsLed stands a j x y s o → ((c : ℕ) → target z ≡ Local c → stands c p.place) → LeadsLike x p z y p z
like_below {stands} {a} {j} {x} {y} {s} {o} w there = record {
  records = leads_but_slot w.differs w.put w.here next (λ b p is stood. w.differs.bytes b) (λ p stood. (w.leads p stood).records) there;
  from = leads_but_slot w.differs w.put w.here next uses (λ p stood. (w.leads p stood).from) there;
  onto = leads_but_slot (differs_back w.differs) w.here w.put w.next (λ b p is stood. uses_back (x b) (y b) (uses b p is stood)) (λ p stood. (w.leads p stood).onto) there;
}
  where
    next : (c k b : ℕ) (p : Place) → (c ≢ a) ⊎ (k ≢ j) → stands c p → target ((x c).slot k) ≡ Local b → stands b (place_below p k ((x c).slot k))
    next c k b p ne stood e =
        let same : (x c).slot k ≡ (y c).slot k = w.differs.slots c k ne in
        subst (λ v. stands b (place_below p k v)) (sym same) (w.next c k b p ne stood (ap target (sym same) ∙ e))

    uses : (b : ℕ) (p : Spot) → IsOfEntries p → stands b p.place → SameUses (x b) (y b)
    uses b p is stood = uses_but_slot w.differs w.put w.here b (λ e. absurd (inner_not p.place (w.inner p.place (subst (λ m. stands m p.place) e stood)) is))

-- ---- sets of images

-- A slot of a block of pointers was led to a block that came, from which no path leads back to it. If that is a bare block, as a leaf of
-- entries it has nothing in use, and the slot led to no block, or to data.
pub record LedSame (stands : ℕ → Place → Type 0) (now : Image) (a j result : ℕ) (beside : Image → Type 0) (old new : Image → Type 0) : Type 0 where
  pub led : LedAside stands now a j result beside old new
  pub never : (image : Image) → new image → Reaches image (To (Local result)) a → ⊥
  pub unused : (image : Image) → new image → IsNew stands a j result image → (p : Spot) → stands a p.place → IsOfEntries (spot_below p j (To (Local result))) → NoneInUse (image result)
  pub holds : (image : Image) → new image → IsNew stands a j result image → (p : Place) → stands a p → HoldsNone ((now a).slot j) (place_below p j ((now a).slot j))

module _ {stands : ℕ → Place → Type 0} {now : Image} {a j result : ℕ} {beside : Image → Type 0} {old new : Image → Type 0} (w : LedSame stands now a j result beside old new) where
  abbrev s : Slot
  s = To (Local result)

  abbrev o : Slot
  o = (now a).slot j

  abbrev before : Image → Image
  before image = with_slot image a j o

  spots : (p : Spot) → IsInner p.place.kind → spot_below p j s ≡ spot_below p j o
  spots p inner = same_below p j s o (inner_below p.place j s o inner)

  leads_to : (image : Image) (copy : IsCopy a j result image (before image)) → target o ≡ Local copy.below
  leads_to image copy = ap target (sym (slot_here image a j o)) ∙ copy.leads

  is_led : (image : Image) → new image → (image a).slot j ≡ s → old (before image) → IsLed stands a j image (before image) s o
  is_led image is put was = record {
    differs = differs_put image a j o;
    put = put;
    here = slot_here image a j o;
    next = λ c k b p ne stood e. (w.led.places.each (before image) was).each c k b p stood e;
    inner = w.led.inner (before image) was;
    leads = λ p stood. ⊎_elim
        (λ copy. like_copy s o (beside_slot image a j o) (w.never image is) refl (leads_to image copy) (spots p (w.led.inner (before image) was p.place stood)) copy.same)
        (λ bare. like_new refl bare.none (λ of. bare.zeros p stood (subst (λ v. IsOfRecords (spot_below p j v)) (sym put) of)) (w.unused image is bare p stood) (w.holds image is bare p.place stood))
        (w.led.came image is put was);
  }

  module _ {next : Image} {at i : ℕ} {slot : Slot} (tops : (image : Image) → old image → (p : Place) (c : ℕ) → stands at p → target slot ≡ Local c → stands c (place_below p i slot)) (stays : (next at).slot i ≡ (now at).slot i) where
    -- What the slot leads to in a new image is like what memory's leads to in it, if that holds of what memory's leads to in the old one.
    same_led_by : ((image : Image) (p : Spot) → new image → (image a).slot j ≡ s → old (before image) → (image at).slot i ≡ (next at).slot i → FoundAt active image at p → FoundAt active (before image) at p × ((before image at).slot i ≡ (now at).slot i) × LeadsLike (before image) (spot_below p i ((next at).slot i)) ((next at).slot i) image (spot_below p i ((next at).slot i)) ((next at).slot i)) → LeadsSame old now at i slot → LeadsSame new next at i slot
    same_led_by back same = record {
      in_use = subst (λ z. SameUse slot z) (sym stays) same.in_use;
      each = λ image p is has found. ⊎_elim
          (λ was. subst (λ z. LeadsLike image (spot_below p i slot) slot image (spot_below p i z) z) (sym stays) (same.each image p was (has ∙ stays) found))
          (λ h.
          let there = back image p is h.0 h.1 has found in
          let stood : stands at p.place = found_stands (w.led.places.super_at (before image) h.1) (w.led.places.each (before image) h.1) there.0 in
          like_joins (like_below (is_led image is h.0 h.1) (λ c e. tops (before image) h.1 p.place c stood e))
          (like_joins
          (subst (λ z. LeadsLike (before image) (spot_below p i slot) slot (before image) (spot_below p i z) z) (sym stays) (same.each (before image) p h.1 there.1 there.0))
          there.2))
          (w.led.images.each image is);
    }

    -- No path from block 1 comes to the block of pointers yet.
    pub same_led : ((image : Image) → new image → Reaches image (to_block 1) a → ⊥) → LeadsSame old now at i slot → LeadsSame new next at i slot
    same_led apart same = same_led_by
        (λ image p is put was has found.
        let near : Beside a image (before image) = beside_slot image a j o in
        let there = found_aside near (apart image is) found in
        (there.0, sym (there.1.slots i) ∙ has ∙ stays, like_found_aside near (apart image is) found has))
        same

    -- The block of pointers may hang from block 1: then, for a bare block, the slot led to none.
    pub same_led_in_tree : {laid : ℕ → Place → Type 0} → AllPlaced laid new → ((image : Image) → new image → (p : Place) → laid a p → IsInner p.kind)
        → ((image : Image) → new image → IsNew stands a j result image → (p : Spot) → laid a p.place → ((c : ℕ) → target o ≢ Local c) × (IsOfEntries (spot_below p j s) → NoneInUse (image result)))
        → at ≢ result → (at ≢ a) ⊎ (i ≢ j) → LeadsSame old now at i slot → LeadsSame new next at i slot
    same_led_in_tree {laid} places inner bare_in not_result other_slot same = same_led_by
        (λ image p is put was has found.
        let there : FoundAt active (before image) at p = found_led_too (led_to image is put was) (w.led.places.super_at (before image) was) not_result found in
        let lies : laid at p.place = found_stands (places.super_at image is) (places.each image is) found in (
          there,
          slot_other image a j o at i other_slot ∙ has ∙ stays,
          like_below (led_back image is put was) (λ c e. subst (λ z. laid c (place_below p.place i z)) has ((places.each image is).each at i c p.place lies (ap target has ∙ e))),
        ))
        same
      where
        led_to : (image : Image) → new image → (image a).slot j ≡ s → old (before image) → IsLedTo stands a j result image (before image)
        led_to image is put was = record {
          bytes = λ b. sym (slot_bytes image a j o b);
          slots = λ b k apart. sym (slot_other image a j o b k apart);
          here = ap target put;
          inner = w.led.inner (before image) was;
          placed = w.led.places.each (before image) was;
          came = w.led.came image is put was;
        }

        led_back : (image : Image) → new image → (image a).slot j ≡ s → old (before image) → IsLed laid a j (before image) image o s
        led_back image is put was = record {
          differs = differs_back (differs_put image a j o);
          put = slot_here image a j o;
          here = put;
          next = λ c k b p ne stood e. (places.each image is).each c k b p stood e;
          inner = inner image is;
          leads = λ p stood. ⊎_elim
              (λ copy. like_copy_back s o (beside_slot image a j o) (w.never image is) refl (leads_to image copy) (spots p (inner image is p.place stood)) copy.same)
              (λ bare.
              let none = bare_in image is bare p stood in
              record {
                records = leads_nowhere of_records none.0;
                from = leads_nowhere of_entries none.0;
                onto = leads_down of_entries refl (λ of. inr (none.1 of)) (λ k. leads_nowhere of_entries (bare.none k));
              })
              (w.led.came image is put was);
        }
