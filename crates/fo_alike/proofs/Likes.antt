-- Images that are like one another, and the steps on blocks whose new images are like old ones.
use Rattle.std.proofs.Common.{◌≡◌, ◌≢◌, ◌⊎◌, ◌%◌, ℕ, List, inl, inr, ⊎_elim, refl, sym, ◌∙◌, ap, subst}
use Rattle.std.proofs.lemmas.Bool.{cases_eq}
use Rattle.fo_ports.specs.of_image.declared.types.Kind.TheVariants.{Data, Root}
use Rattle.fo_crash.specs.declared.slot.Slot.{Slot}
use Rattle.fo_crash.specs.declared.place.Place.{Place}
use Rattle.fo_crash.specs.Images.{Content, Image, Reaches, target, to_block, with_slot, with_bytes, with_block}
use Rattle.fo_crash.specs.Steps.{AddsNothing, AddsBlock, AddsBytes, AddsSuper, AllAre}
use Rattle.fo_crash.specs.Places.{super_place, OnePlace}
use Rattle.fo_crash.specs.Spots.{Spot, FoundAt, spot_below}
use Rattle.fo_crash.specs.Names.{InAll, SameUse}
use Rattle.fo_crash.proofs.Names.{same_use_self}
use Rattle.fo_crash.proofs.Updates.{slot_bytes, slot_other, slot_here, bytes_other, bytes_slot, block_other, block_here}
use Rattle.fo_ports.specs.Blocks.{zero_bytes}
use Rattle.fo_shown.specs.Shown.{active, IsOfRecords, ShowsNoMore}
use Rattle.fo_shown.proofs.Ways.{found_on, found_stands, AllPlaced}
use Rattle.fo_shown.proofs.Uses.{found_or_uses, holder_found, found_further}
use Rattle.fo_shown.proofs.Alikes.{Beside, Aside, beside_back, found_aside, apart_too, given_aside}
use Rattle.fo_shown.specs.Alike.{Finds}
use Rattle.fo_alike.specs.Like.{IsOfEntries, NamesInUse, FindsAll, IsLike, ShowsSame, SameUses, LeadsAll, LeadsLike}
use Rattle.fo_alike.proofs.Sorts.{IsSort, of_records, of_entries, used_too, uses_back}

-- ---- one sort of leaves

-- What is found is found in an image with the same slots.
found_same : {x y : Image} {b : ℕ} {p : Spot} → ((a j : ℕ) → (x a).slot j ≡ (y a).slot j) → FoundAt active x b p → FoundAt active y b p
found_same {x} {y} slots found = (found_on {on = λ a q. Unit {0}} {image = x} {other = y} (record { each = λ a j c q here to. (ap target (sym (slots a j)) ∙ to, ap (λ s. spot_below q j s) (slots a j), tt) }) tt found).0

-- The two images differ in one slot at most.
pub record Differs (at i : ℕ) (x y : Image) : Type 0 where
  pub bytes : (b : ℕ) → (x b).bytes ≡ (y b).bytes
  pub slots : (b j : ℕ) → (b ≢ at) ⊎ (j ≢ i) → (x b).slot j ≡ (y b).slot j

pub differs_back : {at i : ℕ} {x y : Image} → Differs at i x y → Differs at i y x
differs_back d = record { bytes = λ b. sym (d.bytes b); slots = λ b j apart. sym (d.slots b j apart) }

pub differs_put : (image : Image) (at i : ℕ) (o : Slot) → Differs at i image (with_slot image at i o)
differs_put image at i o = record { bytes = λ b. sym (slot_bytes image at i o b); slots = λ b j apart. sym (slot_other image at i o b j apart) }

-- With the other's slot the one image has the slots of the other.
put_back : {at i : ℕ} {x y : Image} {o : Slot} → Differs at i x y → (y at).slot i ≡ o → (a j : ℕ) → (with_slot x at i o a).slot j ≡ (y a).slot j
put_back {at} {i} {x} {y} {o} d here a j = ⊎_elim
    (λ is_at. ⊎_elim
    (λ is_i. ap (λ k. (with_slot x at i o k).slot j) is_at ∙ ap (λ k. (with_slot x at i o at).slot k) is_i ∙ slot_here x at i o ∙ sym here ∙ ap (λ k. (y at).slot k) (sym is_i) ∙ ap (λ k. (y k).slot j) (sym is_at))
    (λ ne. slot_other x at i o a j (inr ne) ∙ d.slots a j (inr ne))
    (cases_eq j i))
    (λ ne. slot_other x at i o a j (inl ne) ∙ d.slots a j (inl ne))
    (cases_eq a at)

-- The block of the slot is found in both, where the slot leads not back to it.
holder_too : {at i : ℕ} {x y : Image} {s o : Slot} {p : Spot} → Differs at i x y → (x at).slot i ≡ s → (y at).slot i ≡ o → ((p : Spot) → FoundAt active x at p → Reaches x s at → ⊥) → FoundAt active x at p → FoundAt active y at p
holder_too {at} {i} {x} {y} {s} {o} {p} d put here apart f = found_same (put_back d here) (holder_found x at i s o put (apart p f) f).found

module _ {of : Spot → Type 0} {same : Content → Content → Type 0} {bare : Content → Type 0} (sort : IsSort same bare) where
  pub finds_joins : {x y z : Image} → FindsAll of same bare x y → FindsAll of same bare y z → FindsAll of same bare x z
  finds_joins first second = record {
    each = λ p b is f. ⊎_elim
        (λ g. ⊎_elim
        (λ h. inl (h.0, h.1, sort.joins g.2 h.2))
        (λ none. inr (sort.bare_back g.2 none))
        (second.each p g.0 is g.1))
        (λ none. inr none)
        (first.each p b is f);
  }

  -- The images differ in one block alone, to which no path leads.
  pub finds_all_aside : {a : ℕ} {x y : Image} → Beside a x y → (Reaches x (to_block 1) a → ⊥) → FindsAll of same bare x y
  finds_all_aside near apart = record { each = λ p b is f. let g = found_aside near apart f in inl (b, g.0, sort.content g.1) }

  -- The images have the same slots.
  pub finds_by_slots : {x y : Image} → ((a j : ℕ) → (x a).slot j ≡ (y a).slot j) → ((b : ℕ) (p : Spot) → of p → FoundAt active x b p → same (x b) (y b)) → FindsAll of same bare x y
  finds_by_slots slots here = record { each = λ p b is f. inl (b, found_same slots f, here b p is f) }

  -- The images differ in one slot, which leads not back to its block: what is found by it in the one is what its slot leads to in the other,
  -- and all else is found in both.
  pub finds_but_slot : {at i : ℕ} {x y : Image} {s o : Slot} → Differs at i x y → (x at).slot i ≡ s → (y at).slot i ≡ o
      → ((p : Spot) → FoundAt active x at p → Reaches x s at → ⊥)
      → ((b : ℕ) (p : Spot) → of p → FoundAt active x b p → same (x b) (y b))
      → ((p : Spot) → FoundAt active x at p → FoundAt active y at p → LeadsAll of same bare x (spot_below p i s) s y (spot_below p i o) o)
      → FindsAll of same bare x y
  finds_but_slot {at} {i} {x} {y} {s} {o} d put here apart kept leads = record {
    each = λ p b is f. ⊎_elim
        (λ g. inl (b, found_same (put_back d here) g.found, kept b p is f))
        (λ u.
        let there : FoundAt active y at u.holder = holder_too d put here apart u.above in
        ⊎_elim
        (λ g. inl (g.1, (found_further i g.0 there (subst (λ z. Finds y (spot_below u.holder i z) z g.0 g.1 p) (sym here) g.2)).found, g.3))
        (λ none. inr none)
        ((leads u.holder u.above there).each u.rest b p is u.goes))
        (found_or_uses x at i s o put f);
  }

-- ---- two images

pub like_itself : (x : Image) → IsLike x x
like_itself x = record {
  records = finds_by_slots of_records (λ a j. refl) (λ b p is f. refl);
  from = finds_by_slots of_entries (λ a j. refl) (λ b p is f j. same_use_self ((x b).slot j) ((x b).slot j) refl);
  onto = finds_by_slots of_entries (λ a j. refl) (λ b p is f j. same_use_self ((x b).slot j) ((x b).slot j) refl);
}

pub likes_join : {x y z : Image} → IsLike x y → IsLike y z → IsLike x z
likes_join first second = record {
  records = finds_joins of_records first.records second.records;
  from = finds_joins of_entries first.from second.from;
  onto = finds_joins of_entries second.onto first.onto;
}

-- The images differ in one block alone, to which no path leads.
pub aside_like : {a : ℕ} {x y : Image} → Beside a x y → (Reaches x (to_block 1) a → ⊥) → IsLike x y
aside_like near apart = record {
  records = finds_all_aside of_records near apart;
  from = finds_all_aside of_entries near apart;
  onto = finds_all_aside of_entries (beside_back near) (apart_too near apart);
}

-- The images have the same slots, and the same bytes in leaves of records.
pub slots_like : {x y : Image} → ((a j : ℕ) → (x a).slot j ≡ (y a).slot j) → ((b : ℕ) (p : Spot) → IsOfRecords p → FoundAt active x b p → (x b).bytes ≡ (y b).bytes) → IsLike x y
slots_like {x} {y} slots bytes = record {
  records = finds_by_slots of_records slots bytes;
  from = finds_by_slots of_entries slots (λ b p is f j. same_use_self ((x b).slot j) ((y b).slot j) (slots b j));
  onto = finds_by_slots of_entries (λ a j. sym (slots a j)) (λ b p is f j. same_use_self ((y b).slot j) ((x b).slot j) (sym (slots b j)));
}

-- The images differ in one slot, which leads in neither back to its block, to what is like; in a leaf of entries it is in the same use.
pub record DiffersLike (at i : ℕ) (x y : Image) (s o : Slot) : Type 0 where
  pub differs : Differs at i x y
  pub put : (x at).slot i ≡ s
  pub here : (y at).slot i ≡ o
  pub apart : (p : Spot) → FoundAt active x at p → Reaches x s at → ⊥
  pub apart_there : (p : Spot) → FoundAt active y at p → Reaches y o at → ⊥
  pub uses : (p : Spot) → IsOfEntries p → FoundAt active y at p → SameUse s o
  pub leads : (p : Spot) → FoundAt active x at p → FoundAt active y at p → LeadsLike x (spot_below p i s) s y (spot_below p i o) o

-- Their leaves of entries are in the same use, where the slot is.
pub uses_but_slot : {at i : ℕ} {x y : Image} {s o : Slot} → Differs at i x y → (x at).slot i ≡ s → (y at).slot i ≡ o → (b : ℕ) → (b ≡ at → SameUse s o) → SameUses (x b) (y b)
uses_but_slot {at} {i} {x} {y} {s} {o} d put here b own j = ⊎_elim
    (λ is_at. ⊎_elim
    (λ is_i.
    let left : s ≡ (x b).slot j = sym put ∙ ap (λ k. (x at).slot k) (sym is_i) ∙ ap (λ k. (x k).slot j) (sym is_at) in
    let right : o ≡ (y b).slot j = sym here ∙ ap (λ k. (y at).slot k) (sym is_i) ∙ ap (λ k. (y k).slot j) (sym is_at) in
    subst (λ z. SameUse z ((y b).slot j)) left (subst (λ z. SameUse s z) right (own is_at)))
    (λ ne. same_use_self ((x b).slot j) ((y b).slot j) (d.slots b j (inr ne)))
    (cases_eq j i))
    (λ ne. same_use_self ((x b).slot j) ((y b).slot j) (d.slots b j (inl ne)))
    (cases_eq b at)

pub differs_like : {at i : ℕ} {x y : Image} {s o : Slot} → DiffersLike at i x y s o → IsLike x y
differs_like {at} {i} {x} {y} {s} {o} w = record {
  records = finds_but_slot of_records w.differs w.put w.here w.apart (λ b p is f. w.differs.bytes b) (λ p f g. (w.leads p f g).records);
  from = finds_but_slot of_entries w.differs w.put w.here w.apart (λ b p is f. uses_but_slot w.differs w.put w.here b (λ e. w.uses p is (holder_too w.differs w.put w.here w.apart (subst (λ z. FoundAt active x z p) e f)))) (λ p f g. (w.leads p f g).from);
  onto = finds_but_slot of_entries (differs_back w.differs) w.here w.put w.apart_there
      (λ b p is f. uses_back (x b) (y b) (uses_but_slot w.differs w.put w.here b (λ e. w.uses p is (subst (λ z. FoundAt active y z p) e f))))
      (λ p f g. (w.leads p g f).onto);
}

-- ---- sets of images

-- no image was added
pub nothing_same : {old new : Image → Type 0} → AddsNothing old new → ShowsSame old new
nothing_same adds = record { each = λ image is. (image, adds.each image is, like_itself image) }

-- one change after another
pub shows_same_joins : {old mid new : Image → Type 0} → ShowsSame old mid → ShowsSame mid new → ShowsSame old new
shows_same_joins first second = record {
  each = λ image is.
      let (between, is_mid, near) = second.each image is in
      let (other, was, far) = first.each between is_mid in
      (other, was, likes_join near far);
}

-- Each new image is an old one, but for a block to which no path leads.
pub aside_same : {a : ℕ} {old new : Image → Type 0} → Aside a old new → ShowsSame old new
aside_same aside = record {
  each = λ image is. let (other, was, near) = aside.before image is in (other, was, aside_like near (aside.apart image is));
}

-- A block was given out: no path leads to it.
pub block_same : {tops : ℕ → Type 0} {at : ℕ} {c : Content} {old new : Image → Type 0} → tops 1 → AddsBlock tops at c old new → ShowsSame old new
block_same top adds = aside_same (given_aside top adds)

-- Bytes were put into a block that is no leaf of records.
pub bytes_same : {stands : ℕ → Place → Type 0} {now : Image} {at : ℕ} {bytes : List ℕ} {beside : Image → Type 0} {old new : Image → Type 0} → AllPlaced stands old → ((p : Place) → stands at p → (p.kind ≡ Data 0) × (p.rank % 32 ≡ 16) → ⊥) → AddsBytes now at bytes beside old new → ShowsSame old new
bytes_same {stands} {now} {at} {bytes} {beside} {old} {new} placed elsewhere adds = record {
  each = λ image is. ⊎_elim
      (λ was. (image, was, like_itself image))
      (λ h. (with_bytes image at ((now at).bytes), h.1, like image h.1))
      (adds.each image is);
}
  where
    like : (image : Image) → old (with_bytes image at ((now at).bytes)) → IsLike image (with_bytes image at ((now at).bytes))
    like image was =
        let slots : (a j : ℕ) → (image a).slot j ≡ (with_bytes image at ((now at).bytes) a).slot j = λ a j. sym (bytes_slot image at ((now at).bytes) a j) in
        slots_like slots (λ b p is f. ⊎_elim
        (λ e. absurd (elsewhere p.place (subst (λ z. stands z p.place) e (found_stands (placed.super_at (with_bytes image at ((now at).bytes)) was) (placed.each (with_bytes image at ((now at).bytes)) was) (found_same slots f))) is))
        (λ ne. ap (λ (x : Content). x.bytes) (sym (bytes_other image at ((now at).bytes) b ne)))
        (cases_eq b at))

-- Memory's super block came in the place of another with the same slots.
pub super_same : {stands : ℕ → Place → Type 0} {now : Image} {beside : Image → Type 0} {old new : Image → Type 0} → OnePlace stands → AllPlaced stands old → ((image : Image) → beside image → (i : ℕ) → (image 1).slot i ≡ (now 1).slot i) → AddsSuper now beside old new → ShowsSame old new
super_same {stands} {now} {beside} {old} {new} one placed slots_same adds = record {
  each = λ image is. ⊎_elim
      (λ was. (image, was, like_itself image))
      (λ h. (with_block image 1 (now 1), h.0, like image h.0 (slots_same image h.1)))
      (adds.each image is);
}
  where
    like : (image : Image) → old (with_block image 1 (now 1)) → ((i : ℕ) → (image 1).slot i ≡ (now 1).slot i) → IsLike image (with_block image 1 (now 1))
    like image was way =
        let slots : (a j : ℕ) → (image a).slot j ≡ (with_block image 1 (now 1) a).slot j = λ a j. ⊎_elim
        (λ e. ap (λ k. (image k).slot j) e ∙ way j ∙ ap (λ (x : Content). x.slot j) (sym (block_here image 1 (now 1))) ∙ ap (λ k. (with_block image 1 (now 1) k).slot j) (sym e))
        (λ ne. ap (λ (x : Content). x.slot j) (sym (block_other image 1 (now 1) a ne)))
        (cases_eq a 1) in
        slots_like slots (λ b p is f. ⊎_elim
        (λ e.
        let stood : stands b p.place = found_stands (placed.super_at (with_block image 1 (now 1)) was) (placed.each (with_block image 1 (now 1)) was) (found_same slots f) in
        let no : Root ≡ Data 0 = ap (λ (x : Place). x.kind) (one.each 1 super_place p.place (placed.super_at (with_block image 1 (now 1)) was) (subst (λ z. stands z p.place) e stood)) ∙ is.0 in
        absurd (cc))
        (λ ne. ap (λ (x : Content). x.bytes) (sym (block_other image 1 (now 1) b ne)))
        (cases_eq b 1))

-- Where every image is what memory has, each is like memory's.
pub settled_same : {now : Image} {images : Image → Type 0} → AllAre now images → ShowsSame (λ image. image ≡ now) images
settled_same {now} all = record {
  each = λ image is. (now, refl, slots_like (λ a j. ((all.each image is).each a).slots j) (λ b p of f. ((all.each image is).each b).bytes));
}

-- Where each new image is like an old one, nothing more is shown.
pub same_shows : {old new : Image → Type 0} → ShowsSame old new → ShowsNoMore old new
same_shows same = record {
  each = λ p bytes of is.
      let (other, was, like) = same.each is.image is.is in
      ⊎_elim
      (λ g. inl (record { image = other; is = was; block = g.0; found = g.1; same = sym g.2 ∙ is.same }))
      (λ zeros. inr (sym is.same ∙ zeros))
      (like.records.each p is.block of is.found);
}

-- What names name is in use in each image, if it was in each old one, and zeros name nothing.
pub names_like : {Names : Spot → List ℕ → Spot → ℕ → ℕ → Type 0} {image other : Image} → ((p q : Spot) (j g : ℕ) → Names p zero_bytes q j g → ⊥) → IsLike image other → NamesInUse Names other → NamesInUse Names image
names_like {Names} {image} {other} none like all = record {
  each = λ p q b j g of f names. ⊎_elim
      (λ r.
      let there = all.each p q r.0 j g of r.1 (subst (λ bytes. Names p bytes q j g) r.2 names) in
      ⊎_elim
      (λ e. (there.0, e.0, e.1, used_too ((other there.1).slot j) ((image e.0).slot j) g (e.2 j) there.3))
      (λ bare. absurd (bare j g there.3))
      (like.onto.each q there.1 there.0 there.2))
      (λ zeros. absurd (none p q j g (subst (λ bytes. Names p bytes q j g) zeros names)))
      (like.records.each p b of f);
}

pub names_same : {Names : Spot → List ℕ → Spot → ℕ → ℕ → Type 0} {old new : Image → Type 0} → ((p q : Spot) (j g : ℕ) → Names p zero_bytes q j g → ⊥) → ShowsSame old new → InAll (NamesInUse Names) old → InAll (NamesInUse Names) new
names_same none same all = record {
  each = λ image is. let (other, was, like) = same.each image is in names_like none like (all.each other was);
}
