-- What images show of records stands once where one moves within its directory.
use Rattle.std.proofs.Common.{◌≡◌, ◌≢◌, inl, inr, ⊎_elim, ℕ, List, Contains, refl, sym, ◌∙◌, ap, subst}
use Rattle.std.proofs.lemmas.Bool.{cases_eq}
use Rattle.fo_image.specs.declared.record.Record.{Record}
use Rattle.fo_image.specs.declared.types.Pointer.TheVariants.{Local}
use Rattle.fo_dir_put.specs.of_good.Reading.{leaf_records}
use Rattle.fo_crash.specs.Images.{Image, Reaches, target, to_block, walk}
use Rattle.fo_crash.specs.Places.{super_place, IsPlaced}
use Rattle.fo_crash.specs.Spots.{Spot, FoundAt, OneSpot, FewSlots, top_spot, spot_at}
use Rattle.fo_crash.specs.Steps.{AddsNothing, AllAre}
use Rattle.fo_crash.proofs.Spots.{same_path}
use Rattle.fo_ports.specs.State.{State}
use Rattle.fo_dir_put.specs.of_shown.Shown.{active, IsOfRecords, IsShownAt}
use Rattle.fo_dir_put.specs.Names.{Clash, LeavesRest}
use Rattle.fo_dir_put.specs.Differ.{AreDistinct}
use Rattle.fo_dir_put.specs.Once.{IsSameDir, ClashAt, StandOnce, StandsIn, IsLone, MayComeOnce}
use Rattle.fo_dir_put.proofs.Aparts.{clash_from}
use Rattle.fo_dir_put.proofs.Once.{found_on}
use Rattle.fo_dir_move.specs.Moves.{HasKeys, MovesKeys, AreOfOneDir}

-- What is known of images where the device tells.
pub record HasLaws (s : State) : Type 0 where
  pub now : s.may_leave s.now
  pub top : s.tops 1
  pub one_spot : OneSpot s.tops s.may_leave
  pub super_at : s.stands 1 super_place
  pub placed : (image : Image) → s.may_leave image → IsPlaced s.stands image
  pub few : (image : Image) → s.may_leave image → FewSlots s.stands image

-- images that are there only where the device tells
pub once_told : {images : Image → Type 0} {told : Type 0} → ((image : Image) → images image → told) → (told → StandOnce images) → StandOnce images
once_told tells once = record {
  within = λ p bytes of is. (once (tells is.image is.is)).within p bytes of is;
  between = λ p q xs ys r t of_p of_q differ is was one two clash. (once (tells is.image is.is)).between p q xs ys r t of_p of_q differ is was one two clash;
}

-- ---- spots and blocks

module _ {s : State} (laws : HasLaws s) where
  -- a block is found at one spot
  one_at : {image other : Image} {b : ℕ} {p q : Spot} → s.may_leave image → s.may_leave other → FoundAt active image b p → FoundAt active other b q → p ≡ q
  one_at {image = image} {other = other} {b = b} {p = p} {q = q} is was f h = laws.one_spot.each image other b p q is was (kept f) (kept h)
    where
      kept : {x : Image} {y : Spot} → FoundAt active x b y → FoundAt s.tops x b y
      kept k = record { top = k.top; is_top = subst s.tops (sym k.is_top) laws.top; path = k.path; leads = k.leads; spot = k.spot }

  same_target : (x : Image) {i j : List ℕ} {a b : ℕ} → i ≡ j → target (walk x (to_block 1) i) ≡ Local a → target (walk x (to_block 1) j) ≡ Local b → a ≡ b
  same_target x e one two = let h = sym one ∙ ap (λ i. target (walk x (to_block 1) i)) e ∙ two in cc

  -- and at a spot there is one block of an image
  one_block : {image : Image} {a b : ℕ} {p : Spot} → s.may_leave image → FoundAt active image a p → FoundAt active image b p → a ≡ b
  one_block {image = image} {a = a} {b = b} {p = p} is f h = same_target image one_way one two
    where
      one : target (walk image (to_block 1) f.path) ≡ Local a
      one = subst (λ t. target (walk image (to_block t) f.path) ≡ Local a) f.is_top f.leads

      two : target (walk image (to_block 1) h.path) ≡ Local b
      two = subst (λ t. target (walk image (to_block t) h.path) ≡ Local b) h.is_top h.leads

      one_spot : spot_at image (top_spot 1) (to_block 1) f.path ≡ p
      one_spot = subst (λ t. spot_at image (top_spot t) (to_block t) f.path ≡ p) f.is_top f.spot

      two_spot : spot_at image (top_spot 1) (to_block 1) h.path ≡ p
      two_spot = subst (λ t. spot_at image (top_spot t) (to_block t) h.path ≡ p) h.is_top h.spot

      one_way : f.path ≡ h.path
      one_way = same_path (laws.placed image is) (laws.few image is) laws.super_at f.path h.path a b one two (one_spot ∙ sym two_spot)

-- ---- what is left in the leaf was there

stands_as : {bytes : List ℕ} {r : Record} → HasKeys bytes r → StandsIn bytes r
stands_as k = record { before = k.keyed; is_one = k.is_one; name = sym k.same.0; number = sym k.same.1; slot = sym k.same.2 }

pub left_once : {leaf : ℕ} {from_bytes to_bytes without with : List ℕ} {images : Image → Type 0} → MovesKeys from_bytes to_bytes without with → AreDistinct without → MayComeOnce leaf without from_bytes images
left_once keys distinct = record {
  distinct = λ image p is found here of. distinct;
  beside = λ image p r is found here of has. inl (stands_as (keys.kept r has));
}

-- ---- the two leaves in memory

module _ {s : State} {from to : ℕ} (laws : HasLaws s) (once : StandOnce s.may_leave) (beside : AreOfOneDir from to s) where
  from_shown : IsShownAt s.may_leave beside.from_spot ((s.now from).bytes)
  from_shown = record { image = s.now; is = laws.now; block = from; found = beside.from_found; same = refl }

  to_shown : IsShownAt s.may_leave beside.to_spot ((s.now to).bytes)
  to_shown = record { image = s.now; is = laws.now; block = to; found = beside.to_found; same = refl }

  pub from_distinct : AreDistinct ((s.now from).bytes)
  from_distinct = once.within beside.from_spot ((s.now from).bytes) beside.of_records.0 from_shown

  pub to_distinct : AreDistinct ((s.now to).bytes)
  to_distinct = once.within beside.to_spot ((s.now to).bytes) beside.of_records.1 to_shown

  pub none_both : from ≢ to → (q r : Record) → Contains (leaf_records ((s.now to).bytes)) q → Contains (leaf_records ((s.now from).bytes)) r → Clash q r → ⊥
  none_both differ q r two one clash = once.between beside.to_spot beside.from_spot ((s.now to).bytes) ((s.now from).bytes) q r beside.of_records.1 beside.of_records.0
      (λ e. differ (one_block laws laws.now beside.from_found (subst (λ x. FoundAt active s.now to x) e beside.to_found)))
      to_shown from_shown two one (inr ((sym beside.same.0, sym beside.same.1), clash))

-- ---- after the first half

-- An image of now is one of before, but for the bytes of a leaf.
record Came (leaf : ℕ) (old : Image → Type 0) (image : Image) : Type 0 where
  was : Image
  is : old was
  bytes : (b : ℕ) → b ≢ leaf → (was b).bytes ≡ (image b).bytes
  found : (b : ℕ) (p : Spot) → FoundAt active image b p → FoundAt active was b p

came : {leaf : ℕ} {old mid last : Image → Type 0} → LeavesRest leaf old mid → AddsNothing mid last → (image : Image) → last image → Came leaf old image
came rest adds image is = let h = rest.each image (adds.each image is) in record {
  was = h.0;
  is = h.1;
  bytes = λ b ne. sym (h.2 b ne);
  found = λ b p f. found_on h.3 f;
}

clash_of : (p q : Spot) (r t : Record) → ClashAt p q r t → Clash r t
clash_of p q r t clash = ⊎_elim (λ e. inr (inl e)) (λ h. h.1) clash

-- a clash at a spot is one at another of its directory, of a record with these keys
clash_at : (p f q : Spot) (r k t : Record) → IsSameDir f p → (r.name ≡ k.name) × (r.number ≡ k.number) × (r.slot ≡ k.slot) → ClashAt p q r t → ClashAt f q k t
clash_at p f q r k t dir same clash = ⊎_elim
    (λ e. inl (sym same.1 ∙ e))
    (λ h. inr ((dir.0 ∙ h.0.0, dir.1 ∙ h.0.1), clash_from r k t same.0 same.1 same.2 h.1))
    clash

module _ {s : State} {from to : ℕ} {mid last : Image → Type 0} (laws : HasLaws s) (once : StandOnce s.may_leave) (beside : AreOfOneDir from to s) (rest : LeavesRest from s.may_leave mid) (adds : AddsNothing mid last) where
  -- what another leaf shows now it showed before
  shown_before : {q : Spot} {ys : List ℕ} (shown : IsShownAt last q ys) → shown.block ≢ from → IsShownAt s.may_leave q ys
  shown_before {q = q} shown ne = let c = came rest adds shown.image shown.is in record { image = c.was; is = c.is; block = shown.block; found = c.found shown.block q shown.found; same = c.bytes shown.block ne ∙ shown.same }

  from_at : {image : Image} {p : Spot} → last image → FoundAt active image from p → beside.from_spot ≡ p
  from_at {image = image} {p = p} is found = let c = came rest adds image is in one_at laws laws.now c.is beside.from_found (c.found from p found)

  to_at : {image : Image} {p : Spot} → last image → FoundAt active image to p → beside.to_spot ≡ p
  to_at {image = image} {p = p} is found = let c = came rest adds image is in one_at laws laws.now c.is beside.to_found (c.found to p found)

  -- ---- what is put back

  none_back : (q : Spot) (ys : List ℕ) (r t : Record) → IsOfRecords q → (beside.from_spot ≡ q → ⊥) → IsShownAt last q ys → Contains (leaf_records ((s.now from).bytes)) r
      → Contains (leaf_records ys) t → ClashAt beside.from_spot q r t → ⊥
  none_back q ys r t of_q differ shown one two clash = ⊎_elim
      (λ e. differ (from_at shown.is (subst (λ b. FoundAt active shown.image b q) e shown.found)))
      (λ ne. once.between beside.from_spot q ((s.now from).bytes) ys r t beside.of_records.0 of_q differ (from_shown laws once beside) (shown_before shown ne) one two clash)
      (cases_eq shown.block from)

  pub back_once : {bytes left : List ℕ} → bytes ≡ (s.now from).bytes → MayComeOnce from bytes left last
  back_once {left = left} same = subst (λ xs. MayComeOnce from xs left last) (sym same) (record {
    distinct = λ image p is found here of. from_distinct laws once beside;
    beside = λ image p r is found here of has. inr (subst (λ x. IsLone last x r) (from_at is found) (record { each = λ q ys t of_q differ shown two clash. none_back q ys r t of_q differ shown has two clash }));
  })

  -- ---- what is put into the other leaf

  module _ {now : Image} (settled : AllAre now last) (linked : Reaches now (to_block 1) from) where
    -- another leaf is not at the spot of the first
    elsewhere : {q : Spot} {ys : List ℕ} (shown : IsShownAt last q ys) → shown.block ≢ from → beside.from_spot ≡ q → ⊥
    elsewhere {q = q} shown ne e = ne (one_block laws c.is (c.found shown.block q shown.found) there)
      where
        c : Came from s.may_leave shown.image
        c = came rest adds shown.image shown.is

        same : (b j : ℕ) → (now b).slot j ≡ (shown.image b).slot j
        same b j = sym (((settled.each shown.image shown.is).each b).slots j)

        at : Spot
        at = spot_at now (top_spot 1) (to_block 1) linked.path

        here : FoundAt active shown.image from at
        here = found_on same (record { top = 1; is_top = refl; path = linked.path; leads = linked.leads; spot = refl })

        there : FoundAt active c.was from q
        there = subst (λ x. FoundAt active c.was from x) (sym (from_at shown.is here) ∙ e) (c.found from at here)

    -- what is left in the first leaf is all that images show of it
    left_shows : {without : List ℕ} {q : Spot} {ys : List ℕ} → (now from).bytes ≡ without → (shown : IsShownAt last q ys) → shown.block ≡ from → ys ≡ without
    left_shows left shown e = sym shown.same ∙ ap (λ b. (shown.image b).bytes) e ∙ ((settled.each shown.image shown.is).each from).bytes ∙ left

    none_beside : {without : List ℕ} → (now from).bytes ≡ without → (r : Record) → (k : HasKeys ((s.now from).bytes) r) → ((x : Record) → Contains (leaf_records without) x → Clash r x → ⊥)
        → (q : Spot) (ys : List ℕ) (t : Record) → IsOfRecords q → IsShownAt last q ys → Contains (leaf_records ys) t → ClashAt beside.to_spot q r t → ⊥
    none_beside left r k free q ys t of_q shown two clash = ⊎_elim
        (λ e. free t (subst (λ xs. Contains (leaf_records xs) t) (left_shows left shown e) two) (clash_of beside.to_spot q r t clash))
        (λ ne. once.between beside.from_spot q ((s.now from).bytes) ys k.keyed t beside.of_records.0 of_q (elsewhere shown ne) (from_shown laws once beside) (shown_before shown ne) k.is_one two
        (clash_at beside.to_spot beside.from_spot q r k.keyed t beside.same k.same clash))
        (cases_eq shown.block from)

    pub moved_once : {without with : List ℕ} → (now from).bytes ≡ without → MovesKeys ((s.now from).bytes) ((s.now to).bytes) without with → AreDistinct with → MayComeOnce to with ((s.now to).bytes) last
    moved_once left keys distinct = record {
      distinct = λ image p is found here of. distinct;
      beside = λ image p r is found here of has. ⊎_elim
          (λ k. inl (stands_as k))
          (λ h. inr (subst (λ x. IsLone last x r) (to_at is found) (record { each = λ q ys t of_q differ shown two clash. none_beside left r h.0 h.1 q ys t of_q shown two clash })))
          (keys.moved r has);
    }
