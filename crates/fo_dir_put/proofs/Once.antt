-- What images show of records stands once where bytes of a leaf are put.
use Rattle.std.proofs.Common.{◌≡◌, ◌⊎◌, inl, inr, ⊎_elim, ℕ, ◌+◌, List, [], ◌∷◌, ◌++◌, Contains, replicate, refl, sym, ◌∙◌, ap, subst, arith}
use Rattle.std.proofs.lemmas.Bool.{cases_eq}
use Rattle.std.proofs.lemmas.List.{replicate-append-replicate}
use Rattle.fo_image.specs.declared.record.Record.{Record}
use Rattle.fo_image.specs.Field.{Two, number, zeros}
use Rattle.fo_ports.specs.Blocks.{zero_bytes}
use Rattle.fo_ports.specs.of_meta.Leaf.{SpellsLeaf}
use Rattle.fo_good.specs.Reading.{leaf_records}
use Rattle.fo_good.proofs.Leaf.{leaf_is_read}
use Rattle.fo_crash.specs.declared.slot.Slot.{Slot}
use Rattle.fo_image.specs.declared.types.Pointer.{Pointer}
use Rattle.fo_image.specs.declared.types.Pointer.TheVariants.{Nil, Local, Score as Held}
use Rattle.fo_crash.specs.Images.{Content, Image, to_block, target, local, with_bytes}
use Rattle.fo_crash.specs.Spots.{Spot, FoundAt, OneSpot, spot_at, spot_below, top_spot}
use Rattle.fo_crash.specs.Steps.{AddsBytes}
use Rattle.fo_crash.proofs.Updates.{bytes_other, bytes_here, bytes_slot}
use Rattle.fo_crash.proofs.Reach.{same_walk}
use Rattle.fo_shown.specs.Shown.{active, IsOfRecords, IsShownAt, ShowsNoMore}
use Rattle.fo_dir_put.specs.Differ.{Distinct, AreDistinct}
use Rattle.fo_dir_put.specs.Once.{ClashAt, StandOnce, MayComeOnce}
use Rattle.fo_dir_put.proofs.Aparts.{clash_from}

-- ---- clashes

pub clash_back : (p q : Spot) (r t : Record) → ClashAt p q r t → ClashAt q p t r
clash_back p q r t (inl e) = inl (sym e)
clash_back p q r t (inr (same, inl e)) = inr ((sym same.0, sym same.1), inl (sym e))
clash_back p q r t (inr (same, inr (inl e))) = inr ((sym same.0, sym same.1), inr (inl (sym e)))
clash_back p q r t (inr (same, inr (inr e))) = inr ((sym same.0, sym same.1), inr (inr (sym e)))

-- a record clashes where one with its name, number and pair does
pub clash_as : (p q : Spot) (r b t : Record) → b.name ≡ r.name → b.number ≡ r.number → b.slot ≡ r.slot → ClashAt p q r t → ClashAt p q b t
clash_as p q r b t name number slot (inl e) = inl (number ∙ e)
clash_as p q r b t name number slot (inr h) = inr (h.0, clash_from r b t (sym name) (sym number) (sym slot) h.1)

-- ---- where slots are the same

same_spot : (image other : Image) → ((a i : ℕ) → (image a).slot i ≡ (other a).slot i) → (path : List ℕ) (s : Slot) (p : Spot) → spot_at image p s path ≡ spot_at other p s path
same_spot image other same [] s p = refl
same_spot image other same (i ∷ path) s p =
    ap (λ x. spot_at image (spot_below p i x) x path) (one (target s)) ∙ same_spot image other same path ((local other (target s)).slot i) (spot_below p i ((local other (target s)).slot i))
  where
    one : (x : Pointer) → (local image x).slot i ≡ (local other x).slot i
    one Nil = refl
    one (Held y) = refl
    one (Local a) = same a i

pub found_on : {tops : ℕ → Type 0} {image other : Image} {b : ℕ} {p : Spot} → ((a i : ℕ) → (image a).slot i ≡ (other a).slot i) → FoundAt tops image b p → FoundAt tops other b p
found_on {image = image} {other = other} same f = record {
  top = f.top;
  is_top = f.is_top;
  path = f.path;
  leads = sym (ap target (same_walk image other same f.path (to_block f.top))) ∙ f.leads;
  spot = sym (same_spot image other same f.path (to_block f.top) (top_spot f.top)) ∙ f.spot;
}

-- one leaf, shown at two spots, is shown at one
one_leaf : {tops : ℕ → Type 0} {images : Image → Type 0} {image other : Image} {leaf : ℕ} {p q : Spot} → tops 1 → OneSpot tops images → images image → images other → FoundAt active image leaf p → FoundAt active other leaf q → p ≡ q
one_leaf {tops = tops} {image = image} {other = other} {leaf = leaf} {p = p} {q = q} top one is was f h = one.each image other leaf p q is was (kept f) (kept h)
  where
    kept : {x : Image} {s : Spot} → FoundAt active x leaf s → FoundAt tops x leaf s
    kept k = record { top = k.top; is_top = subst tops (sym k.is_top) top; path = k.path; leads = k.leads; spot = k.spot }

-- ---- a leaf of zeros has no record

zeros_are : (xs : List ℕ) (n : ℕ) → xs ≡ replicate n 0 → xs ≡ zeros n
unfolding zeros
zeros_are xs n e = e

zeros-append : (m n : ℕ) → zeros m ++ zeros n ≡ zeros (m + n)
unfolding zeros
zeros-append m n = replicate-append-replicate m n 0

four : (xs : List ℕ) → zeros 4 ++ xs ≡ number Two 0 ++ (number Two 0 ++ xs)
unfolding zeros
four xs = refl

zero_is : (xs : List ℕ) → xs ≡ zero_bytes → xs ≡ replicate 8192 0
unfolding zero_bytes
zero_is xs e = e

no_records : (xs : List ℕ) → xs ≡ zero_bytes → SpellsLeaf [] xs
no_records xs e = record { each = tt; room = omega arith; bytes_are = zeros_are xs 8192 (zero_is xs e) ∙ sym (zeros-append 4 8188) ∙ four (zeros 8188) }

none_there : (r : Record) → Contains [] r → ⊥
none_there r has = let lt = has.1 in omega (arith, lt)

-- ---- images that show no more

module _ {old new : Image → Type 0} (shows : ShowsNoMore old new) (once : StandOnce old) where
  nothing_in : (bytes : List ℕ) (r : Record) → bytes ≡ zero_bytes → Contains (leaf_records bytes) r → ⊥
  nothing_in bytes r e has = none_there r (subst (λ xs. Contains xs r) (leaf_is_read [] bytes (no_records bytes e)) has)

  pub shows_once : StandOnce new
  shows_once = record {
    within = λ p bytes of is. ⊎_elim (λ was. once.within p bytes of was) (λ e. record { are = subst Distinct (sym (leaf_is_read [] bytes (no_records bytes e))) tt }) (shows.each p bytes of is);
    between = λ p q xs ys r t of_p of_q differ is was one two clash. ⊎_elim
        (λ before. ⊎_elim
        (λ there. once.between p q xs ys r t of_p of_q differ before there one two clash)
        (λ e. nothing_in ys t e two)
        (shows.each q ys of_q was))
        (λ e. nothing_in xs r e one)
        (shows.each p xs of_p is);
  }

-- ---- bytes of a leaf were put

-- At this spot an image of before has this leaf, with these bytes.
record Lies (images : Image → Type 0) (leaf : ℕ) (p : Spot) (bytes : List ℕ) : Type 0 where
  image : Image
  is : images image
  found : FoundAt active image leaf p
  same : (image leaf).bytes ≡ bytes

lies_shown : {images : Image → Type 0} {leaf : ℕ} {p : Spot} {bytes : List ℕ} → Lies images leaf p bytes → IsShownAt images p bytes
lies_shown {leaf = leaf} l = record { image = l.image; is = l.is; block = leaf; found = l.found; same = l.same }

-- what is shown now was shown, or is the new bytes, at a spot where the old ones were
shown_by : {leaf : ℕ} {bytes : List ℕ} {now : Image} {P old new : Image → Type 0} → AddsBytes now leaf bytes P old new → (p : Spot) (xs : List ℕ) → IsShownAt new p xs → IsShownAt old p xs ⊎ ((xs ≡ bytes) × Lies old leaf p ((now leaf).bytes))
shown_by {leaf = leaf} {bytes = bytes} {now = now} {old = old} adds p xs s = ⊎_elim
    (λ was. inl (record { image = s.image; is = was; block = s.block; found = s.found; same = s.same }))
    (λ h. ⊎_elim
    (λ e. inr (sym s.same ∙ ap (λ b. (s.image b).bytes) e ∙ h.0, record { image = before; is = h.1; found = subst (λ b. FoundAt active before b p) e there; same = bytes_here s.image leaf ((now leaf).bytes) }))
    (λ ne. inl (record { image = before; is = h.1; block = s.block; found = there; same = ap (λ (c : Content). c.bytes) (bytes_other s.image leaf ((now leaf).bytes) s.block ne) ∙ s.same }))
    (cases_eq s.block leaf))
    (adds.each s.image s.is)
  where
    before : Image
    before = with_bytes s.image leaf ((now leaf).bytes)

    there : FoundAt active before s.block p
    there = found_on (λ a i. sym (bytes_slot s.image leaf ((now leaf).bytes) a i)) s.found

module _ {leaf : ℕ} {new_bytes old_bytes : List ℕ} {images : Image → Type 0} (may : MayComeOnce leaf new_bytes old_bytes images) (once : StandOnce images) where
  -- a new record, and one that another leaf shows
  aside : (p q : Spot) (ys : List ℕ) (r t : Record) → IsOfRecords p → IsOfRecords q → (p ≡ q → ⊥) → Lies images leaf p old_bytes → IsShownAt images q ys → Contains (leaf_records new_bytes) r → Contains (leaf_records ys) t → ClashAt p q r t → ⊥
  aside p q ys r t of_p of_q differ lies shown one two clash = ⊎_elim
      (λ st. once.between p q old_bytes ys st.before t of_p of_q differ (lies_shown lies) shown st.is_one two (clash_as p q r st.before t st.name st.number st.slot clash))
      (λ lone. lone.each q ys t of_q differ shown two clash)
      (may.beside lies.image p r lies.is lies.found lies.same of_p one)

pub bytes_once : {leaf : ℕ} {bytes : List ℕ} {now : Image} {tops : ℕ → Type 0} {P old new : Image → Type 0} → AddsBytes now leaf bytes P old new → MayComeOnce leaf bytes ((now leaf).bytes) old → tops 1 → OneSpot tops old → StandOnce old → StandOnce new
bytes_once {leaf = leaf} {bytes = bytes} {now = now} {old = old} {new = new} adds may top spots once = record {
  within = λ p xs of is. ⊎_elim
      (λ was. once.within p xs of was)
      (λ h. subst AreDistinct (sym h.0) (may.distinct h.1.image p h.1.is h.1.found h.1.same of))
      (shown_by adds p xs is);
  between = λ p q xs ys r t of_p of_q differ is was one two clash. ⊎_elim
      (λ before. ⊎_elim
      (λ there. once.between p q xs ys r t of_p of_q differ before there one two clash)
      (λ k. aside may once q p xs t r of_q of_p (λ e. differ (sym e)) k.1 before (put k.0 two) one (clash_back p q r t clash))
      (shown_by adds q ys was))
      (λ h. ⊎_elim
      (λ there. aside may once p q ys r t of_p of_q differ h.1 there (put h.0 one) two clash)
      (λ k. differ (one_leaf top spots h.1.is k.1.is h.1.found k.1.found))
      (shown_by adds q ys was))
      (shown_by adds p xs is);
}
  where
    put : {zs : List ℕ} {x : Record} → zs ≡ bytes → Contains (leaf_records zs) x → Contains (leaf_records bytes) x
    put {x = x} e has = subst (λ ws. Contains (leaf_records ws) x) e has
