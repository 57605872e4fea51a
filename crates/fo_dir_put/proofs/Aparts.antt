-- No name, number or pair stands in two leaves.
use Rattle.std.proofs.Common.{◌≡◌, ◌≢◌, inl, inr, ⊎_elim, ℕ, List, Contains, refl, sym, ◌∙◌, ap, subst}
use Rattle.fo_image.specs.declared.record.Record.{Record}
use Rattle.fo_good.specs.Reading.{leaf_records}
use Rattle.fo_crash.specs.Images.{Content, Image, with_bytes, with_slot}
use Rattle.fo_crash.specs.declared.slot.Slot.{Slot}
use Rattle.fo_crash.specs.Steps.{AddsBytes, AddsSlot, AddsNothing}
use Rattle.fo_crash.proofs.Updates.{bytes_other, bytes_here, bytes_slot, slot_bytes}
use Rattle.fo_crash.specs.Names.{IsInUse, NamesFit}
use Rattle.fo_dir_put.specs.Names.{ListsIn, AllFit, Clash, AllApart, MayStand, ShowsBytes, ShowsBut, LeavesRest}

pub clash_from : (r p q : Record) → r.name ≡ p.name → r.number ≡ p.number → r.slot ≡ p.slot → Clash r q → Clash p q
clash_from r p q name number slot clash = ⊎_elim (λ e. inl (sym name ∙ e)) (λ more. ⊎_elim (λ e. inr (inl (sym number ∙ e))) (λ e. inr (inr (sym slot ∙ e))) more) clash

pub slot_shows : {at i : ℕ} {s : Slot} {now : Image} {beside old new : Image → Type 0} → AddsSlot now at i s beside old new → ShowsBytes old new
slot_shows {at = at} {i = i} {now = now} {old = old} adds = record { each = λ image is. ⊎_elim (λ was. as_it_was image was) (λ h. put image h.1) (adds.each image is) }
  where
    as_it_was : (image : Image) → old image → (other : Image) × old other × ((b : ℕ) → (image b).bytes ≡ (other b).bytes)
    as_it_was image was = (image, was, λ b. refl)

    put : (image : Image) → old (with_slot image at i ((now at).slot i)) → (other : Image) × old other × ((b : ℕ) → (image b).bytes ≡ (other b).bytes)
    put image was = (with_slot image at i ((now at).slot i), was, λ b. sym (slot_bytes image at i ((now at).slot i) b))

pub shows_joins : {old mid new : Image → Type 0} → ShowsBytes old mid → ShowsBytes mid new → ShowsBytes old new
shows_joins {old = old} {mid = mid} first second = record { each = λ image is. by image (second.each image is) }
  where
    by : (image : Image) → (other : Image) × mid other × ((b : ℕ) → (image b).bytes ≡ (other b).bytes) → (other : Image) × old other × ((b : ℕ) → (image b).bytes ≡ (other b).bytes)
    by image h = let k = first.each h.0 h.1 in (k.0, k.1, λ b. h.2 b ∙ k.2 b)

pub nothing_shows : {old new : Image → Type 0} → AddsNothing old new → ShowsBytes old new
nothing_shows adds = record { each = λ image is. (image, adds.each image is, λ b. refl) }

pub shows_apart : {a b : ℕ} {old new : Image → Type 0} → AllApart a b old → ShowsBytes old new → AllApart a b new
shows_apart {a = a} {b = b} all shows = record {
  each = λ image other is was r q one two clash. let h = shows.each image is in let k = shows.each other was in
      all.each h.0 k.0 h.1 k.1 r q (subst (λ xs. Contains (leaf_records xs) r) (h.2 a) one) (subst (λ xs. Contains (leaf_records xs) q) (k.2 b) two) clash;
}

abbrev Rest : ℕ → (Image → Type 0) → Image → Type 0
Rest leaf old image = (other : Image) × old other × ((b : ℕ) → b ≢ leaf → (image b).bytes ≡ (other b).bytes) × ((b j : ℕ) → (image b).slot j ≡ (other b).slot j)

abbrev Bytes : ℕ → (Image → Type 0) → Image → Type 0
Bytes leaf old image = (other : Image) × old other × ((b : ℕ) → b ≢ leaf → (image b).bytes ≡ (other b).bytes)

-- Where bytes of a leaf were put, each image is one of before but for them.
pub bytes_rest : {leaf : ℕ} {bytes : List ℕ} {now : Image} {P old new : Image → Type 0} → AddsBytes now leaf bytes P old new → LeavesRest leaf old new
bytes_rest {leaf = leaf} {now = now} {old = old} adds = record { each = λ image is. ⊎_elim (λ was. as_it_was image was) (λ h. put image h.1) (adds.each image is) }
  where
    as_it_was : (image : Image) → old image → Rest leaf old image
    as_it_was image was = (image, was, λ b ne. refl, λ b j. refl)

    put : (image : Image) → old (with_bytes image leaf ((now leaf).bytes)) → Rest leaf old image
    put image was = (with_bytes image leaf ((now leaf).bytes), was, λ b ne. ap (λ (c : Content). c.bytes) (sym (bytes_other image leaf ((now leaf).bytes) b ne)), λ b j. sym (bytes_slot image leaf ((now leaf).bytes) b j))

pub rest_later : {leaf : ℕ} {old mid new : Image → Type 0} → AddsNothing old mid → LeavesRest leaf mid new → LeavesRest leaf old new
rest_later {leaf = leaf} {old = old} {mid = mid} first second = record { each = λ image is. by image (second.each image is) }
  where
    by : (image : Image) → Rest leaf mid image → Rest leaf old image
    by image h = (h.0, first.each h.0 h.1, h.2, h.3)

pub rest_shows : {leaf : ℕ} {old mid new : Image → Type 0} → ShowsBytes old mid → LeavesRest leaf mid new → ShowsBut leaf old new
rest_shows {leaf = leaf} {old = old} {mid = mid} first second = record { each = λ image is. by image (second.each image is) }
  where
    by : (image : Image) → Rest leaf mid image → Bytes leaf old image
    by image h = let k = first.each h.0 h.1 in (k.0, k.1, λ b ne. h.2 b ne ∙ k.2 b)

pub rest_but : {leaf : ℕ} {old new : Image → Type 0} → LeavesRest leaf old new → ShowsBut leaf old new
rest_but {leaf = leaf} {old = old} rest = record { each = λ image is. by image (rest.each image is) }
  where
    by : (image : Image) → Rest leaf old image → Bytes leaf old image
    by image h = (h.0, h.1, h.2)

-- Another leaf keeps that its records have their entries in use.
pub others_fit : {n a leaf entries : ℕ} {old new : Image → Type 0} → a ≢ leaf → AllFit n a entries old → LeavesRest leaf old new → AllFit n a entries new
others_fit {n = n} {a = a} {leaf = leaf} {entries = entries} {old = old} differs all rest = record { are = record { each = λ image is. fits image (rest.each image is) } }
  where
    fits : (image : Image) → Rest leaf old image → NamesFit (ListsIn n) a entries image
    fits image h = record { each = λ j g lists. subst (λ (x : Slot). IsInUse x g) (sym (h.3 entries j)) ((all.are.each h.0 h.1).each j g (subst (λ xs. ListsIn n xs j g) (h.2 a differs) lists)) }

-- Two other leaves stay apart.
pub others_apart : {a b leaf : ℕ} {old new : Image → Type 0} → a ≢ leaf → b ≢ leaf → AllApart a b old → ShowsBut leaf old new → AllApart a b new
others_apart {a = a} {b = b} one_not two_not all shows = record {
  each = λ image other is was r q one two clash. let h = shows.each image is in let k = shows.each other was in
      all.each h.0 k.0 h.1 k.1 r q (subst (λ xs. Contains (leaf_records xs) r) (h.2 a one_not) one) (subst (λ xs. Contains (leaf_records xs) q) (k.2 b two_not) two) clash;
}

-- bytes of the first leaf were put
pub bytes_apart : {leaf b : ℕ} {bytes : List ℕ} {now : Image} {P old new : Image → Type 0} → b ≢ leaf → AllApart leaf b old → AddsBytes now leaf bytes P old new → MayStand b bytes ((now leaf).bytes) old → AllApart leaf b new
bytes_apart {leaf = leaf} {b = b} {bytes = bytes} {now = now} {old = old} differs all adds may = record {
  each = λ image other is was r q one two clash.
      let k = (bytes_rest adds).each other was in
      let there = subst (λ xs. Contains (leaf_records xs) q) (k.2 b differs) two in
      ⊎_elim
      (λ before. all.each image k.0 before k.1 r q one there clash)
      (λ h. put image k.0 h.0 h.1 k.1 r q one there clash)
      (adds.each image is);
}
  where
    put : (image other : Image) → (image leaf).bytes ≡ bytes → old (with_bytes image leaf ((now leaf).bytes)) → old other → (r q : Record) → Contains (leaf_records ((image leaf).bytes)) r → Contains (leaf_records ((other b).bytes)) q → Clash r q → ⊥
    put image other here was other_was r q one two clash = ⊎_elim
        (λ p. all.each (with_bytes image leaf ((now leaf).bytes)) other was other_was p.0 q (subst (λ xs. Contains (leaf_records xs) p.0) (sym (bytes_here image leaf ((now leaf).bytes))) p.1) two (clash_from r p.0 q p.2 p.3 p.4 clash))
        (λ none. none other other_was q two clash)
        (may.each r (subst (λ xs. Contains (leaf_records xs) r) here one))

-- what may be put still may, over images of the same bytes
pub may_later : {other : ℕ} {bytes was now : List ℕ} {old new : Image → Type 0} → was ≡ now → ShowsBytes old new → MayStand other bytes was old → MayStand other bytes now new
may_later {other = other} {bytes = bytes} {was = was} {new = new} is shows may = subst (λ xs. MayStand other bytes xs new) is fewer
  where
    fewer : MayStand other bytes was new
    fewer = record { each = λ r has. ⊎_elim (λ p. inl p) (λ none. inr (λ image now_is q two clash. let h = shows.each image now_is in none h.0 h.1 q (subst (λ xs. Contains (leaf_records xs) q) (h.2 other) two) clash)) (may.each r has) }

-- Apart is apart from both sides.
pub apart_back : {a b : ℕ} {images : Image → Type 0} → AllApart a b images → AllApart b a images
apart_back all = record { each = λ image other is was r q one two clash. all.each other image was is q r two one (clash_back r q clash) }
  where
    clash_back : (r q : Record) → Clash r q → Clash q r
    clash_back r q clash = ⊎_elim (λ e. inl (sym e)) (λ more. ⊎_elim (λ e. inr (inl (sym e))) (λ e. inr (inr (sym e))) more) clash
