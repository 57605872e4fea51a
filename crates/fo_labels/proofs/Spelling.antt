-- Labels are spelled one after the other.
use Rattle.std.proofs.Common.{◌≡◌, ⊎_elim, ℕ, ◌+◌, ◌-◌, ◌*◌, ◌%◌, ◌<◌, ◌≤◌, Bool, true, false, cond, nat_lt, List, length, length-drop, take, drop, replicate, refl, sym, ◌∙◌, ap, subst, arith}
use Rattle.std.proofs.lemmas.Bool.{cases_lt, cases_eq, lt-ltb}
use Rattle.std.proofs.lemmas.List.{drop-take, drop-replicate, get_or_past, length-take-le}
use Rattle.std.proofs.lemmas.Slice.{between-put_mid, take-put_mid_below, drop-put_mid}
use borrow.Rule.Slice.PartMut.{put_mid, same_len_mid}
use Rattle.fo_image.specs.declared.types.Label.{Label}
use Rattle.fo_image.specs.Format.{LabelHolds, SpellsLabel}
use Rattle.fo_image.specs.Place.{label_byte}
use Rattle.fo_image.specs.Usable.{free_label}
use Rattle.fo_labels.specs.Region.{Region, label_of}
use Rattle.fo_labels.specs.Spelled.{AreLabels, PutsLabel, SpellsLabels, StartsLabels, label_at, part_at}

-- ---- each label can be spelled

free_holds : LabelHolds free_label
free_holds = record { state_holds = (refl, refl, refl, refl) }

pub label_holds : {r : Region} (at : ℕ) → AreLabels r → LabelHolds (label_at r at)
label_holds {r} at all = by (nat_lt at r.first) refl
  where
    inside : (at : ℕ) → r.first ≤ at → LabelHolds (label_of r at)
    inside at le = ⊎_elim
        (λ lt. all.each at (record { from = le; to = lt }))
        (λ ge. subst LabelHolds (sym (get_or_past r.labels (at - r.first) free_label (omega (arith, le, ge)))) free_holds)
        (cases_lt at (r.first + length r.labels))

    by : (t : Bool) → nat_lt at r.first ≡ t → LabelHolds (cond t free_label (label_of r at))
    by true e = free_holds
    by false e = ⊎_elim (λ lt. absurd (clash (sym (lt-ltb at r.first lt) ∙ e))) (λ le. inside at le) (cases_lt at r.first)
      where
        clash : true ≡ false → ⊥
        clash h = cc

-- ---- one label is put

-- a part before the one that was written, and a part after it
before : (a k b m : ℕ) (xs ys : List ℕ) → b + m ≤ a → a ≤ length xs → take m (drop b (put_mid a k xs ys)) ≡ take m (drop b xs)
before a k b m xs ys le fits = sym (drop-take b m (put_mid a k xs ys)) ∙ ap (drop b) (take-put_mid_below a k xs ys (b + m) le fits) ∙ drop-take b m xs

after : (a k b m : ℕ) (xs ys : List ℕ) → a + k ≤ b → a ≤ length xs → length ys ≡ k → take m (drop b (put_mid a k xs ys)) ≡ take m (drop b xs)
after a k b m xs ys le fits long = ap (take m) (drop-put_mid a k xs ys b le fits long)

pub puts_label : (l : Label) (place from k : ℕ) (old part : List ℕ) → from ≡ 14 * place → k ≡ from + 14 - from → place < 585 → length old ≡ 8192 → length part ≡ k → SpellsLabel l part → PutsLabel l place old (put_mid from k old part)
puts_label l place from k old part is count lt long part_long spelled = record {
  long = same_len_mid from k old part (part_fits);
  here = subst (SpellsLabel l) (sym read) spelled;
  others = λ i ne. ⊎_elim
      (λ less. before from k (14 * i) 14 old part (omega (arith, is, less)) (omega (arith, is, lt, long)))
      (λ more. after from k (14 * i) 14 old part (omega (arith, is, count, more, ne)) (omega (arith, is, lt, long)) part_long)
      (cases_lt i place);
  rest = drop-put_mid from k old part 8190 (omega (arith, is, count, lt)) (omega (arith, is, lt, long)) part_long;
}
  where
    part_fits : length part ≡ length (take k (drop from old))
    part_fits = part_long ∙ sym (length-take-le k (drop from old) (let d = length-drop from old in omega (arith, d, is, count, lt, long)))

    read : part_at (14 * place) (put_mid from k old part) ≡ part
    read =
        ap (λ n. take 14 (drop n (put_mid from k old part))) (sym is)
        ∙ ap (λ n. take n (drop from (put_mid from k old part))) (let n : 14 ≡ from + 14 - from = omega arith in n)
        ∙ between-put_mid from k old part (from + 14) (omega (arith, is, lt, long)) (omega (arith, part_long, count))

-- ---- one more, and all

pub none_yet : (r : Region) (first : ℕ) (bytes : List ℕ) {n : ℕ} → n ≡ 8192 → bytes ≡ replicate n 0 → length bytes ≡ 8192 → StartsLabels r first 0 bytes
none_yet r first bytes {n} count zeros long = record {
  long = long;
  each = λ i lt. absurd (omega (arith, lt));
  rest = ap (drop 8190) zeros ∙ drop-replicate 8190 n 0 ∙ ap (λ k. replicate (k - 8190) 0) count;
}

pub one_more : {r : Region} {first place : ℕ} {l : Label} {old new : List ℕ} → l ≡ label_at r (first + place) → PutsLabel l place old new → StartsLabels r first place old → StartsLabels r first (place + 1) new
one_more {r} {first} {place} {l} {old} {new} is p s = record {
  long = p.long ∙ s.long;
  each = λ i lt. ⊎_elim
      (λ e. subst (λ n. SpellsLabel (label_at r (first + n)) (part_at (14 * n) new)) (sym e) (subst (λ (z : Label). SpellsLabel z (part_at (14 * place) new)) is p.here))
      (λ ne. subst (SpellsLabel (label_at r (first + i))) (sym (p.others i ne)) (s.each i (omega (arith, lt, ne))))
      (cases_eq i place);
  rest = p.rest ∙ s.rest;
}

pub all_spelled : {r : Region} {first at n : ℕ} {bytes : List ℕ} → first ≡ 585 * (at - 2) → 2 ≤ at → 585 ≤ n → StartsLabels r first n bytes → SpellsLabels r at bytes
all_spelled {r} {first} {at} {n} {bytes} is le most s = record {
  long = s.long;
  each = λ address here.
      let i = address % 585 in
      let lt : i < n = omega (arith, most) in
      let whole : first + i ≡ address = omega (arith, is, le, here) in
      subst (λ n. SpellsLabel (label_at r n) (part_at (label_byte address) bytes)) whole (s.each i lt);
  rest = s.rest;
}
