-- The blocks of the label table.
use Rattle.std.proofs.Common.{◌≡◌, ◌≢◌, ◌⊎◌, inl, inr, ⊎_elim, ℕ, zero, suc, ◌+◌, ◌-◌, ◌<◌, ◌≤◌, true, eqb, List, [], length, take, drop, set, replicate, refl, sym, ◌∙◌, ap, subst, arith, length-set, get_or-set_other, get_or-set_same}
use Rattle.std.proofs.lemmas.Bool.{and_parts, cases_lt, cases_eq}
use Rattle.std.proofs.lemmas.List.{take-append-drop, drop-take, length-replicate}
use Rattle.std.proofs.lemmas.List.Folds.{list_all-append}
use Rattle.std.proofs.lemmas.Slice.{between-put_mid, take-put_mid_below, drop-put_mid}
use borrow.Rule.Slice.PartMut.{put_mid}
use Rattle.fo_disk.specs.Disk.{Block}
use Rattle.fo_image.specs.Format.{SpellsLabel}
use Rattle.fo_image.specs.Place.{first_data, label_block, label_byte}
use Rattle.fo_sound.specs.Image.{block_of, is_zero, rest_bytes}
use Rattle.fo_sound.specs.Sound.{root_label}
use Rattle.fo_sound.specs.Fresh.{fresh_super}
use Rattle.fo_format.specs.Labels.{label_in, IsLabelBlock, HasLabelBlocks}

zero_replicate : (n : ℕ) → is_zero (replicate n 0) ≡ true
zero_replicate zero = refl
zero_replicate (suc n) = zero_replicate n

zero_parts : (n : ℕ) (xs : List ℕ) → is_zero xs ≡ true → (is_zero (take n xs) ≡ true) × (is_zero (drop n xs) ≡ true)
zero_parts n xs z = and_parts _ _ (sym (list_all-append (λ b. eqb b 0) (take n xs) (drop n xs)) ∙ ap is_zero (take-append-drop n xs) ∙ z)

zero_part : (n m : ℕ) (xs : List ℕ) → is_zero xs ≡ true → is_zero (take m (drop n xs)) ≡ true
zero_part n m xs z = (zero_parts m (drop n xs) (zero_parts n xs z).1).0

-- a part before the one that was written, and a part after it
before : (a k b m : ℕ) (xs ys : List ℕ) → b + m ≤ a → a ≤ length xs → take m (drop b (put_mid a k xs ys)) ≡ take m (drop b xs)
before a k b m xs ys le fits = sym (drop-take b m (put_mid a k xs ys)) ∙ ap (drop b) (take-put_mid_below a k xs ys (b + m) le fits) ∙ drop-take b m xs

after : (a k b m : ℕ) (xs ys : List ℕ) → a + k ≤ b → a ≤ length xs → length ys ≡ k → take m (drop b (put_mid a k xs ys)) ≡ take m (drop b xs)
after a k b m xs ys le fits long = ap (take m) (drop-put_mid a k xs ys b le fits long)

-- a block of zeros into which a label was written
record Written (from k : ℕ) (zeros label block : List ℕ) : Type 0 where
  len : 8192 ≤ length zeros
  zero_all : is_zero zeros ≡ true
  label_len : length label ≡ 14
  count : k ≡ from + 14 - from
  is : block ≡ put_mid from k zeros label

place : (address : ℕ) → label_byte address + 14 ≤ 8190
place address = omega arith

label_read : (address : ℕ) {k : ℕ} {zeros label block : List ℕ} → Written (label_byte address) k zeros label block → label_in address block ≡ label
label_read address {k} {zeros} {label} {block} w =
    let from = label_byte address in
    let le = place address in
    ap (label_in address) w.is
    ∙ ap (λ (n : ℕ). take n (drop from (put_mid from k zeros label))) (let n : 14 ≡ from + 14 - from = omega arith in n)
    ∙ between-put_mid from k zeros label (from + 14) (omega (arith, w.len)) (omega (arith, w.label_len))

label_other : (root address : ℕ) {k : ℕ} {zeros label block : List ℕ} → Written (label_byte root) k zeros label block → label_block address ≡ label_block root → address ≢ root → is_zero (label_in address block) ≡ true
label_other root address {k} {zeros} {label} {block} w same other =
    let from = label_byte root in
    let at = label_byte address in
    let le = place root in
    let len = w.len in
    let is : label_in address block ≡ take 14 (drop at zeros) = ⊎_elim
    (λ lt. ap (label_in address) w.is ∙ before from k at 14 zeros label (omega (arith, lt, same, other)) (omega arith))
    (λ ge. ap (label_in address) w.is ∙ after from k at 14 zeros label (omega (arith, ge, same, other, w.count)) (omega arith) (omega (arith, w.label_len, w.count)))
    (cases_lt address root) in
    ap is_zero is ∙ zero_part at 14 zeros w.zero_all

rest_read : (root : ℕ) {k : ℕ} {zeros label block : List ℕ} → Written (label_byte root) k zeros label block → is_zero (rest_bytes block) ≡ true
rest_read root {k} {zeros} {label} {block} w =
    let le = place root in
    let len = w.len in
    ap is_zero (ap rest_bytes w.is ∙ drop-put_mid (label_byte root) k zeros label 8190 (omega (arith, w.count)) (omega arith) (omega (arith, w.label_len, w.count)))
    ∙ (zero_parts 8190 zeros w.zero_all).1

-- the block with the label of the root block
pub root_block : (blocks at k from root_at : ℕ) (old zeros label : List ℕ) → length old ≡ 8192 → zeros ≡ replicate (length old) 0 → SpellsLabel (root_label (fresh_super blocks)) label → length label ≡ 14
    → root_at ≡ label_block (first_data blocks) → from ≡ label_byte (first_data blocks) → at ≡ root_at → k ≡ from + 14 - from → length (put_mid from k zeros label) ≡ 8192 → IsLabelBlock blocks at (put_mid from k zeros label)
root_block blocks at k from root_at old zeros label len is spelled label_len root_is from_is at_is count long = record {
  whole = long;
  root = λ same. subst (SpellsLabel (root_label (fresh_super blocks))) (sym (label_read (first_data blocks) w)) spelled;
  others = λ address same other. label_other (first_data blocks) address w (same ∙ at_is ∙ root_is) other;
  rest = rest_read (first_data blocks) w;
}
  where
    w : Written (label_byte (first_data blocks)) k zeros label (put_mid from k zeros label)
    w = record {
      len = omega (arith, len, ap length is, length-replicate {A = ℕ} (length old) 0);
      zero_all = ap is_zero is ∙ zero_replicate (length old);
      label_len = label_len;
      count = omega (arith, count);
      is = ap (λ (n : ℕ). put_mid n k zeros label) from_is;
    }

-- a block with no label
pub free_block : (blocks at root_at : ℕ) (old zeros : List ℕ) → length old ≡ 8192 → zeros ≡ replicate (length old) 0 → root_at ≡ label_block (first_data blocks) → at ≢ root_at → IsLabelBlock blocks at zeros
free_block blocks at root_at old zeros len is root_is other = record {
  whole = omega (arith, len, ap length is, length-replicate {A = ℕ} (length old) 0);
  root = λ same. absurd (other (sym same ∙ sym root_is));
  others = λ address same no. zero_part (label_byte address) 14 zeros z;
  rest = (zero_parts 8190 zeros z).1;
}
  where
    z : is_zero zeros ≡ true
    z = ap is_zero is ∙ zero_replicate (length old)

-- one block more of the table
pub one_more : {blocks upto : ℕ} {before mid now : List Block} {block : Block} → HasLabelBlocks blocks upto before mid → 2 ≤ upto → IsLabelBlock blocks upto block → now ≡ set mid upto block → HasLabelBlocks blocks (upto + 1) before now
one_more {blocks} {upto} {before} {mid} {now} {block} h from is now_is = record {
  count = ap length now_is ∙ length-set mid upto block ∙ h.count;
  labels = λ at two below within. ⊎_elim
      (λ same. here at same within)
      (λ other. subst (IsLabelBlock blocks at) (sym (there at other)) (h.labels at two (omega (arith, below, other)) within))
      (cases_eq at upto);
  others = λ at outside. there at (not_here at outside) ∙ h.others at (⊎_elim (λ lt. inl lt) (λ le. inr (omega (arith, le))) outside);
}
  where
    there : (at : ℕ) → at ≢ upto → block_of now at ≡ block_of mid at
    there at other = ap (λ (bs : List Block). block_of bs at) now_is ∙ get_or-set_other mid upto at block [] other

    here : (at : ℕ) → at ≡ upto → at < length before → IsLabelBlock blocks at (block_of now at)
    here at same within =
        let lt : upto < length mid = omega (arith, within, same, h.count) in
        let now_at : block_of now upto ≡ block = ap (λ (bs : List Block). block_of bs upto) now_is ∙ get_or-set_same mid upto block [] lt in
        subst (λ (n : ℕ). IsLabelBlock blocks n (block_of now n)) (sym same) (subst (IsLabelBlock blocks upto) (sym now_at) is)

    not_here : (at : ℕ) → (at < 2) ⊎ (upto + 1 ≤ at) → at ≢ upto
    not_here at outside same = ⊎_elim (λ lt. absurd (omega (arith, lt, from, same))) (λ le. absurd (omega (arith, le, same))) outside
