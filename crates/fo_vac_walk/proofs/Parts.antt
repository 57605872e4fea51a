-- Bytes that are copied out, one part after another.
use Rattle.std.proofs.Common.{◌≡◌, ◌⊎◌, ◌+◌, ◌-◌, ◌<◌, ◌≤◌, ℕ, List, ◌++◌, length, map, min, take, drop, slice_index, inl, inr, sym, ap, ◌∙◌, arith}
use Rattle.std.specs.List.{range_with_len}
use Rattle.std.proofs.lemmas.Bool.{cases_lt}
use Rattle.std.proofs.lemmas.List.{length-take, length-take-le, get_or-take, get_or-drop, length-drop, get_or_append_left, get_or-append_right, ext_get_or}
use Rattle.std.proofs.lemmas.List.FromFn.{length-map-range_with_len, get_or-map-range_with_len}
use Rattle.std.proofs.lemmas.Slice.{take-put_mid}
use Rattle.std.proofs.lemmas.Grind.{common_steps}
use borrow.Rule.Slice.PartMut.{put_mid}

module _ (mid new : ℕ → ℕ) (into sub : List ℕ) (offset done n m : ℕ) (same : m ≡ n) (le : done + n ≤ length into) (len : length sub ≡ n)
    (given : (i : ℕ) → i < done → slice_index into i ≡ mid (offset + i))
    (stays : (i : ℕ) → i < done → new (offset + i) ≡ mid (offset + i))
    (more : (i : ℕ) → i < n → slice_index sub i ≡ new (offset + done + i)) where
  at_front : length (take done into) ≡ done
  at_front = length-take-le done into (omega (arith, le))

  joined : (i : ℕ) → (i < done) ⊎ (done ≤ i) → i < done + n → slice_index (take done into ++ sub) i ≡ new (offset + i)
  joined i (inl lt) below = get_or_append_left (take done into) sub 0 i (omega (arith, at_front, lt)) ∙ get_or-take done into i 0 lt ∙ given i lt ∙ sym (stays i lt)
  joined i (inr ge) below =
      let back : offset + done + (i - done) ≡ offset + i = omega (arith, ge) in
      get_or-append_right (take done into) sub done i 0 at_front ge ∙ more (i - done) (omega (arith, ge, below)) ∙ ap new back

  pub copied_more : (i : ℕ) → i < done + n → slice_index (put_mid done m into sub) i ≡ new (offset + i)
  copied_more i lt =
      sym (get_or-take (done + n) (put_mid done m into sub) i 0 lt)
      ∙ ap (λ xs. slice_index xs i) (take-put_mid done m into sub (done + n) (omega (arith, len)) (omega (arith, le)))
      ∙ joined i (cases_lt i done) lt

pub length_put_mid : (a k : ℕ) (xs ys : List ℕ) → a + k ≤ length xs → length ys ≡ k → length (put_mid a k xs ys) ≡ length xs
length_put_mid a k xs ys le is = grind (arith, common_steps)

pub length_values : (f : ℕ → ℕ) (len : ℕ) → length (map f (range_with_len 0 len)) ≡ len
length_values f len = length-map-range_with_len f 0 len

values_below : (f : ℕ → ℕ) (len k : ℕ) → k < len → slice_index (map f (range_with_len 0 len)) k ≡ f k
values_below f len k lt = get_or-map-range_with_len f 0 len k k 0 lt (omega arith)

pub values_given : (f : ℕ → ℕ) (len offset room : ℕ) (copied : List ℕ) → length copied ≡ min room (len - offset)
    → ((i : ℕ) → i < length copied → slice_index copied i ≡ f (offset + i)) → copied ≡ take room (drop offset (map f (range_with_len 0 len)))
values_given f len offset room copied is same =
    let long : length copied ≡ length (take room (drop offset (map f (range_with_len 0 len)))) =
    omega (arith, is, length-take room (drop offset (map f (range_with_len 0 len))), length-drop offset (map f (range_with_len 0 len)), length_values f len) in
    ext_get_or 0 copied (take room (drop offset (map f (range_with_len 0 len)))) long (λ i lt. same i lt ∙ sym (values_below f len (offset + i) (omega (arith, is, lt)))
    ∙ sym (get_or-take room (drop offset (map f (range_with_len 0 len))) i 0 (omega (arith, is, lt)) ∙ get_or-drop offset (map f (range_with_len 0 len)) i 0))
