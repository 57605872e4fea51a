-- What a source has whose bytes end with a piece.
use Rattle.std.specs.List.{range_with_len}
use Rattle.std.proofs.Common.{◌≡◌, ◌+◌, ◌<◌, ◌≤◌, ℕ, List, length, map, slice_index, ⊎_elim, sym, ◌∙◌, arith}
use Rattle.std.proofs.lemmas.Bool.{cases_lt}
use Rattle.std.proofs.lemmas.List.{ext_get_or, get_or_past}
use Rattle.std.proofs.lemmas.List.FromFn.{length-map-range_with_len, get_or-map-range_with_len}
use Rattle.fo_sparse.specs.Written.{written}
use Rattle.fo_sparse.proofs.Lists.{is_written}
use Rattle.fo_tree_clear.specs.Put.{Puts}

length_values : (f : ℕ → ℕ) (len : ℕ) → length (map f (range_with_len 0 len)) ≡ len
length_values f len = length-map-range_with_len f 0 len

values_below : (f : ℕ → ℕ) (len k : ℕ) → k < len → slice_index (map f (range_with_len 0 len)) k ≡ f k
values_below f len k lt = get_or-map-range_with_len f 0 len k k 0 lt (omega arith)

values_past : (f : ℕ → ℕ) (len k : ℕ) → len ≤ k → slice_index (map f (range_with_len 0 len)) k ≡ 0
values_past f len k ge = get_or_past (map f (range_with_len 0 len)) k 0 (omega (arith, length_values f len, ge))

pub values_same : (f h : ℕ → ℕ) (len : ℕ) → ((k : ℕ) → k < len → h k ≡ f k) → map h (range_with_len 0 len) ≡ map f (range_with_len 0 len)
values_same f h len same =
    let old_len = length_values f len in
    let new_len = length_values h len in
    ext_get_or 0 (map h (range_with_len 0 len)) (map f (range_with_len 0 len)) (new_len ∙ sym old_len)
    (λ k lt. let below : k < len = omega (arith, new_len, lt) in values_below h len k below ∙ same k below ∙ sym (values_below f len k below))

-- a piece was put past an end behind which there are zeros
pub values_past_end : (h g : ℕ → ℕ) (size z offset : ℕ) (piece : List ℕ) → z ≡ offset + length piece → size < z → 0 < length piece → ((k : ℕ) → size ≤ k → h k ≡ 0) → Puts h g offset piece
    → map g (range_with_len 0 z) ≡ written (map h (range_with_len 0 size)) offset piece
values_past_end h g size z offset piece is past some none put =
    let old_len = length_values h size in
    let new_len = length_values g z in
    is_written (map h (range_with_len 0 size)) (map g (range_with_len 0 z)) piece offset some (omega (arith, old_len, new_len, is, past))
    (λ i lt. values_below g z (offset + i) (omega (arith, is, lt)) ∙ put.within i lt)
    (λ k lt. values_below g z k (omega (arith, is, lt)) ∙ put.before k lt ∙ front k)
    (λ k ge. values_past g z k (omega (arith, is, ge)) ∙ sym (values_past h size k (omega (arith, is, ge, past))))
  where
    front : (k : ℕ) → h k ≡ slice_index (map h (range_with_len 0 size)) k
    front k = ⊎_elim
        (λ small. sym (values_below h size k small))
        (λ ge. none k ge ∙ sym (values_past h size k ge))
        (cases_lt k size)
