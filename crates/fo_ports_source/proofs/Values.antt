-- The bytes that a source stands for, before and after it changes.
use Rattle.std.proofs.Common.{◌≡◌, ℕ, ◌+◌, ◌-◌, ◌<◌, ◌≤◌, ◌⊎◌, min, max, List, length, map, take, drop, slice_index, refl, sym, ap, ◌∙◌, arith, inl, inr}
use Rattle.std.specs.List.{range_with_len}
use Rattle.std.proofs.lemmas.Bool.{cases_lt}
use Rattle.std.proofs.lemmas.List.{length-take, length-drop, get_or-take, get_or-drop, get_or_past, ext_get_or}
use Rattle.std.proofs.lemmas.List.FromFn.{length-map-range_with_len, get_or-map-range_with_len}
use Rattle.fo_sparse.specs.Written.{written, resized}
use Rattle.fo_ports_source.specs.Source.{Puts}
use Rattle.fo_sparse.proofs.Lists.{is_resized, is_written}

pub length_values : (f : ℕ → ℕ) (len : ℕ) → length (map f (range_with_len 0 len)) ≡ len
length_values f len = length-map-range_with_len f 0 len

values_below : (f : ℕ → ℕ) (len k : ℕ) → k < len → slice_index (map f (range_with_len 0 len)) k ≡ f k
values_below f len k lt = get_or-map-range_with_len f 0 len k k 0 lt (omega arith)

values_at : (f : ℕ → ℕ) (len k : ℕ) → ((k : ℕ) → len ≤ k → f k ≡ 0) → (k < len) ⊎ (len ≤ k) → slice_index (map f (range_with_len 0 len)) k ≡ f k
values_at f len k tail (inl lt) = values_below f len k lt
values_at f len k tail (inr past) = get_or_past (map f (range_with_len 0 len)) k 0 (omega (arith, length_values f len)) ∙ sym (tail k past)

-- the same bytes at each place are the same list
pub values_same : (f g : ℕ → ℕ) (len : ℕ) → ((k : ℕ) → g k ≡ f k) → map g (range_with_len 0 len) ≡ map f (range_with_len 0 len)
values_same f g len same =
    let is = length_values g len in
    ext_get_or 0 (map g (range_with_len 0 len)) (map f (range_with_len 0 len)) (is ∙ sym (length_values f len))
    (λ k lt. values_below g len k (omega (arith, is, lt)) ∙ same k ∙ sym (values_below f len k (omega (arith, is, lt))))

pub values_resized : (f g : ℕ → ℕ) (len len' : ℕ) → ((k : ℕ) → len ≤ k → f k ≡ 0) → ((k : ℕ) → g k ≡ f k) → map g (range_with_len 0 len') ≡ resized (map f (range_with_len 0 len)) len'
values_resized f g len len' tail same =
    let is = length_values g len' in
    let each : (k : ℕ) → k < length (map g (range_with_len 0 len')) → slice_index (map g (range_with_len 0 len')) k ≡ slice_index (map f (range_with_len 0 len)) k = λ k lt.
    values_below g len' k (omega (arith, is, lt)) ∙ same k ∙ sym (values_at f len k tail (cases_lt k len)) in
    is_resized (map f (range_with_len 0 len)) (map g (range_with_len 0 len')) each ∙ ap (λ (n : ℕ). resized (map f (range_with_len 0 len)) n) is

pub values_written : (f g : ℕ → ℕ) (len offset : ℕ) (bytes : List ℕ) → 0 < length bytes → ((k : ℕ) → len ≤ k → f k ≡ 0) → Puts f g offset bytes
    → map g (range_with_len 0 (max len (offset + length bytes))) ≡ written (map f (range_with_len 0 len)) offset bytes
values_written f g len offset bytes some tail put =
    let len' : ℕ = max len (offset + length bytes) in
    let old_len = length_values f len in
    let new_len = length_values g len' in
    let behind_at : (k : ℕ) → offset + length bytes ≤ k → (k < len') ⊎ (len' ≤ k) → slice_index (map g (range_with_len 0 len')) k ≡ slice_index (map f (range_with_len 0 len)) k =
    λ k ge. elim [
      | inl lt ↦ values_below g len' k lt ∙ put.behind k ge ∙ sym (values_at f len k tail (cases_lt k len))
      | inr past ↦ get_or_past (map g (range_with_len 0 len')) k 0 (omega arith) ∙ sym (get_or_past (map f (range_with_len 0 len)) k 0 (omega arith))
    ] in
    is_written (map f (range_with_len 0 len)) (map g (range_with_len 0 len')) bytes offset some (rw (new_len, old_len) refl)
    (λ i lt. values_below g len' (offset + i) (omega arith) ∙ put.within i lt)
    (λ k lt. values_below g len' k (omega arith) ∙ put.before k lt ∙ sym (values_at f len k tail (cases_lt k len)))
    (λ k ge. behind_at k ge (cases_lt k len'))

pub values_given : (f : ℕ → ℕ) (len offset room : ℕ) (copied : List ℕ) → length copied ≡ min room (len - offset)
    → ((i : ℕ) → i < length copied → slice_index copied i ≡ f (offset + i)) → copied ≡ take room (drop offset (map f (range_with_len 0 len)))
values_given f len offset room copied is same =
    let long : length copied ≡ length (take room (drop offset (map f (range_with_len 0 len)))) =
    omega (arith, is, length-take room (drop offset (map f (range_with_len 0 len))), length-drop offset (map f (range_with_len 0 len)), length_values f len) in
    ext_get_or 0 copied (take room (drop offset (map f (range_with_len 0 len)))) long (λ i lt. same i lt ∙ sym (values_below f len (offset + i) (omega (arith, is, lt)))
    ∙ sym (get_or-take room (drop offset (map f (range_with_len 0 len))) i 0 (omega (arith, is, lt)) ∙ get_or-drop offset (map f (range_with_len 0 len)) i 0))
