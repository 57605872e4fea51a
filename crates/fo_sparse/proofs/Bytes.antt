-- What pages stand for, before and after they change.
use Rattle.std.proofs.Common.{◌≡◌, ℕ, ◌+◌, ◌-◌, ◌<◌, ◌≤◌, ◌⊎◌, min, max, List, length, take, drop, slice_index, refl, sym, ap, ◌∙◌, arith, inl, inr}
use Rattle.std.proofs.lemmas.Bool.{cases_lt}
use Rattle.std.proofs.lemmas.List.{length-take, length-drop, get_or-take, get_or-drop, get_or_past, ext_get_or}
use Rattle.std.proofs.lemmas.List.FromFn.{length-map-range_with_len, get_or-map-range_with_len}
use Rattle.std.specs.BTreeMap.{BTreeMap}
use Rattle.fo_sparse.specs.Written.{written, resized}
use Rattle.fo_sparse.specs.Pages.{byte_at, bytes_of, SameBytes, Puts, CutAt, IsSparse}
use Rattle.fo_sparse.proofs.Lists.{is_resized, is_written}

pub length-bytes_of : (pages : BTreeMap ℕ (List ℕ)) (len : ℕ) → length (bytes_of pages len) ≡ len
length-bytes_of pages len = length-map-range_with_len (byte_at pages) 0 len

pub bytes_below : (pages : BTreeMap ℕ (List ℕ)) (len k : ℕ) → k < len → slice_index (bytes_of pages len) k ≡ byte_at pages k
bytes_below pages len k lt = get_or-map-range_with_len (byte_at pages) 0 len k k 0 lt (omega arith)

bytes_in : (pages : BTreeMap ℕ (List ℕ)) (len k : ℕ) → IsSparse pages len → (k < len) ⊎ (len ≤ k) → slice_index (bytes_of pages len) k ≡ byte_at pages k
bytes_in pages len k s (inl lt) = bytes_below pages len k lt
bytes_in pages len k s (inr past) = get_or_past (bytes_of pages len) k 0 (omega (arith, length-bytes_of pages len)) ∙ sym (s.past k past)

pub bytes_at : (pages : BTreeMap ℕ (List ℕ)) (len k : ℕ) → IsSparse pages len → slice_index (bytes_of pages len) k ≡ byte_at pages k
bytes_at pages len k s = bytes_in pages len k s (cases_lt k len)

pub bytes_resized : (old new : BTreeMap ℕ (List ℕ)) (len len' : ℕ) → IsSparse old len → CutAt old new len' → bytes_of new len' ≡ resized (bytes_of old len) len'
bytes_resized old new len len' s cut =
    let is = length-bytes_of new len' in
    let same : (k : ℕ) → k < length (bytes_of new len') → slice_index (bytes_of new len') k ≡ slice_index (bytes_of old len) k = λ k lt.
    let below : k < len' = omega arith in
    bytes_below new len' k below ∙ cut.below k below ∙ sym (bytes_at old len k s) in
    is_resized (bytes_of old len) (bytes_of new len') same ∙ ap (λ (n : ℕ). resized (bytes_of old len) n) is

pub bytes_written : (old kept new : BTreeMap ℕ (List ℕ)) (len offset : ℕ) (bytes : List ℕ) → 0 < length bytes → IsSparse old len → SameBytes old kept → Puts kept new offset bytes
    → bytes_of new (max len (offset + length bytes)) ≡ written (bytes_of old len) offset bytes
bytes_written old kept new len offset bytes some s same put =
    let len' : ℕ = max len (offset + length bytes) in
    let old_len = length-bytes_of old len in
    let new_len = length-bytes_of new len' in
    let behind_at : (k : ℕ) → offset + length bytes ≤ k → (k < len') ⊎ (len' ≤ k) → slice_index (bytes_of new len') k ≡ slice_index (bytes_of old len) k =
    λ k ge. elim [
      | inl lt ↦ bytes_below new len' k lt ∙ put.behind k ge ∙ same.same k ∙ sym (bytes_at old len k s)
      | inr past ↦ get_or_past (bytes_of new len') k 0 (omega arith) ∙ sym (get_or_past (bytes_of old len) k 0 (omega arith))
    ] in
    is_written (bytes_of old len) (bytes_of new len') bytes offset some (rw (new_len, old_len) refl)
    (λ i lt. bytes_below new len' (offset + i) (omega arith) ∙ put.within i lt)
    (λ k lt. bytes_below new len' k (omega arith) ∙ put.before k lt ∙ same.same k ∙ sym (bytes_at old len k s))
    (λ k ge. behind_at k ge (cases_lt k len'))

pub bytes_given : (pages : BTreeMap ℕ (List ℕ)) (len offset room : ℕ) (copied : List ℕ) → IsSparse pages len → length copied ≡ min room (len - offset)
    → ((i : ℕ) → i < length copied → slice_index copied i ≡ byte_at pages (offset + i)) → copied ≡ take room (drop offset (bytes_of pages len))
bytes_given pages len offset room copied s is same =
    let long : length copied ≡ length (take room (drop offset (bytes_of pages len))) =
    omega (arith, is, length-take room (drop offset (bytes_of pages len)), length-drop offset (bytes_of pages len), length-bytes_of pages len) in
    ext_get_or 0 copied (take room (drop offset (bytes_of pages len))) long (λ i lt. same i lt ∙ sym (bytes_at pages len (offset + i) s)
    ∙ sym (get_or-take room (drop offset (bytes_of pages len)) i 0 (omega arith) ∙ get_or-drop offset (bytes_of pages len) i 0))
