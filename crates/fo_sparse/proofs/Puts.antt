-- One more part of the bytes that are put.
use Rattle.std.proofs.Common.{◌≡◌, ℕ, ◌+◌, ◌-◌, ◌<◌, ◌≤◌, ◌⊎◌, List, length, take, drop, slice_index, sym, ◌∙◌, arith, inl, inr}
use Rattle.std.proofs.lemmas.Bool.{cases_lt}
use Rattle.std.proofs.lemmas.List.{length-take-le, get_or-take, get_or-drop, length-drop}
use Rattle.std.specs.BTreeMap.{BTreeMap}
use Rattle.fo_sparse.specs.Pages.{byte_at, Puts}

module _ (a b c : BTreeMap ℕ (List ℕ)) (offset done n : ℕ) (bytes : List ℕ) (le : done + n ≤ length bytes)
    (p : Puts a b offset (take done bytes)) (q : Puts b c (offset + done) (take n (drop done bytes))) where
  first_len : length (take done bytes) ≡ done
  first_len = length-take-le done bytes (omega arith)

  more_len : length (take n (drop done bytes)) ≡ n
  more_len = length-take-le n (drop done bytes) (omega (arith, length-drop done bytes))

  all_len : length (take (done + n) bytes) ≡ done + n
  all_len = length-take-le (done + n) bytes le

  within_first : (i : ℕ) → i < done → byte_at c (offset + i) ≡ slice_index (take (done + n) bytes) i
  within_first i lt =
      q.before (offset + i) (omega arith) ∙ p.within i (omega (arith, first_len)) ∙ get_or-take done bytes i 0 lt ∙ sym (get_or-take (done + n) bytes i 0 (omega arith))

  within_more : (i j : ℕ) → i ≡ done + j → j < n → byte_at c (offset + i) ≡ slice_index (take (done + n) bytes) i
  within_more i j is lt =
      let same : offset + i ≡ offset + done + j = omega arith in
      rw (same, is) (q.within j (omega (arith, more_len)) ∙ get_or-take n (drop done bytes) j 0 lt ∙ get_or-drop done bytes j 0 ∙ sym (get_or-take (done + n) bytes (done + j) 0 (omega arith)))

  within_all : (i : ℕ) → (i < done) ⊎ (done ≤ i) → i < done + n → byte_at c (offset + i) ≡ slice_index (take (done + n) bytes) i
  within_all i (inl lt) le = within_first i lt
  within_all i (inr ge) lt = within_more i (i - done) (omega arith) (omega arith)

  pub puts_more : Puts a c offset (take (done + n) bytes)
  puts_more = record {
    within = λ i lt. within_all i (cases_lt i done) (omega (arith, all_len));
    before = λ k lt. q.before k (omega arith) ∙ p.before k lt;
    behind = λ k ge. q.behind k (omega (arith, all_len, more_len)) ∙ p.behind k (omega (arith, all_len, first_len));
  }
