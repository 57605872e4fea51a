-- Sorted elements of which no two neighbours have one key all differ.
use Rattle.std.proofs.Common.{◌≡◌, ◌≢◌, ℕ, ◌+◌, ◌-◌, ◌<◌, ◌≤◌, Bool, true, false, List, length, get_or, refl, sym, ap, ◌∙◌, subst, Option, Some, None, MatchOption, arith}
use Rattle.std.specs.List.{AllAdjacentBelow}
use Rattle.std.specs.List.Sorted.{IsSortedBy, IsNonDecreasingBy}
use Rattle.std.specs.Cmp.{IsStrictWeakOrder}
use Rattle.std.specs.Cmp.Lexicographic.{slice_cmp}
use Rattle.std.proofs.Common.{Ordering}
use Rattle.std.specs.declared.cmp.Ordering.TheVariants.{Less, Equal, Greater}
use Rattle.std.specs.Ordering.{is_lt, is_eq, nat_cmp, ordering_reverse}
use Rattle.std.specs.Str.{bytes_eq}
use Rattle.std.proofs.lemmas.Bool.{false≢true}
use Rattle.std.proofs.lemmas.List.{get_or_default}
use Rattle.std.proofs.lemmas.Map.Text.{is_eq-slice_cmp}
use Rattle.std.proofs.lemmas.Slice.Eq.{bytes_eq-Decides}
use Rattle.std.proofs.lemmas.Cmp.{nat_list_cmp_total}
use Rattle.std.proofs.lemmas.List.Sorted.{ranks_by, sorted_far}
use Rattle.fo_check_names.specs.declared.names.Named.{Named}
use Rattle.fo_check_names.specs.Names.{name_of, Differ, IsTwice}

pub differ_by_number : {X : Type 0} (n : X → ℕ) (xs : List X) → IsNonDecreasingBy n xs → AllAdjacentBelow (λ x y. n x ≢ n y) xs (length xs) → Differ n xs
differ_by_number n xs up apart = record {
  each = λ i j d less within same.
      let low = up i (i + 1) d (omega arith) (omega arith) in
      let high = up (i + 1) j d (omega arith) within in
      apart i d (omega arith) (omega arith);
}

abbrev pub comes_before : Named → Named → Bool
comes_before x y = is_lt (slice_cmp nat_cmp (name_of x) (name_of y))

pub comes_before_order : IsStrictWeakOrder comes_before
comes_before_order = ranks_by nat_list_cmp_total name_of

neither : (r : Ordering) → is_lt r ≡ false → is_lt (ordering_reverse r) ≡ false → is_eq r ≡ true
neither Less a b = absurd (false≢true (sym a))
neither Equal a b = refl
neither Greater a b = absurd (false≢true (sym b))

-- Neither of two names comes before the other.
pub same_from_order : (x y : List ℕ) → is_lt (slice_cmp nat_cmp x y) ≡ false → is_lt (slice_cmp nat_cmp y x) ≡ false → x ≡ y
same_from_order x y a b =
    let back = nat_list_cmp_total.antisymm y x in
    let same : bytes_eq x y ≡ true = sym (is_eq-slice_cmp x y) ∙ neither (slice_cmp nat_cmp x y) a (ap is_lt (sym back) ∙ b) in
    (bytes_eq-Decides x y).0 same

pub differ_by_name : (xs : List Named) → IsSortedBy comes_before xs → AllAdjacentBelow (λ x y. name_of x ≢ name_of y) xs (length xs) → Differ name_of xs
differ_by_name xs up apart = record {
  each = λ i j d less within same.
      let low = sorted_far comes_before comes_before_order xs up i (i + 1) d (omega arith) (omega arith) in
      let high = sorted_far comes_before comes_before_order xs up (i + 1) j d (omega arith) within in
      apart i d (omega arith) (same_from_order _ _ (subst (λ n. is_lt (slice_cmp nat_cmp n (name_of (get_or xs (i + 1) d))) ≡ false) (sym same) high) low);
}

-- what stands for nothing, by what follows from it
pub none_then : {X : Type 0} (R : X → Type 0) (P Q : Type 0) (o : Option X) → (P → Q) → MatchOption o P R → MatchOption o Q R
none_then R P Q None f m = f m
none_then R P Q (Some x) f m = m

-- An element has the key of the one before it.
pub twice_here : {X K : Type 0} (key : X → K) (of : X → ℕ) (xs : List X) (i : ℕ) (a b e : X) → 1 ≤ i → i < length xs → key (get_or xs (i - 1) a) ≡ key (get_or xs i b) → IsTwice key of xs (of (get_or xs i e))
twice_here key of xs i a b e one lt same = record {
  first = i - 1;
  second = i;
  apart = λ e. omega (arith, e, one);
  before = omega (arith, lt, one);
  within = lt;
  same = λ d. ap key (get_or_default xs (i - 1) d a (omega arith)) ∙ same ∙ ap key (get_or_default xs i b d lt);
  leaf_is = λ d. ap of (get_or_default xs i d e lt);
}
