-- Where the elements of a list stood before it was put in order.
use Rattle.std.proofs.Common.{◌≡◌, ◌≢◌, ⊎_elim, ℕ, ◌<◌, ◌≤◌, true, false, List, length, get_or, swap, IsPermutation, Option, Some, None, MatchOption, refl, sym, ap, ◌∙◌, subst, arith}
use Rattle.std.specs.Prelude.{nat_eq, cond}
use Rattle.std.proofs.lemmas.Bool.{cases_eq, cases_lt}
use Rattle.std.proofs.lemmas.List.Edits.{length-swap, swapped_from_swap}
use Rattle.std.proofs.lemmas.List.Sorted.{IsPermutation-keeps, IsPermutation-sym}
use Rattle.fo_check_names.specs.Names.{Differ, IsTwice}

-- the other of two places, or the same place
abbrev turn : ℕ → ℕ → ℕ → ℕ
turn a b i = cond (nat_eq i a) b (cond (nat_eq i b) a i)

eq_same : (a : ℕ) → nat_eq a a ≡ true
eq_same a = grind arith

eq_other : (a b : ℕ) → a ≢ b → nat_eq a b ≡ false
eq_other a b apart = grind (arith, apart)

turn_first : (a b : ℕ) → turn a b a ≡ b
turn_first a b = rw (eq_same a) refl

turn_second : (a b : ℕ) → turn a b b ≡ a
turn_second a b = ⊎_elim
    (λ (same : b ≡ a). ap (λ (i : ℕ). turn a b i) same ∙ turn_first a b ∙ same)
    (λ (apart : b ≢ a). rw (eq_other b a apart, eq_same b) refl)
    (cases_eq b a)

turn_else : (a b i : ℕ) → i ≢ a → i ≢ b → turn a b i ≡ i
turn_else a b i apart apart' = rw (eq_other i a apart, eq_other i b apart') refl

-- by which of the two places it is
by_turn : (a b i : ℕ) (P : ℕ → ℕ → Type 0) → P a b → P b a → (i ≢ a → i ≢ b → P i i) → P i (turn a b i)
by_turn a b i P first second other = ⊎_elim
    (λ (same : i ≡ a). subst (λ (j : ℕ). P j (turn a b j)) (sym same) (subst (λ (j : ℕ). P a j) (sym (turn_first a b)) first))
    (λ (apart : i ≢ a). ⊎_elim
    (λ (same : i ≡ b). subst (λ (j : ℕ). P j (turn a b j)) (sym same) (subst (λ (j : ℕ). P b j) (sym (turn_second a b)) second))
    (λ (apart' : i ≢ b). subst (λ (j : ℕ). P i j) (sym (turn_else a b i apart apart')) (other apart apart'))
    (cases_eq i b))
    (cases_eq i a)

turn_back : (a b i : ℕ) → turn a b (turn a b i) ≡ i
turn_back a b i = by_turn a b i (λ j t. turn a b t ≡ j) (turn_second a b) (turn_first a b) (λ apart apart'. turn_else a b i apart apart')

pub record IsMoved {X : Type 0} (xs ys : List X) : Type 0 where
  pub from : ℕ → ℕ
  pub long : length ys ≡ length xs
  pub within : (i : ℕ) → i < length ys → from i < length xs
  pub is : (i : ℕ) (d : X) → i < length ys → get_or ys i d ≡ get_or xs (from i) d
  pub one : (i j : ℕ) → i < length ys → j < length ys → from i ≡ from j → i ≡ j

module _ {X : Type 0} (xs : List X) where
  unmoved : IsMoved xs xs
  unmoved = record { from = λ i. i; long = refl; within = λ i lt. lt; is = λ i d lt. refl; one = λ i j li lj e. e }

  turned : (l : List X) (a b : ℕ) → a < length l → b < length l → IsMoved xs l → IsMoved xs (swap l a b)
  turned l a b la lb m =
      let long : length (swap l a b) ≡ length l = length-swap l a b in
      let low : (i : ℕ) → i < length (swap l a b) → turn a b i < length l = λ i lt. by_turn a b i (λ j t. t < length l) lb la (λ apart apart'. omega (arith, lt, long)) in
      record {
        from = λ i. m.from (turn a b i);
        long = long ∙ m.long;
        within = λ i lt. m.within (turn a b i) (low i lt);
        is = λ i d lt.
            let s = swapped_from_swap l (swap l a b) a b d la lb refl in
            by_turn a b i (λ j t. get_or (swap l a b) j d ≡ get_or l t d) s.0 s.1 (λ apart apart'. s.2 i apart apart') ∙ m.is (turn a b i) d (low i lt);
        one = λ i j li lj e. sym (turn_back a b i) ∙ ap (λ (k : ℕ). turn a b k) (m.one (turn a b i) (turn a b j) (low i li) (low j lj) e) ∙ turn_back a b j;
      }

  pub moved : (ys : List X) → IsPermutation xs ys → IsMoved xs ys
  moved ys p = IsPermutation-keeps xs (λ l. IsMoved xs l) unmoved turned ys p

-- ---- keys

module _ {X K : Type 0} (key : X → K) (xs ys : List X) (p : IsPermutation xs ys) where
  pub differ_before : Differ key ys → Differ key xs
  differ_before w =
      let m = moved ys xs (IsPermutation-sym xs ys p) in
      record {
        each = λ i j d less within same.
            let li : i < length xs = omega (arith, less, within) in
            let e : key (get_or ys (m.from i) d) ≡ key (get_or ys (m.from j) d) = sym (ap key (m.is i d li)) ∙ same ∙ ap key (m.is j d within) in
            ⊎_elim
            (λ (lt : m.from i < m.from j). w.each (m.from i) (m.from j) d lt (m.within j within) e)
            (λ (ge : m.from j ≤ m.from i). ⊎_elim
            (λ (eq : m.from i ≡ m.from j). absurd (omega (arith, less, m.one i j li within eq)))
            (λ (apart : m.from i ≢ m.from j). w.each (m.from j) (m.from i) d (omega (arith, ge, apart)) (m.within i li) (sym e))
            (cases_eq (m.from i) (m.from j)))
            (cases_lt (m.from i) (m.from j));
      }

  pub twice_before : (of : X → ℕ) (leaf : ℕ) → IsTwice key of ys leaf → IsTwice key of xs leaf
  twice_before of leaf w =
      let m = moved xs ys p in
      record {
        first = m.from w.first;
        second = m.from w.second;
        apart = λ e. w.apart (m.one w.first w.second w.before w.within e);
        before = m.within w.first w.before;
        within = m.within w.second w.within;
        same = λ d. sym (ap key (m.is w.first d w.before)) ∙ w.same d ∙ ap key (m.is w.second d w.within);
        leaf_is = λ d. sym (ap of (m.is w.second d w.within)) ∙ w.leaf_is d;
      }

  pub answer_before : (of : X → ℕ) (o : Option ℕ) → MatchOption o (Differ key ys) (IsTwice key of ys) → MatchOption o (Differ key xs) (IsTwice key of xs)
  answer_before of None w = differ_before w
  answer_before of (Some leaf) w = twice_before of leaf w
