-- What holds of flags over each call.
use Rattle.std.proofs.Common.{◌≡◌, ◌⊎◌, ◌+◌, ◌<◌, ◌≤◌, min, ℕ, zero, suc, Bool, true, false, cond, List, [], ◌∷◌, ◌++◌, length, map, set, slice_index_or, count_by, Contains, refl, sym, ap, subst, inl, inr, ◌∙◌, arith}
use Rattle.std.proofs.lemmas.List.Elements.{Contains-append_left, Contains-push, Contains-push_cases}
use Rattle.std.proofs.lemmas.List.{map-append, get_or-set_same, get_or-set_other}
use Rattle.std.proofs.lemmas.List.Sums.{sum_by-cons, sum_by-set}
use Rattle.std.proofs.lemmas.Bool.{cases_eq, cases_lt}
use Rattle.fo_order.specs.declared.marks.Flags.{Flags}
use Rattle.fo_order.specs.declared.marks.Mark.{Mark}
use Rattle.fo_order.specs.declared.marks.Tried.TheVariants.{Written, Failed}
use Rattle.fo_order.specs.Flags.{flag, quiet, flags_of, is_dirty, settled}
use Rattle.fo_order.specs.Marks.{IsFalling, mark, mark_rank, Known}
use Rattle.fo_order.proofs.Falling.{any_default}

-- written blocks are settled one by one
pub record Settling (old now : List Flags) (written : List Mark) : Type 0 where
  pub alike : (q : ℕ) → settled (flag now q) ≡ settled (flag old q)
  pub known : Known now written
  pub count : count_by is_dirty now ≡ count_by is_dirty old
  pub long : length now ≡ length old

pub never : {A : Type 0} → false ≡ true → A
never e = absurd (clash e)
  where
    clash : false ≡ true → ⊥
    clash h = cc

pub not_failed : {A : Type 0} → Written ≡ Failed → A
not_failed e = absurd (clash e)
  where
    clash : Written ≡ Failed → ⊥
    clash h = cc

-- a dirty block is within
pub in_range : (flags : List Flags) (at : ℕ) → (flag flags at).dirty ≡ true → at < length flags
in_range [] at e = never e
in_range (f ∷ flags) zero e = omega arith
in_range (f ∷ flags) (suc at) e = omega (arith, in_range flags at e)

-- what was read at a place
pub read_is : (flags : List Flags) (at : ℕ) (f : Flags) → at < length flags → f ≡ slice_index_or flags at f → flag flags at ≡ f
read_is flags at f lt is = any_default flags at quiet f lt ∙ sym is

-- what holds of the new flags holds of all, where it held of the others
pub at_each : (P : ℕ → Flags → Type 0) (flags : List Flags) (at : ℕ) (f : Flags) → at < length flags → P at f → ((q : ℕ) → P q (flag flags q)) → (q : ℕ) → P q (flag (set flags at f) q)
at_each P flags at f lt here there q = by (cases_eq q at)
  where
    by : (q ≡ at) ⊎ (q ≡ at → ⊥) → P q (flag (set flags at f) q)
    by (inl same) = subst (λ (k : ℕ). P k (flag (set flags at f) k)) (sym same) (subst (P at) (sym (get_or-set_same flags at f quiet lt)) here)
    by (inr other) = subst (P q) (sym (get_or-set_other flags at q f quiet other)) (there q)

-- how many are dirty then
pub count_set : (flags : List Flags) (at : ℕ) (f : Flags) → at < length flags → count_by is_dirty (set flags at f) + cond (flag flags at).dirty 1 0 ≡ count_by is_dirty flags + cond f.dirty 1 0
count_set flags at f lt = sum_by-set (λ (x : Flags). cond (is_dirty x) 1 0) flags at f quiet lt

pub counted_down : (flags : List Flags) (at rank : ℕ) → (flag flags at).dirty ≡ true → count_by is_dirty (set flags at (flags_of false Written rank)) + 1 ≡ count_by is_dirty flags
counted_down flags at rank dirty =
    let e = count_set flags at (flags_of false Written rank) (in_range flags at dirty) in
    let number : Bool → ℕ = λ b. cond b 1 0 in
    let one = ap number dirty in
    omega (arith, e, one)

-- where none is dirty
pub count_none : (flags : List Flags) → ((q : ℕ) → (flag flags q).dirty ≡ false) → count_by is_dirty flags ≡ 0
count_none [] clean = refl
count_none (f ∷ flags) clean =
    let number : Bool → ℕ = λ b. cond b 1 0 in
    let none = ap number (clean 0) in
    let rest = count_none flags (λ q. clean (suc q)) in
    let all : count_by is_dirty (f ∷ flags) ≡ cond {A = ℕ} f.dirty 1 0 + count_by is_dirty flags = sum_by-cons (λ (x : Flags). cond (is_dirty x) 1 0) f flags in
    omega (arith, all, none, rest)

falls_one : (m : Mark) (i j : ℕ) → i ≤ j → j < 1 → (slice_index_or (m ∷ []) j (mark 0 0)).rank ≤ (slice_index_or (m ∷ []) i (mark 0 0)).rank
falls_one m zero zero le lt = omega arith
falls_one m (suc i) zero le lt = absurd (omega (arith, le))
falls_one m i (suc j) le lt = absurd (omega (arith, lt))

-- a list of one mark
pub first_mark : (marks : List Mark) (m : Mark) → marks ≡ m ∷ [] → Contains marks m × IsFalling marks
first_mark marks m is = subst (λ (l : List Mark). Contains l m × IsFalling l) (sym is) ((0, omega arith, refl), record { each = falls_one m })

module _ (written new : List Mark) (m : Mark) (is : new ≡ written ++ m ∷ []) where
  pushed : (f : Mark → ℕ) → map f new ≡ map f written ++ f m ∷ []
  pushed f = ap (map f) is ∙ map-append f written (m ∷ [])

  pub push_has : (f : Mark → ℕ) → Contains (map f new) (f m)
  push_has f = subst (λ (l : List ℕ). Contains l (f m)) (sym (pushed f)) (Contains-push (map f written) (f m))

  pub push_keeps : (f : Mark → ℕ) (x : ℕ) → Contains (map f written) x → Contains (map f new) x
  push_keeps f x c = subst (λ (l : List ℕ). Contains l x) (sym (pushed f)) (Contains-append_left (map f written) (f m ∷ []) x c)

  pub least_push : (least : ℕ) → ((r : ℕ) → Contains (map mark_rank written) r → least ≤ r) → (r : ℕ) → Contains (map mark_rank new) r → min least m.rank ≤ r
  least_push least below r c = by (Contains-push_cases (map mark_rank written) m.rank r (subst (λ (l : List ℕ). Contains l r) (pushed mark_rank) c))
    where
      by : Contains (map mark_rank written) r ⊎ (m.rank ≡ r) → min least m.rank ≤ r
      by (inl among) = let b = below r among in omega (arith, b)
      by (inr same) = omega (arith, same)

  pub has_least_push : (least : ℕ) → (least < 4294967295 → Contains (map mark_rank written) least) → min least m.rank < 4294967295 → Contains (map mark_rank new) (min least m.rank)
  has_least_push least has low = by (cases_lt least m.rank)
    where
      by : (least < m.rank) ⊎ (m.rank ≤ least) → Contains (map mark_rank new) (min least m.rank)
      by (inl before) =
          let e : least ≡ min least m.rank = omega arith in
          subst (Contains (map mark_rank new)) e (push_keeps mark_rank least (has (omega arith)))
      by (inr behind) =
          let e : m.rank ≡ min least m.rank = omega arith in
          subst (Contains (map mark_rank new)) e (push_has mark_rank)
