-- So many of the listed blocks, as so many of all data blocks.
use Rattle.std.proofs.Common.{◌≡◌, ◌≢◌, ◌⊎◌, ⊎_elim, inl, inr, ℕ, zero, suc, ◌+◌, ◌-◌, ◌<◌, ◌≤◌, Bool, true, false, cond, List, [], ◌∷◌, length, get_or, set, get_or-set_same, get_or-set_other, length-set, refl, sym, ap, ◌∙◌, subst, arith}
use Rattle.std.specs.Prelude.{count_by, ◌↔◌}
use Rattle.std.specs.List.{All, Any}
use Rattle.std.proofs.lemmas.Bool.{cases_eq, false≢true}
use Rattle.std.proofs.lemmas.List.Sums.{sum_by-cons, sum_by-set}
use Rattle.fo_image.specs.Place.{first_data}
use Rattle.fo_good.specs.Lost.{AreSoMany}
use Rattle.fo_check_labels.specs.declared.labels.Known.{Known}
use Rattle.fo_check_labels.specs.Known.{Ascend}

-- ---- a mark for each address

pub blank : ℕ → List Bool
blank zero = []
blank (suc n) = false ∷ blank n

length-blank : (n : ℕ) → length (blank n) ≡ n
unfolding blank
length-blank zero = refl
length-blank (suc n) = omega (arith, length-blank n)

get_or-blank : (n i : ℕ) → get_or (blank n) i false ≡ false
unfolding blank
get_or-blank zero i = refl
get_or-blank (suc n) zero = refl
get_or-blank (suc n) (suc i) = get_or-blank n i

none_counted : (n : ℕ) → count_by (λ (b : Bool). b) (blank n) ≡ 0
unfolding blank
none_counted zero = refl
none_counted (suc n) = omega (arith, sum_by-cons (λ (b : Bool). cond b 1 0) false (blank n), none_counted n)

-- a listed block with this address that passes the test
pub record IsOne (p : Known → Bool) (at : ℕ) (m : Known) : Type 0 where
  pub passes : p m ≡ true
  pub address_is : m.address ≡ at

module _ (p : Known → Bool) (first len : ℕ) where
  pub mark : Bool → ℕ → List Bool → List Bool
  mark true i marks = set marks i true
  mark false i marks = marks

  pub marks : List Known → List Bool
  marks [] = blank len
  marks (m ∷ known) = mark (p m) (m.address - first) (marks known)

  length-mark : (b : Bool) (i : ℕ) (ms : List Bool) → length (mark b i ms) ≡ length ms
  unfolding mark
  length-mark true i ms = length-set ms i true
  length-mark false i ms = refl

  length-marks : (known : List Known) → length (marks known) ≡ len
  unfolding marks
  length-marks [] = length-blank len
  length-marks (m ∷ known) = length-mark (p m) (m.address - first) (marks known) ∙ length-marks known

  later : (m : Known) (known : List Known) (at : ℕ) → Any (IsOne p at) known → Any (IsOne p at) (m ∷ known)
  later m known at a = (suc a.0, a.1, omega (arith, a.2), a.3, a.4)

  now : (m : Known) (known : List Known) (at : ℕ) → IsOne p at m → Any (IsOne p at) (m ∷ known)
  now m known at is = (zero, m, omega arith, refl, is)

  either : (m : Known) (known : List Known) (at i : ℕ) (x : Known) → i < length (m ∷ known) → get_or (m ∷ known) i x ≡ x → IsOne p at x → IsOne p at m ⊎ Any (IsOne p at) known
  either m known at zero x lt is one = inl (subst (λ (y : Known). IsOne p at y) (sym is) one)
  either m known at (suc i) x lt is one = inr (i, x, omega (arith, lt), is, one)

  -- marked where it is
  marked : (b : Bool) (i j : ℕ) (ms : List Bool) → j < length ms → get_or (mark b i ms) j false ≡ true → (get_or ms j false ≡ true) ⊎ ((b ≡ true) × (j ≡ i))
  unfolding mark
  marked false i j ms lt h = inl h
  marked true i j ms lt h = ⊎_elim (λ (same : j ≡ i). inr (refl, same)) (λ (apart : j ≢ i). inl (sym (get_or-set_other ms i j true false apart) ∙ h)) (cases_eq j i)

  stays : (b : Bool) (i j : ℕ) (ms : List Bool) → j < length ms → get_or ms j false ≡ true → get_or (mark b i ms) j false ≡ true
  unfolding mark
  stays false i j ms lt h = h
  stays true i j ms lt h = ⊎_elim (λ (same : j ≡ i). subst (λ (n : ℕ). get_or (set ms i true) n false ≡ true) (sym same) (get_or-set_same ms i true false (omega (arith, lt, same)))) (λ (apart : j ≢ i). get_or-set_other ms i j true false apart ∙ h) (cases_eq j i)

  here : (b : Bool) (i j : ℕ) (ms : List Bool) → j < length ms → b ≡ true → j ≡ i → get_or (mark b i ms) j false ≡ true
  unfolding mark
  here false i j ms lt is same = absurd (false≢true is)
  here true i j ms lt is same = subst (λ (n : ℕ). get_or (set ms i true) n false ≡ true) (sym same) (get_or-set_same ms i true false (omega (arith, lt, same)))

  tail : (m : Known) (known : List Known) (P : Known → Type 0) → All P (m ∷ known) → All P known
  tail m known P all i d lt = all (suc i) d (omega (arith, lt))

  pub is_marked : (known : List Known) → All (λ (m : Known). first ≤ m.address) known → (j : ℕ) → j < len → get_or (marks known) j false ≡ true → Any (IsOne p (first + j)) known
  unfolding marks
  is_marked [] from j lt h = absurd (false≢true (sym (get_or-blank len j) ∙ h))
  is_marked (m ∷ known) from j lt h =
      let least : first ≤ m.address = from 0 m (omega arith) in
      ⊎_elim
      (λ old. later m known (first + j) (is_marked known (tail m known (λ (x : Known). first ≤ x.address) from) j lt old))
      (λ new. now m known (first + j) (record { passes = new.0; address_is = omega (arith, least, new.1) }))
      (marked (p m) (m.address - first) j (marks known) (omega (arith, lt, length-marks known)) h)

  pub mark_of : (known : List Known) → (j : ℕ) → j < len → Any (IsOne p (first + j)) known → get_or (marks known) j false ≡ true
  unfolding marks
  mark_of [] j lt a = absurd (omega (arith, a.2))
  mark_of (m ∷ known) j lt a = ⊎_elim
      (λ (one : IsOne p (first + j) m). here (p m) (m.address - first) j (marks known) (omega (arith, lt, length-marks known)) one.passes (omega (arith, one.address_is)))
      (λ old. stays (p m) (m.address - first) j (marks known) (omega (arith, lt, length-marks known)) (mark_of known j lt old))
      (either m known (first + j) a.0 a.1 a.2 a.3 a.4)

  counted : (b : Bool) (i : ℕ) (ms : List Bool) → i < length ms → get_or ms i false ≡ false → count_by (λ (t : Bool). t) (mark b i ms) ≡ cond b 1 0 + count_by (λ (t : Bool). t) ms
  unfolding mark
  counted false i ms lt isnt = omega arith
  counted true i ms lt isnt =
      let e = sum_by-set (λ (t : Bool). cond t 1 0) ms i true false lt in
      let gone : ◌≡◌ {A = ℕ} (cond (get_or ms i false) 1 0) 0 = rw isnt refl in
      omega (arith, e, gone)

  by_mark : (b c : Bool) → c ≡ b → (b ≡ true → ⊥) → c ≡ false
  by_mark true c is isnt = absurd (isnt refl)
  by_mark false c is isnt = is

  pub same_count : (known : List Known) → Ascend known → All (λ (m : Known). first ≤ m.address) known → All (λ (m : Known). m.address < first + len) known → count_by p known ≡ count_by (λ (t : Bool). t) (marks known)
  unfolding marks
  same_count [] up from to = sym (none_counted len)
  same_count (m ∷ known) up from to =
      let least : first ≤ m.address = from 0 m (omega arith) in
      let most : m.address < first + len = to 0 m (omega arith) in
      let up' : Ascend known = λ i j d less lt. up (suc i) (suc j) d (omega (arith, less)) (omega (arith, lt)) in
      let old = same_count known up' (tail m known (λ (x : Known). first ≤ x.address) from) (tail m known (λ (x : Known). x.address < first + len) to) in
      let isnt : get_or (marks known) (m.address - first) false ≡ false = by_mark (get_or (marks known) (m.address - first) false) (get_or (marks known) (m.address - first) false) refl
      (λ is. let a = is_marked known (tail m known (λ (x : Known). first ≤ x.address) from) (m.address - first) (omega (arith, least, most)) is in
      let less : m.address < (get_or known a.0 a.1).address = up 0 (suc a.0) a.1 (omega arith) (omega (arith, a.2)) in
      let there : (get_or known a.0 a.1).address ≡ first + (m.address - first) = ap (λ (x : Known). x.address) a.3 ∙ a.4.address_is in
      omega (arith, less, there, least)) in
      sum_by-cons (λ (x : Known). cond (p x) 1 0) m known ∙ ap (λ (n : ℕ). cond (p m) 1 0 + n) old ∙ sym (counted (p m) (m.address - first) (marks known) (omega (arith, least, most, length-marks known)) isnt)

-- So many data blocks have P, if those that pass the test are the listed ones that have it.
pub so_many : (p : Known → Bool) (P : ℕ → Type 0) (blocks count : ℕ) (known : List Known) → Ascend known → All (λ (m : Known). first_data blocks ≤ m.address) known → All (λ (m : Known). m.address < blocks) known
    → count ≡ count_by p known → ((at : ℕ) → first_data blocks ≤ at → at < blocks → Any (IsOne p at) known ↔ P at) → AreSoMany blocks P count
so_many p P blocks count known up from to is each = record {
  marks = marks p (first_data blocks) (blocks - first_data blocks) known;
  all = length-marks p (first_data blocks) (blocks - first_data blocks) known;
  each = λ k lt.
      let low : k < blocks - first_data blocks = omega (arith, lt, length-marks p (first_data blocks) (blocks - first_data blocks) known) in
      let e = each (first_data blocks + k) (omega arith) (omega (arith, low)) in
      ((λ yes. e.0 (is_marked p (first_data blocks) (blocks - first_data blocks) known from k low yes)), (λ has. mark_of p (first_data blocks) (blocks - first_data blocks) known k low (e.1 has)));
  count_is = is ∙ same_count p (first_data blocks) (blocks - first_data blocks) known up from (λ i d lt. let high = to i d lt in let low = from i d lt in omega (arith, high, low));
}
