-- What is chosen of a directory's records is what a search from the front finds, where one alone passes.
use Rattle.std.proofs.Common.{◌≡◌, ◌∙◌, ⊎_elim, ℕ, zero, suc, ◌+◌, ◌<◌, Bool, true, false, cond, Contains, List, [], ◌∷◌, ◌++◌, length, Option, Some, None, refl, sym, ap, arith}
use Rattle.std.proofs.lemmas.Cmp.{tied_itself, nat_list_cmp_total}
use Rattle.std.proofs.lemmas.Grind.{flat_map-append}
use Rattle.std.proofs.lemmas.List.{append-nil}
use Rattle.std.proofs.lemmas.List.Elements.{Contains-append_right, Contains-append_cases}
use Rattle.std.specs.Prelude.{find}
use Rattle.std.specs.List.{AllByRecursion, flat_map, range_with_len}
use Rattle.std.specs.Ordering.{is_lt}
use Rattle.std.specs.Str.{bytes_eq}
use Rattle.fo_image.specs.declared.record.Record.{Record}
use Rattle.fo_world.specs.Tree.{comes_before}
use Rattle.fo_world.specs.Step.{is_above}
use Rattle.fo_crash.specs.Images.{Arena, Image, Link, bytes_at, leaf_path}
use Rattle.fo_good.specs.Trees.{size_of}
use Rattle.fo_good.specs.Reading.{dir_records, leaf_records, leaves_in}
use Rattle.fo_files_world.specs.Choice.{passes, better, least, OnePasses}
use Rattle.fo_files_world.proofs.Order.{contrary, before_all}
use Rattle.fo_files_world.proofs.Puts.{one_before}

before_itself : (a : List ℕ) → comes_before a a ≡ false
before_itself a = ap is_lt (tied_itself nat_list_cmp_total a)

-- what doesn't come before a name doesn't come before one that comes before that name
not_before : (r b x : List ℕ) → comes_before r b ≡ true → comes_before x b ≡ false → comes_before x r ≡ false
not_before r b x lt ge = by (comes_before x r) refl
  where
    by : (v : Bool) → comes_before x r ≡ v → v ≡ false
    by true e = absurd (contrary (comes_before x b) (before_all x r b e lt) ge)
    by false e = refl

-- where none passes nothing is chosen
pub none_least : (test : List ℕ → ℕ → Bool) (rs : List Record) → AllByRecursion (λ q. passes test q ≡ false) rs → least test rs ≡ None
none_least test [] none = refl
none_least test (r ∷ rs) none = ap (λ v. cond v (Some (better r (least test rs))) (least test rs)) none.0 ∙ none_least test rs none.1

-- where one alone passes it is found and chosen
pub least_find : (test : List ℕ → ℕ → Bool) (rs : List Record) → OnePasses test rs → least test rs ≡ find (passes test) rs
least_find test [] one = refl
least_find test (r ∷ rs) one = by (passes test r) refl (least_find test rs one.1)
  where
    by : (v : Bool) → passes test r ≡ v → least test rs ≡ find (passes test) rs → cond v (Some (better r (least test rs))) (least test rs) ≡ cond v (Some r) (find (passes test) rs)
    by true e ih = ap (λ best. Some (better r best)) (none_least test rs (one.0 e))
    by false e ih = ih

-- each name is above the empty one
pub above_none : (name : List ℕ) → 0 < length name → is_above None name ≡ is_above (Some []) name
above_none [] some = absurd (omega (arith, some))
above_none (b ∷ bs) some = refl

-- ---- the next name

one_is : (x r : Record) → Contains (r ∷ []) x → x ≡ r
one_is x r (zero, lt, is) = sym is
one_is x r (suc k, lt, is) = absurd (omega (arith, lt))

head_in : (r : Record) (rs : List Record) → Contains (r ∷ rs) r
head_in r rs = (0, omega arith, refl)

-- Where none is chosen none passes; what is chosen is one of them and passes, and of those that pass none comes before it.
abbrev Chooses : (List ℕ → ℕ → Bool) → List Record → Option Record → Type 0
Chooses test rs None = (x : Record) → Contains rs x → passes test x ≡ true → ⊥
Chooses test rs (Some b) = Contains rs b × (passes test b ≡ true) × ((x : Record) → Contains rs x → passes test x ≡ true → comes_before x.name b.name ≡ false)

module _ (test : List ℕ → ℕ → Bool) (r : Record) (rs : List Record) where
  later : (x : Record) → Contains rs x → Contains (r ∷ rs) x
  later x one = Contains-append_right (r ∷ []) rs x one

  passed : (e : passes test r ≡ true) (l : Option Record) → Chooses test rs l → Chooses test (r ∷ rs) (Some (better r l))
  passed e None none = (head_in r rs, e, λ x one pass. ⊎_elim (λ here. ap (λ (y : Record). comes_before y.name r.name) (one_is x r here) ∙ before_itself r.name) (λ there. absurd (none x there pass)) (Contains-append_cases (r ∷ []) rs x one))
  passed e (Some b) some = by (comes_before r.name b.name) refl
    where
      by : (v : Bool) → comes_before r.name b.name ≡ v → Chooses test (r ∷ rs) (Some (cond v r b))
      by true lt = (head_in r rs, e, λ x one pass. ⊎_elim (λ here. ap (λ (y : Record). comes_before y.name r.name) (one_is x r here) ∙ before_itself r.name) (λ there. not_before r.name b.name x.name lt (some.2 x there pass)) (Contains-append_cases (r ∷ []) rs x one))
      by false ge = (later b some.0, some.1, λ x one pass. ⊎_elim (λ here. ap (λ (y : Record). comes_before y.name b.name) (one_is x r here) ∙ ge) (λ there. some.2 x there pass) (Contains-append_cases (r ∷ []) rs x one))

  failed : (e : passes test r ≡ false) (l : Option Record) → Chooses test rs l → Chooses test (r ∷ rs) l
  failed e None none = λ x one pass. ⊎_elim (λ here. contrary (passes test r) (sym (ap (passes test) (one_is x r here)) ∙ pass) e) (λ there. none x there pass) (Contains-append_cases (r ∷ []) rs x one)
  failed e (Some b) some = (later b some.0, some.1, λ x one pass. ⊎_elim (λ here. absurd (contrary (passes test r) (sym (ap (passes test) (one_is x r here)) ∙ pass) e)) (λ there. some.2 x there pass) (Contains-append_cases (r ∷ []) rs x one))

  either : (v : Bool) → passes test r ≡ v → (l : Option Record) → Chooses test rs l → Chooses test (r ∷ rs) (cond v (Some (better r l)) l)
  either true e l chosen = passed e l chosen
  either false e l chosen = failed e l chosen

none_in : (x : Record) → Contains [] x → ⊥
none_in x (k, lt, is) = omega (arith, lt)

pub chooses : (test : List ℕ → ℕ → Bool) (rs : List Record) → Chooses test rs (least test rs)
chooses test [] = λ x one pass. none_in x one
chooses test (r ∷ rs) = either test r rs (passes test r) refl (least test rs) (chooses test rs)

-- Of records whose names differ, one that passes, and before which no other that passes comes, is chosen.
pub next_least : (test : List ℕ → ℕ → Bool) (rs : List Record) (r : Record) → ((x y : Record) → Contains rs x → Contains rs y → bytes_eq x.name y.name ≡ true → x ≡ y)
    → Contains rs r → passes test r ≡ true → ((x : Record) → Contains rs x → passes test x ≡ true → comes_before x.name r.name ≡ false) → least test rs ≡ Some r
next_least test rs r differ one pass first = by (least test rs) (chooses test rs)
  where
    same : (b : Record) → Contains rs b → comes_before b.name r.name ≡ false → comes_before r.name b.name ≡ false → (v : Bool) → bytes_eq b.name r.name ≡ v → b ≡ r
    same b there not_b not_r true e = differ b r there one e
    same b there not_b not_r false e = absurd (contrary (comes_before r.name b.name) (one_before b.name r.name not_b e) not_r)

    by : (l : Option Record) → Chooses test rs l → l ≡ Some r
    by None none = absurd (none r one pass)
    by (Some b) some = ap Some (same b some.0 (first b some.0 some.1) (some.2 r one pass) (bytes_eq b.name r.name) refl)

-- Where none passes none is chosen.
pub next_none : (test : List ℕ → ℕ → Bool) (rs : List Record) → ((x : Record) → Contains rs x → passes test x ≡ false) → least test rs ≡ None
next_none test rs none = by (least test rs) (chooses test rs)
  where
    by : (l : Option Record) → Chooses test rs l → l ≡ None
    by None chosen = refl
    by (Some b) some = absurd (contrary (passes test b) some.1 (none b some.0))

-- ---- records leaf by leaf

-- the records of so many leaves, one leaf after the other
abbrev pub row_by_row : (ℕ → List Record) → ℕ → List Record
row_by_row rows zero = []
row_by_row rows (suc n) = row_by_row rows n ++ rows n

range_snoc : (a n : ℕ) → range_with_len a (suc n) ≡ range_with_len a n ++ (a + n) ∷ []
range_snoc a zero = let e : a ≡ a + 0 = omega arith in ap (λ x. x ∷ []) e
range_snoc a (suc n) = let e : a + 1 + n ≡ a + suc n = omega arith in ap (λ xs. a ∷ xs) (range_snoc (a + 1) n ∙ ap (λ x. range_with_len (a + 1) n ++ x ∷ []) e)

next_row : (f : ℕ → List Record) (n : ℕ) → flat_map f (range_with_len 0 n) ++ f n ≡ flat_map f (range_with_len 0 (suc n))
next_row f n =
    let e : 0 + n ≡ n = omega arith in
    sym (ap (flat_map f) (range_snoc 0 n) ∙ flat_map-append f (range_with_len 0 n) ((0 + n) ∷ []) ∙ ap (λ x. flat_map f (range_with_len 0 n) ++ x) (append-nil (f (0 + n)) ∙ ap f e))

pub rows_joined : (f rows : ℕ → List Record) (n : ℕ) → ((i : ℕ) → i < n → f i ≡ rows i) → flat_map f (range_with_len 0 n) ≡ row_by_row rows n
rows_joined f rows zero each = refl
rows_joined f rows (suc n) each =
    let front = rows_joined f rows n (λ i lt. each i (omega (arith, lt))) in
    let row = each n (omega arith) in
    sym (next_row f n) ∙ (λ k. front k ++ row k)

-- The records that a tree has of a directory are those of its leaves, where each leaf below its end has these.
pub records_joined : (arena : Arena) (image : Image) (meta : Link) (rows : ℕ → List Record) → ((i : ℕ) → i < leaves_in (size_of meta.slot) → leaf_records (bytes_at arena image meta (leaf_path meta.slot i)) ≡ rows i)
    → dir_records arena image meta ≡ row_by_row rows (leaves_in (size_of meta.slot))
records_joined arena image meta rows each = rows_joined (λ k. leaf_records (bytes_at arena image meta (leaf_path meta.slot k))) rows (leaves_in (size_of meta.slot)) each
