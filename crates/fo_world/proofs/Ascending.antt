-- Pairs in ascending order of their names: what keeps the order, and where a binary search finds a name.
use Rattle.std.proofs.Common.{◌≡◌, refl, sym, ap, ◌∙◌, ℕ, zero, suc, ◌+◌, ◌<◌, ◌≤◌, List, [], ◌∷◌, length, get_or, set, Bool, true, false, not, cond, arith, inl, inr, subst, if◌then◌else◌}
use Rattle.std.proofs.lemmas.Bool.{cases_lt}
use Rattle.std.proofs.lemmas.Cmp.{tied_itself, nat_list_cmp_total, nat_list_eq_equiv}
use Rattle.std.proofs.lemmas.List.MinMax.{ranks_by}
use Rattle.std.proofs.lemmas.List.Sums.{prefix_len_is, prefix_len_passes, prefix_len_stops}
use Rattle.std.proofs.lemmas.Map.Text.{is_eq-slice_cmp}
use Rattle.std.specs.Cmp.{IsStrictWeakOrder}
use Rattle.std.specs.Cmp.Lexicographic.{slice_cmp}
use Rattle.std.specs.List.{insert, remove}
use Rattle.std.specs.List.Sorted.{IsPartitionedBy, IsPartitionPoint}
use Rattle.std.specs.Ordering.{nat_cmp, is_lt, is_eq, ordering_reverse}
use Rattle.std.specs.declared.cmp.Ordering.{Ordering}
use Rattle.std.specs.declared.cmp.Ordering.TheVariants.{Less, Equal, Greater}
use Rattle.std.specs.Str.{bytes_eq}
use Rattle.fo_world.specs.declared.tree.Node.{Node}
use Rattle.fo_world.specs.Tree.{comes_before}
use Rattle.fo_world.specs.Places.{place_named, place_from, place_for, renamed_at}
use Rattle.fo_world.specs.Dated.{dated_node}
use Rattle.fo_world.specs.Ascending.{NoneBefore, Ascending}

-- ---- the order of names

ranks : IsStrictWeakOrder comes_before
ranks = ranks_by nat_list_cmp_total (λ name. name)

before_itself : (a : List ℕ) → comes_before a a ≡ false
before_itself a = ap is_lt (tied_itself nat_list_cmp_total a)

-- what comes before a name comes before each that isn't before that name
before_later : (a b c : List ℕ) → comes_before a b ≡ true → comes_before c b ≡ false → comes_before a c ≡ true
before_later a b c before later = go (comes_before a c) refl
  where
    go : (v : Bool) → comes_before a c ≡ v → v ≡ true
    go true e = refl
    go false e = cc (ranks.chain a c b e later)

-- what isn't behind a name comes before each that comes behind that name
earlier_before : (a b c : List ℕ) → comes_before b c ≡ true → comes_before b a ≡ false → comes_before a c ≡ true
earlier_before a b c before later = go (comes_before a c) refl
  where
    go : (v : Bool) → comes_before a c ≡ v → v ≡ true
    go true e = refl
    go false e = cc (ranks.chain b a c later e)

-- a name that comes before another is not that one
before_differs : (a b : List ℕ) → comes_before a b ≡ true → bytes_eq a b ≡ false
before_differs a b before = sym (is_eq-slice_cmp a b) ∙ go (slice_cmp nat_cmp a b) before
  where
    go : (o : Ordering) → is_lt o ≡ true → is_eq o ≡ false
    go Less h = refl
    go Equal h = cc
    go Greater h = refl

-- one of two names that differ comes before the other
one_before : (a b : List ℕ) → comes_before a b ≡ false → bytes_eq a b ≡ false → comes_before b a ≡ true
one_before a b before differs = ap is_lt (nat_list_cmp_total.antisymm b a) ∙ go (slice_cmp nat_cmp a b) before (is_eq-slice_cmp a b ∙ differs)
  where
    go : (o : Ordering) → is_lt o ≡ false → is_eq o ≡ false → is_lt (ordering_reverse o) ≡ true
    go Less h k = cc
    go Equal h k = cc
    go Greater h k = refl

-- ---- what keeps the order

NoneBefore-earlier : (a b : List ℕ) (es : List (List ℕ × Node)) → NoneBefore b es → comes_before b a ≡ false → NoneBefore a es
NoneBefore-earlier a b [] none before = tt
NoneBefore-earlier a b (e ∷ es) none before = (ranks.chain e.0 b a none.0 before, NoneBefore-earlier a b es none.1 before)

NoneBefore-insert : (name : List ℕ) (es : List (List ℕ × Node)) (i : ℕ) (x : List ℕ × Node) → NoneBefore name es → comes_before x.0 name ≡ false → NoneBefore name (insert es i x)
NoneBefore-insert name [] zero x none new = (new, tt)
NoneBefore-insert name [] (suc i) x none new = (new, tt)
NoneBefore-insert name (e ∷ es) zero x none new = (new, none)
NoneBefore-insert name (e ∷ es) (suc i) x none new = (none.0, NoneBefore-insert name es i x none.1 new)

pub Ascending-insert : (k : List ℕ) (n : Node) (es : List (List ℕ × Node)) → Ascending es → Ascending (insert es (place_for k es) (k, n))
Ascending-insert k n [] up = (tt, tt)
Ascending-insert k n (p ∷ ps) up = go (comes_before k p.0) refl (Ascending-insert k n ps up.1)
  where
    go : (b : Bool) → comes_before k p.0 ≡ b → Ascending (insert ps (place_for k ps) (k, n)) → Ascending (insert (p ∷ ps) (cond (not b) (1 + place_for k ps) 0) (k, n))
    go true e ih = let later : comes_before p.0 k ≡ false = ranks.one_way k p.0 e in ((later, NoneBefore-earlier k p.0 ps up.0 later), up)
    go false e ih = rw one_more (NoneBefore-insert p.0 ps (place_for k ps) (k, n) up.0 e, ih)
      where
        one_more : 1 + place_for k ps ≡ suc (place_for k ps)
        one_more = omega arith

NoneBefore-remove : (name : List ℕ) (es : List (List ℕ × Node)) (i : ℕ) → NoneBefore name es → NoneBefore name (remove es i)
NoneBefore-remove name [] zero none = tt
NoneBefore-remove name [] (suc i) none = tt
NoneBefore-remove name (e ∷ es) zero none = none.1
NoneBefore-remove name (e ∷ es) (suc i) none = (none.0, NoneBefore-remove name es i none.1)

pub Ascending-remove : (es : List (List ℕ × Node)) (i : ℕ) → Ascending es → Ascending (remove es i)
Ascending-remove [] zero up = tt
Ascending-remove [] (suc i) up = tt
Ascending-remove (e ∷ es) zero up = up.1
Ascending-remove (e ∷ es) (suc i) up = (NoneBefore-remove e.0 es i up.0, Ascending-remove es i up.1)

NoneBefore-set : (name : List ℕ) (es : List (List ℕ × Node)) (i : ℕ) (d : List ℕ × Node) (n : Node) → NoneBefore name es → NoneBefore name (set es i ((get_or es i d).0, n))
NoneBefore-set name [] i d n none = tt
NoneBefore-set name (e ∷ es) zero d n none = none
NoneBefore-set name (e ∷ es) (suc i) d n none = (none.0, NoneBefore-set name es i d n none.1)

-- another node under the same name
pub Ascending-set : (es : List (List ℕ × Node)) (i : ℕ) (d : List ℕ × Node) (n : Node) → Ascending es → Ascending (set es i ((get_or es i d).0, n))
Ascending-set [] i d n up = tt
Ascending-set (e ∷ es) zero d n up = up
Ascending-set (e ∷ es) (suc i) d n up = (NoneBefore-set e.0 es i d n up.0, Ascending-set es i d n up.1)

pub Ascending-item : (es : List (List ℕ × Node)) (i : ℕ) (d : List ℕ × Node) (n : Node) → d ≡ get_or es i d → Ascending es → Ascending (set es i (d.0, n))
Ascending-item es i d n is up = let P : List ℕ × Node → Type 0 = λ x. Ascending (set es i (x.0, n)) in subst P (sym is) (Ascending-set es i d n up)

-- another node and another name
pub Ascending-renamed : (es : List (List ℕ × Node)) (i : ℕ) (name : List ℕ) (f : Node → Node) (d : List ℕ × Node) → Ascending es → Ascending (renamed_at es i name f d)
Ascending-renamed es i name f d up = Ascending-insert name (f (get_or es i d).1) (remove es i) (Ascending-remove es i up)

pub Ascending-renamed-if : (b : Bool) (es : List (List ℕ × Node)) (i : ℕ) (name : List ℕ) (f : Node → Node) (d : List ℕ × Node) → Ascending es → Ascending (if b then renamed_at es i name f d else es)
Ascending-renamed-if true es i name f d up = Ascending-renamed es i name f d up
Ascending-renamed-if false es i name f d up = up

-- ---- where a binary search finds a name

NoneBefore-at : (name : List ℕ) (es : List (List ℕ × Node)) (j : ℕ) (d : List ℕ × Node) → NoneBefore name es → j < length es → comes_before (get_or es j d).0 name ≡ false
NoneBefore-at name [] j d none in_range = absurd (omega arith)
NoneBefore-at name (e ∷ es) zero d none in_range = none.0
NoneBefore-at name (e ∷ es) (suc j) d none in_range = NoneBefore-at name es j d none.1 (omega arith)

-- no name comes before one in front of it
Ascending-at : (es : List (List ℕ × Node)) (i j : ℕ) (d : List ℕ × Node) → Ascending es → i ≤ j → j < length es → comes_before (get_or es j d).0 (get_or es i d).0 ≡ false
Ascending-at [] i j d up order in_range = absurd (omega arith)
Ascending-at (e ∷ es) zero zero d up order in_range = before_itself e.0
Ascending-at (e ∷ es) zero (suc j) d up order in_range = NoneBefore-at e.0 es j d up.0 (omega arith)
Ascending-at (e ∷ es) (suc i) zero d up order in_range = absurd (omega arith)
Ascending-at (e ∷ es) (suc i) (suc j) d up order in_range = Ascending-at es i j d up.1 (omega arith) (omega arith)

-- what an index without a pair gives
abbrev pub no_pair : List ℕ × Node
no_pair = ([], dated_node 0 0)

abbrev pub earlier : List ℕ → List ℕ × Node → Bool
earlier k e = comes_before e.0 k

abbrev pub not_later : List ℕ → List ℕ × Node → Bool
not_later k e = not (comes_before k e.0)

-- the names before a name stand in front of the others
pub IsPartitionedBy-earlier : (k : List ℕ) (es : List (List ℕ × Node)) → Ascending es → IsPartitionedBy (earlier k) es
IsPartitionedBy-earlier k es up i j d order in_range before = earlier_before (get_or es i d).0 (get_or es j d).0 k before (Ascending-at es i j d up order in_range)

-- those that come after it stand behind the others
pub IsPartitionedBy-not_later : (k : List ℕ) (es : List (List ℕ × Node)) → Ascending es → IsPartitionedBy (not_later k) es
IsPartitionedBy-not_later k es up i j d order in_range passes = go (comes_before k (get_or es j d).0) refl passes
  where
    go : (v : Bool) → comes_before k (get_or es j d).0 ≡ v → not v ≡ true → not (comes_before k (get_or es i d).0) ≡ true
    go true e h = cc
    go false e h = ap not (ranks.chain k (get_or es j d).0 (get_or es i d).0 e (Ascending-at es i j d up order in_range))

-- a new name goes behind those that it doesn't come before
pub place_for-point : (k : List ℕ) (es : List (List ℕ × Node)) (i : ℕ) → i ≤ length es → IsPartitionPoint (λ e. not_later k e ≡ true) (λ e. not_later k e ≡ false) es i → i ≡ place_for k es
place_for-point k es i within point = sym (prefix_len_is (not_later k) es i no_pair within (λ j h. point.0 j no_pair (omega arith) h) (λ h. point.1 i no_pair (omega arith) h))

pub place_from-point : (k : List ℕ) (es : List (List ℕ × Node)) (i : ℕ) → i ≤ length es → IsPartitionPoint (λ e. earlier k e ≡ true) (λ e. earlier k e ≡ false) es i → i ≡ place_from k es
place_from-point k es i within point = sym (prefix_len_is (earlier k) es i no_pair within (λ j h. point.0 j no_pair (omega arith) h) (λ h. point.1 i no_pair (omega arith) h))

-- the names in front of that place differ from it
differs_before : (k : List ℕ) (es : List (List ℕ × Node)) (d : List ℕ × Node) (j : ℕ) → j < place_from k es → not (bytes_eq (get_or es j d).0 k) ≡ true
differs_before k es d j h = ap not (before_differs (get_or es j d).0 k (prefix_len_passes (earlier k) es j d h))

-- there stands the first that has the name
pub place_named-at : (k : List ℕ) (es : List (List ℕ × Node)) (d : List ℕ × Node) (i : ℕ) → i ≡ place_from k es → i < length es → bytes_eq (get_or es i d).0 k ≡ true → i ≡ place_named k es
place_named-at k es d i is in_range same =
    sym (prefix_len_is (λ e. not (bytes_eq e.0 k)) es i d (omega arith) (λ j h. differs_before k es d j (omega arith)) (λ h. ap not same))

-- or another, and then none has it
pub place_named-absent : (k : List ℕ) (es : List (List ℕ × Node)) (d : List ℕ × Node) (i : ℕ) → Ascending es → i ≡ place_from k es → (i < length es → bytes_eq (get_or es i d).0 k ≡ false) → length es ≤ place_named k es
place_named-absent k es d i up is differs = omega (arith, prefix_len_is (λ e. not (bytes_eq e.0 k)) es (length es) d (omega arith) all (λ h. absurd (omega arith)))
  where
    stops : i < length es → comes_before (get_or es i d).0 k ≡ false
    stops h = let at_place : place_from k es < length es = omega arith in rw is (prefix_len_stops (earlier k) es d at_place)

    later : (j : ℕ) → i ≤ j → j < length es → bytes_eq (get_or es j d).0 k ≡ false
    later j order in_range =
        let first : comes_before k (get_or es i d).0 ≡ true = one_before (get_or es i d).0 k (stops (omega arith)) (differs (omega arith)) in
        let above : comes_before k (get_or es j d).0 ≡ true = before_later k (get_or es i d).0 (get_or es j d).0 first (Ascending-at es i j d up order in_range) in
        nat_list_eq_equiv.symm (get_or es j d).0 k ∙ before_differs k (get_or es j d).0 above

    all : (j : ℕ) → j < length es → not (bytes_eq (get_or es j d).0 k) ≡ true
    all j in_range = elim (cases_lt j i) [
      | inl h ↦ differs_before k es d j (omega arith)
      | inr h ↦ ap not (later j h in_range)
    ]
