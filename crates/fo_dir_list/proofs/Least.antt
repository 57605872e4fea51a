-- The next of some records, as more come.
use Rattle.std.proofs.Common.{◌≡◌, ◌⊎◌, ◌+◌, ◌<◌, ℕ, Bool, true, false, slice_index_or, Contains, List, [], ◌∷◌, ◌++◌, Option, Some, None, refl, inl, inr, ⊎_elim, sym, ap, ◌∙◌, subst, arith}
use Rattle.std.specs.Ordering.{nat_cmp, is_lt, ordering_reverse}
use Rattle.std.specs.declared.cmp.Ordering.{Ordering}
use Rattle.std.specs.declared.cmp.Ordering.TheVariants.{Less, Equal, Greater}
use Rattle.std.specs.Cmp.Lexicographic.{slice_cmp}
use Rattle.std.proofs.lemmas.Cmp.{nat_list_cmp_total, tied_itself}
use Rattle.std.proofs.lemmas.List.Elements.{Contains-append_left, Contains-append_right, Contains-append_cases}
use Rattle.fo_image.specs.declared.record.Record.{Record}
use Rattle.fo_ports.specs.of_crash.Images.{Image, SameImage}
use Rattle.fo_ports.specs.Sources.{Leaves}
use Rattle.fo_dir_read.proofs.Rows.{rows_none, none_rows, rows_split, rows_more, rows_back, rows_on}
use Rattle.fo_world.specs.Tree.{comes_before}
use Rattle.fo_dir_list.specs.Next.{NoneAfter, IsNext, Answers, NextIn, NextBelow, is_better}

abbrev cmp : List ℕ → List ℕ → Ordering
cmp a b = slice_cmp nat_cmp a b

less : (o : Ordering) → is_lt o ≡ true → o ≡ Less
less Less h = refl
less Equal h = absurd (cc)
less Greater h = absurd (cc)

of_less : (o : Ordering) → o ≡ Less → is_lt o ≡ true
of_less o e = rw e refl

-- each is less, equal or greater
data Three (o : Ordering) : Type 0 where
  IsLess : o ≡ Less → Three o
  IsEqual : o ≡ Equal → Three o
  IsGreater : o ≡ Greater → Three o

three : (o : Ordering) → Three o
three Less = IsLess refl
three Equal = IsEqual refl
three Greater = IsGreater refl

before_trans : (a b c : List ℕ) → comes_before a b ≡ true → comes_before b c ≡ true → comes_before a c ≡ true
before_trans a b c h k = of_less (cmp a c) (nat_list_cmp_total.trans a b c (less (cmp a b) h) (less (cmp b c) k))

-- below one that is not above another is below that
before_not : (x b f : List ℕ) → comes_before x b ≡ true → comes_before f b ≡ false → comes_before x f ≡ true
before_not x b f h k = by (three (cmp b f))
  where
    by : Three (cmp b f) → comes_before x f ≡ true
    by (IsLess e) = of_less (cmp x f) (nat_list_cmp_total.trans x b f (less (cmp x b) h) e)
    by (IsEqual e) = of_less (cmp x f) (nat_list_cmp_total.antisymm x f ∙ ap ordering_reverse (sym (nat_list_cmp_total.congr b f x e)) ∙ sym (nat_list_cmp_total.antisymm x b) ∙ less (cmp x b) h)
    by (IsGreater e) = let is : comes_before f b ≡ true = of_less (cmp f b) (nat_list_cmp_total.antisymm f b ∙ ap ordering_reverse e) in let no : true ≡ false = sym is ∙ k in absurd (cc)

not_before_itself : (a : List ℕ) → comes_before a a ≡ false
not_before_itself a = rw (tied_itself nat_list_cmp_total a) refl

decide : (b : Bool) → (b ≡ true) ⊎ (b ≡ false)
decide true = inl refl
decide false = inr refl

-- where it being true is absurd, it is false
not_true : (b : Bool) → (b ≡ true → ⊥) → b ≡ false
not_true true h = absurd (h refl)
not_true false h = refl

both : {b : Bool} → b ≡ true → b ≡ false → ⊥
both {b = b} t f = let no : true ≡ false = sym t ∙ f in cc

pub none_of_none : (after : List ℕ) → NoneAfter after []
none_of_none after = record { each = λ x h. absurd (nothing (h.1)) }
  where
    nothing : {k : ℕ} → k < 0 → ⊥
    nothing lt = omega (arith, lt)

pub none_both : {after : List ℕ} {front last : List Record} → NoneAfter after front → NoneAfter after last → NoneAfter after (front ++ last)
none_both {front = front} {last = last} a b = record { each = λ x h. ⊎_elim (λ k. a.each x k) (λ k. b.each x k) (Contains-append_cases front last x h) }

pub left_is : {after : List ℕ} {front last : List Record} {r : Record} → IsNext after front r → NoneAfter after last → IsNext after (front ++ last) r
left_is {front = front} {last = last} {r = r} a b = record {
  is_one = Contains-append_left front last r a.is_one;
  later = a.later;
  least = λ x h l. ⊎_elim (λ k. a.least x k l) (λ k. absurd (both l (b.each x k))) (Contains-append_cases front last x h);
}

pub right_is : {after : List ℕ} {front last : List Record} {r : Record} → NoneAfter after front → IsNext after last r → IsNext after (front ++ last) r
right_is {front = front} {last = last} {r = r} a b = record {
  is_one = Contains-append_right front last r b.is_one;
  later = b.later;
  least = λ x h l. ⊎_elim (λ k. absurd (both l (a.each x k))) (λ k. b.least x k l) (Contains-append_cases front last x h);
}

pub left_less : {after : List ℕ} {front last : List Record} {r f : Record} → IsNext after front r → IsNext after last f → comes_before f.name r.name ≡ false → IsNext after (front ++ last) r
left_less {front = front} {last = last} {r = r} {f = f} a b order = record {
  is_one = Contains-append_left front last r a.is_one;
  later = a.later;
  least = λ x h l. ⊎_elim (λ k. a.least x k l) (λ k. not_true (comes_before x.name r.name) (λ t. both (before_not x.name r.name f.name t order) (b.least x k l))) (Contains-append_cases front last x h);
}

pub right_less : {after : List ℕ} {front last : List Record} {r f : Record} → IsNext after front r → IsNext after last f → comes_before f.name r.name ≡ true → IsNext after (front ++ last) f
right_less {front = front} {last = last} {r = r} {f = f} a b order = record {
  is_one = Contains-append_right front last f b.is_one;
  later = b.later;
  least = λ x h l. ⊎_elim (λ k. not_true (comes_before x.name f.name) (λ t. both (before_trans x.name f.name r.name t order) (a.least x k l))) (λ k. b.least x k l) (Contains-append_cases front last x h);
}

-- one record alone
one_is : (x r : Record) → Contains (r ∷ []) x → x ≡ r
one_is x r h = sym (subst (λ k. slice_index_or (r ∷ []) k x ≡ x) (zero_is h.1) h.2)
  where
    zero_is : {k : ℕ} → k < 1 → k ≡ 0
    zero_is lt = omega (arith, lt)

pub next_one : {after : List ℕ} (r : Record) → comes_before after r.name ≡ true → IsNext after (r ∷ []) r
next_one r later = record {
  is_one = (0, omega arith, refl);
  later = later;
  least = λ x h l. ap (λ (y : Record). comes_before y.name r.name) (one_is x r h) ∙ not_before_itself r.name;
}

pub none_one : {after : List ℕ} (r : Record) → comes_before after r.name ≡ false → NoneAfter after (r ∷ [])
none_one {after = after} r none = record { each = λ x h. ap (λ (y : Record). comes_before after y.name) (one_is x r h) ∙ none }

pub none_below : {now : Image} {x : Leaves} (after : List ℕ) → NextBelow now x after 0 None
none_below after = record { each = λ rs are. subst (λ ys. NoneAfter after ys) (sym (rows_none are)) (none_of_none after); records = []; are = none_rows }

-- the next of one more leaf, where the lesser of two is right
pub more_below : {now next : Image} {x y : Leaves} {i : ℕ} {after : List ℕ} {best found result : Option Record} → SameImage next now → ((j : ℕ) → y.at j ≡ x.at j) → NextBelow now x after i best → NextIn next y after i found
    → ((front last : List Record) → Answers after front best → Answers after last found → Answers after (front ++ last) result) → NextBelow next y after (i + 1) result
more_below {after = after} {result = result} same there before here lesser = record {
  each = λ rs are. let s = rows_split are in subst (λ ys. Answers after ys result) (sym s.is) (lesser s.front s.last (before.each s.front (rows_back same there s.are)) (here.each s.last s.has));
  records = before.records ++ here.records;
  are = rows_more (rows_on same there before.are) here.has;
}

-- which of two records is the lesser one
pub lesser_new : (after : List ℕ) (front last : List Record) (best found : Option Record) → is_better best found ≡ true → Answers after front best → Answers after last found → Answers after (front ++ last) found
lesser_new after front last None None is a b = none_both a b
lesser_new after front last None (Some new) is a b = right_is a b
lesser_new after front last (Some old) None is a b = absurd (cc)
lesser_new after front last (Some old) (Some new) is a b = right_less a b is

pub lesser_old : (after : List ℕ) (front last : List Record) (best found : Option Record) → is_better best found ≡ false → Answers after front best → Answers after last found → Answers after (front ++ last) best
lesser_old after front last None found is a b = absurd (cc)
lesser_old after front last (Some old) None is a b = left_is a b
lesser_old after front last (Some old) (Some new) is a b = left_less a b is
