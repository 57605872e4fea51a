-- Records that differ still do after a call.
use Rattle.std.proofs.Common.{◌≡◌, inl, inr, ℕ, Bool, true, false, eq-eqb, List, [], ◌∷◌, ◌++◌, Contains, find, Some, None, refl, sym, ap, ◌∙◌, subst}
use Rattle.std.specs.List.{list_any}
use Rattle.std.proofs.lemmas.List.Folds.{list_any_at}
use Rattle.std.proofs.lemmas.Slice.Eq.{bytes_eq-Decides}
use Rattle.fo_image.specs.declared.record.Record.{Record}
use Rattle.fo_meta.specs.Leaf.{is_named, without}
use Rattle.fo_meta.proofs.Lists.{find-none, without-none}
use Rattle.fo_dir_list.specs.Numbered.{has_number}
use Rattle.fo_dir_put.specs.Names.{Clash}
use Rattle.fo_dir_put.specs.Differ.{Distinct}
use Rattle.fo_dir_put.proofs.Named.{distinct_more}
use Rattle.fo_dir_change.proofs.Without.{Split, split_at, left_distinct, left_apart, was_there, named_is}
use Rattle.fo_dir_plain.specs.Pairs.{has_pair}
use Rattle.fo_dir_plain.specs.Calls.{IsNew, MayBear, IsAdded, IsChanged}

-- where none passes, no record of the list does
lacks : (p : Record → Bool) (rs : List Record) (q : Record) → list_any p rs ≡ false → Contains rs q → p q ≡ true → ⊥
lacks p rs q none (k, lt, at) passes =
    let some : list_any p rs ≡ true = list_any_at p rs k q lt (ap p at ∙ passes) in
    let no : true ≡ false = sym some ∙ none in cc

is_name : (q : Record) (name : List ℕ) → q.name ≡ name → is_named name q ≡ true
is_name q name e = (bytes_eq-Decides q.name name).1 e

-- a record that was added clashes with none
added_alone : {r : Record} {k : ℕ} {old new : List Record} → IsAdded r k old new → IsNew old r.number → (q : Record) → Contains old q → Clash q (record r { slot = k }) → ⊥
added_alone {r = r} {k = k} {old = old} a fresh q has (inl e) = lacks (is_named r.name) old q a.unnamed has (is_name q r.name e)
added_alone {r = r} {k = k} {old = old} a fresh q has (inr (inl e)) = lacks (has_number r.number) old q fresh has (eq-eqb q.number r.number e)
added_alone {r = r} {k = k} {old = old} a fresh q has (inr (inr e)) = lacks (has_pair k) old q a.least.free has (eq-eqb q.slot k e)

pub added_distinct : (r : Record) (k : ℕ) (old new : List Record) → IsAdded r k old new → IsNew old r.number → Distinct old → Distinct new
added_distinct r k old new a fresh d = subst Distinct (sym a.all) (distinct_more old (record r { slot = k }) d (added_alone a fresh))

-- the records that are left differ
pub removed_distinct : (name : List ℕ) (old : List Record) → Distinct old → Distinct (without name old)
removed_distinct name old d = by (list_any (is_named name) old) refl
  where
    by : (b : Bool) → list_any (is_named name) old ≡ b → Distinct (without name old)
    by true has = left_distinct (split_at name old has) d
    by false none = subst Distinct (sym (without-none name old none)) d

-- nor does one that has another name now
changed_alone : {name other : List ℕ} {old : List Record} → (s : Split name old) → MayBear old name other → Distinct old → (q : Record) → Contains (without name old) q → Clash q (record s.named { name = other }) → ⊥
changed_alone {name = name} {other = other} {old = old} s may d q has (inr more) = left_apart s d q has (inr more)
changed_alone {name = name} {other = other} {old = old} s (inl keeps) d q has (inl e) = left_apart s d q has (inl (e ∙ keeps ∙ sym ((bytes_eq-Decides s.named.name name).0 s.is)))
changed_alone {name = name} {other = other} {old = old} s (inr none) d q has (inl e) = lacks (is_named other) old q none (was_there s q has) (is_name q other e)

-- a name that a record is found by is there
found_there : (name : List ℕ) (old : List Record) (r : Record) → find (is_named name) old ≡ Some r → list_any (is_named name) old ≡ true
found_there name old r first = by (list_any (is_named name) old) refl
  where
    by : (b : Bool) → list_any (is_named name) old ≡ b → list_any (is_named name) old ≡ true
    by true has = has
    by false none = let no : None ≡ Some r = sym (find-none (is_named name) old none) ∙ first in absurd (cc)

pub changed_distinct : (name other : List ℕ) (old new : List Record) → IsChanged name other old new → MayBear old name other → Distinct old → Distinct new
changed_distinct name other old new c may d =
    let s = split_at name old (found_there name old c.named c.first) in
    subst Distinct (sym (c.all ∙ ap (λ (r : Record). without name old ++ record r { name = other } ∷ []) (sym (named_is s c.first))))
    (distinct_more (without name old) (record s.named { name = other }) (left_distinct s d) (changed_alone s may d))
