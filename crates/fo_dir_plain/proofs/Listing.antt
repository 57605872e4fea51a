-- Walks along a list of records.
use Rattle.std.proofs.Common.{◌≡◌, ◌≢◌, inr, ℕ, ◌+◌, ◌<◌, Bool, true, false, MatchBool, MatchOption, bytes_eq, List, [], ◌∷◌, ◌++◌, length, get_or, take, drop, remove, find, Option, Some, None, refl, sym, ap, ◌∙◌, arith}
use Rattle.std.specs.List.{list_any}
use Rattle.std.proofs.lemmas.List.{length-append, length-take-le, take-append-drop, drop_more, get_or_at}
use Rattle.std.proofs.lemmas.Slice.Eq.{bytes_eq-Decides}
use Rattle.fo_image.specs.declared.record.Record.{Record}
use Rattle.fo_meta.specs.Leaf.{is_named, without}
use Rattle.fo_meta.proofs.Lists.{any-first, without-first}
use Rattle.fo_world.specs.Tree.{comes_before}
use Rattle.fo_dir_list.specs.Next.{Answers, IsNext}
use Rattle.fo_dir_list.proofs.Least.{right_is, right_less, next_one}
use Rattle.fo_dir_change.proofs.Without.{Split, first}
use Rattle.fo_dir_plain.specs.Calls.{HasName, MayBear, IsChanged}
use Rattle.fo_dir_plain.specs.Places.{IsPlace}

-- ---- names

-- none so far has the name, and the next one has it
pub place_is : (name : List ℕ) (rs : List Record) (i : ℕ) (r : Record) → i < length rs → r ≡ get_or rs i r → list_any (is_named name) (take i rs) ≡ false → is_named name r ≡ true → IsPlace name rs i
place_is name rs i r lt at none has = record {
  before = take i rs;
  named = r;
  after = drop (i + 1) rs;
  split = sym (take-append-drop i rs) ∙ ap (λ xs. take i rs ++ xs) (drop_more rs i r lt ∙ ap (λ x. x ∷ drop (i + 1) rs) (sym at));
  unnamed = none;
  is = has;
  place = sym (length-take-le i rs (omega (arith, lt)));
}

pub split_of : {name : List ℕ} {rs : List Record} {i : ℕ} → IsPlace name rs i → Split name rs
split_of p = record { before = p.before; named = p.named; after = p.after; split = p.split; unnamed = p.unnamed; is = p.is }

pub place_within : {name : List ℕ} {rs : List Record} {i : ℕ} → IsPlace name rs i → i < length rs
place_within p = omega (arith, p.place, ap length p.split, length-append p.before (p.named ∷ p.after))

-- the record at the place, and the list without it
pub record_there : {name : List ℕ} {rs : List Record} {i : ℕ} {r : Record} → (p : IsPlace name rs i) → r ≡ get_or rs i r → r ≡ p.named
record_there {i = i} {r = r} p at = at ∙ ap (λ xs. get_or xs i r) p.split ∙ get_or_at p.before p.named p.after r i (sym p.place)

removed_at : (before after : List Record) (r : Record) → remove (before ++ r ∷ after) (length before) ≡ before ++ after
removed_at [] after r = refl
removed_at (b ∷ before) after r = ap (λ xs. b ∷ xs) (removed_at before after r)

pub others_there : {name : List ℕ} {rs : List Record} {i : ℕ} → (p : IsPlace name rs i) → remove rs i ≡ without name rs
others_there {name = name} {i = i} p =
    ap (λ xs. remove xs i) p.split
    ∙ ap (λ n. remove (p.before ++ p.named ∷ p.after) n) p.place
    ∙ removed_at p.before p.after p.named
    ∙ sym (without-first name p.before p.after p.named p.unnamed p.is)
    ∙ ap (without name) (sym p.split)

-- a record has the name
pub name_there : {name : List ℕ} {rs : List Record} {i : ℕ} → IsPlace name rs i → HasName name rs
name_there {name = name} p = ap (list_any (is_named name)) p.split ∙ any-first (is_named name) p.before p.after p.named p.is

-- the one at the place was taken out, and put at the end with another name
pub changed_there : {name other : List ℕ} {rs mid new : List Record} {i : ℕ} {r x : Record} → IsPlace name rs i → r ≡ get_or rs i r → mid ≡ remove rs i → x ≡ record r { name = other } → new ≡ mid ++ x ∷ [] → IsChanged name other rs new
unfolding split_of
changed_there {name = name} {other = other} {rs = rs} {r = r} {x = x} p at out is put =
    let found : find (is_named name) rs ≡ Some r = first (split_of p) ∙ ap Some (sym (record_there p at)) in
    record {
      named = r;
      first = found;
      all = put ∙ ap (λ xs. xs ++ x ∷ []) (out ∙ others_there p) ∙ ap (λ y. without name rs ++ y ∷ []) is;
    }

-- it was taken out
pub taken_out : {name : List ℕ} {rs mid : List Record} {i : ℕ} → IsPlace name rs i → mid ≡ remove rs i → HasName name rs × (mid ≡ without name rs)
taken_out p is = (name_there p, is ∙ others_there p)

-- whether another record has a name
pub taken_is : (rs : List Record) (name other : List ℕ) (b : Bool) → b ≡ list_any (is_named other) rs → bytes_eq other name ≡ false → MatchBool b ((other ≢ name) × HasName other rs) (MayBear rs name other)
taken_is rs name other true is ne = (λ e. apart (sym ((bytes_eq-Decides other name).1 e) ∙ ne), sym is)
  where
    apart : true ≡ false → ⊥
    apart e = cc
taken_is rs name other false is ne = inr (sym is)

-- ---- the next name

-- a record whose name is after this one, and comes before that of the best so far
pub comes_first : (after : List ℕ) (front : List Record) (best : Option Record) (r : Record) (b : Bool) → comes_before after r.name ≡ true → MatchOption best (b ≡ true) (λ old. b ≡ comes_before r.name old.name) → b ≡ true → Answers after front best → IsNext after (front ++ r ∷ []) r
comes_first after front None r b later is has a = right_is a (next_one r later)
comes_first after front (Some old) r b later is has a = right_less a (next_one r later) (sym is ∙ has)
