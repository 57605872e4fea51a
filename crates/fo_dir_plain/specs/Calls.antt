-- What a call does to a list of records, and why it is refused.
use Rattle.std.specs.Prelude.{◌≡◌, ◌≢◌, ◌⊎◌, ℕ, true, false, List, [], ◌∷◌, ◌++◌, Some, find}
use Rattle.std.specs.List.{list_any}
use Rattle.fo_image.specs.declared.record.Record.{Record}
use Rattle.fo_meta.specs.Leaf.{is_named, without}
use Rattle.fo_dir_list.specs.Numbered.{has_number}
use Rattle.fo_dir_plain.specs.declared.refusal.Refusal.{Refusal}
use Rattle.fo_dir_plain.specs.declared.refusal.Refusal.TheVariants as why
use Rattle.fo_dir_plain.specs.Pairs.{IsFull, IsLeastPair}

-- a record of the list has the name
abbrev pub HasName : List ℕ → List Record → Type 0
HasName name rs = list_any (is_named name) rs ≡ true

-- no record of the list has the name
abbrev pub LacksName : List ℕ → List Record → Type 0
LacksName name rs = list_any (is_named name) rs ≡ false

-- no record of the list has the number
abbrev pub IsNew : List Record → ℕ → Type 0
IsNew rs number = list_any (has_number number) rs ≡ false

-- a record of this name may come to have the other one: it is its own, or none has it
abbrev pub MayBear : List Record → (name other : List ℕ) → Type 0
MayBear rs name other = (other ≡ name) ⊎ LacksName other rs

-- why no record of this name is added
abbrev pub RefusesAdd : List Record → List ℕ → Refusal → Type 0
RefusesAdd rs name why.Absent = ⊥
RefusesAdd rs name why.Exists = HasName name rs
RefusesAdd rs name why.Full = LacksName name rs × IsFull rs
RefusesAdd rs name why.Memory = Unit {0}

-- why no record of this name is taken out
abbrev pub RefusesRemove : List Record → List ℕ → Refusal → Type 0
RefusesRemove rs name why.Absent = LacksName name rs
RefusesRemove rs name why.Exists = ⊥
RefusesRemove rs name why.Full = ⊥
RefusesRemove rs name why.Memory = ⊥

-- why the first record of a name gets no other one
abbrev pub RefusesChange : List Record → (name other : List ℕ) → Refusal → Type 0
RefusesChange rs name other why.Absent = LacksName name rs
RefusesChange rs name other why.Exists = HasName name rs × (other ≢ name) × HasName other rs
RefusesChange rs name other why.Full = ⊥
RefusesChange rs name other why.Memory = Unit {0}

-- A record of a new name was added at the end, with the least free pair.
pub record IsAdded (r : Record) (k : ℕ) (old new : List Record) : Type 0 where
  pub least : IsLeastPair old k
  pub unnamed : LacksName r.name old
  pub all : new ≡ old ++ record r { slot = k } ∷ []

-- The first record of a name was taken out, and stands at the end with another name.
pub record IsChanged (name other : List ℕ) (old new : List Record) : Type 0 where
  pub named : Record
  pub first : find (is_named name) old ≡ Some named
  pub all : new ≡ without name old ++ record named { name = other } ∷ []
