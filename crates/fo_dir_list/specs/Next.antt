-- The next name of some records.
use Rattle.std.specs.Prelude.{◌≡◌, ◌+◌, ℕ, Bool, true, false, List, ◌++◌, drop, Option, Some, None, MatchOption, IfSome}
use Rattle.std.specs.List.{Contains}
use Rattle.fo_world.specs.Tree.{comes_before}
use Rattle.fo_image.specs.declared.record.Record.{Record}
use Rattle.fo_image.specs.Record.{record_len}
use Rattle.fo_meta.specs.Leaf.{HasSpelling, record_bytes}
use Rattle.fo_ports.specs.of_crash.Images.{Image}
use Rattle.fo_ports.specs.Sources.{Leaves}
use Rattle.fo_dir_read.specs.Names.{HasRecords, AreRecords}

-- No record's name is after this one.
pub record NoneAfter (after : List ℕ) (rs : List Record) : Type 0 where
  pub each : (x : Record) → Contains rs x → comes_before after x.name ≡ false

-- The record is of the least name after this one.
pub record IsNext (after : List ℕ) (rs : List Record) (r : Record) : Type 0 where
  pub is_one : Contains rs r
  pub later : comes_before after r.name ≡ true
  pub least : (x : Record) → Contains rs x → comes_before after x.name ≡ true → comes_before x.name r.name ≡ false

-- a record that was found, if one was, has a name after this one
abbrev pub IsLater : List ℕ → Option Record → Type 0
IsLater after found = IfSome found (λ r. comes_before after r.name ≡ true)

-- what is answered: a record of the least name, or that there is none
abbrev pub Answers : List ℕ → List Record → Option Record → Type 0
Answers after rs found = MatchOption found (NoneAfter after rs) (λ r. IsNext after rs r)

-- whether a record that was found comes before the best one so far
abbrev pub is_better : Option Record → Option Record → Bool
is_better None found = true
is_better (Some old) None = false
is_better (Some old) (Some new) = comes_before new.name old.name

-- This record stands at these bytes of a leaf, from the first to the one after the last.
pub record StandsAt (leaf : List ℕ) (place : ℕ × ℕ) (r : Record) : Type 0 where
  pub more : List ℕ
  pub spelled : HasSpelling r
  pub here : drop place.0 leaf ≡ record_bytes r ++ more
  pub end : place.1 ≡ place.0 + record_len r

-- the same, of a place in a leaf
abbrev pub NextStands : List ℕ → List ℕ → List Record → Option (ℕ × ℕ) → Type 0
NextStands leaf after rs found = MatchOption found (NoneAfter after rs) (λ place. (r : Record) × StandsAt leaf place r × IsNext after rs r)

-- Leaf i has records, and the next among them is this one.
pub record NextIn (now : Image) (leaves : Leaves) (after : List ℕ) (i : ℕ) (found : Option Record) : Type 0 where
  pub each : (rs : List Record) → HasRecords now leaves i rs → Answers after rs found
  pub records : List Record
  pub has : HasRecords now leaves i records

-- There are records in the leaves below this one, and the next among them is this one.
pub record NextBelow (now : Image) (leaves : Leaves) (after : List ℕ) (count : ℕ) (found : Option Record) : Type 0 where
  pub each : (rs : List Record) → AreRecords now leaves count rs → Answers after rs found
  pub records : List Record
  pub are : AreRecords now leaves count records
