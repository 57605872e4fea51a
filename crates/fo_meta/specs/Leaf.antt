-- A meta leaf as a list of records.
use Rattle.std.specs.Prelude.{◌≡◌, ℕ, ◌+◌, ◌-◌, ◌≤◌, Bool, true, false, List, [], ◌∷◌, ◌++◌, length, drop, if◌then◌else◌}
use Rattle.std.specs.List.{flat_map, list_any, AllByRecursion}
use Rattle.std.specs.Str.{bytes_eq}
use Rattle.fo_image.specs.declared.record.Record.{Record}
use Rattle.fo_image.specs.Field.{FieldFits, Two, number, spelling, zeros}
use Rattle.fo_image.specs.Record.{RecordHolds, record_len, record_fields}

-- a record that has a spelling
pub record HasSpelling (r : Record) : Type 0 where
  pub holds : RecordHolds r
  pub fit : AllByRecursion FieldFits (record_fields r)

abbrev pub record_bytes : Record → List ℕ
record_bytes r = spelling (record_fields r)

abbrev pub records_bytes : List Record → List ℕ
records_bytes rs = flat_map record_bytes rs

-- count[2], used[2], the records one after the other, `used` bytes in all, and zeros up to 8192 bytes
pub record SpellsLeaf (rs : List Record) (leaf : List ℕ) : Type 0 where
  pub each : AllByRecursion HasSpelling rs
  pub room : length (records_bytes rs) ≤ 8188
  pub bytes_are : leaf ≡ number Two (length rs) ++ (number Two (length (records_bytes rs)) ++ (records_bytes rs ++ zeros (8188 - length (records_bytes rs))))

-- a block that is a meta leaf
pub record IsLeaf (leaf : List ℕ) : Type 0 where
  pub records : List Record
  pub spells : SpellsLeaf records leaf

abbrev pub is_named : List ℕ → Record → Bool
is_named name r = bytes_eq r.name name

-- the records without the first of this name
abbrev pub without : List ℕ → List Record → List Record
without name [] = []
without name (r ∷ rs) = if is_named name r then rs else r ∷ without name rs

-- where a record of the name stands in the leaf of these records: the first byte, and the one after the last
pub record Placed (name : List ℕ) (rs : List Record) (place : ℕ × ℕ) : Type 0 where
  pub before : List Record
  pub named : Record
  pub after : List Record
  pub split : rs ≡ before ++ named ∷ after
  pub unnamed : list_any (is_named name) before ≡ false
  pub is : is_named name named ≡ true
  pub start : place.0 ≡ 4 + length (records_bytes before)
  pub end : place.1 ≡ place.0 + record_len named

-- a record stands at this place of the leaf
pub record BeginsRecord (leaf : List ℕ) (at : ℕ) : Type 0 where
  pub named : Record
  pub more : List ℕ
  pub spelled : HasSpelling named
  pub here : drop at leaf ≡ record_bytes named ++ more
