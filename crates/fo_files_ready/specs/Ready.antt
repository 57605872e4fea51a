-- A leaf of records in which a record may change.
use Rattle.std.specs.Prelude.{◌≡◌, ◌⊎◌, ◌+◌, ◌*◌, ◌^◌, ℕ, List, false, cond, nat_le}
use Rattle.fo_image.specs.declared.record.Record.{Record}
use Rattle.fo_crash.specs.declared.slot.Slot.{Slot}
use Rattle.fo_crash.specs.declared.slot.Slot.TheVariants.{Entry as Head, Pointer as Leads, Prev}
use Rattle.fo_meta.specs.Leaf.{IsLeaf}
use Rattle.fo_ports.specs.State.{State, Looks}
use Rattle.fo_files_move.specs.of_dir_change.Changes.{Bears, BearsNot, IsTooLong}
use Rattle.fo_files_dir.specs.declared.dir.DirAt.{DirAt}
use Rattle.fo_files_change.specs.of_files_leaf.Leaf.{IsOwnLeaf, Readied}
use Rattle.fo_files_move.specs.of_files_record.Leaf.{IsRecordsAt}
use Rattle.fo_files_move.specs.of_files_record.Stays.{Rewrites, no_slot}
use Rattle.fo_files_move.specs.Moves.{HasMoved}
use Rattle.fo_files_change.specs.Records.{AltersRecords, records_of}

-- A leaf has a record of this name, and room for another in its place.
pub record HasPlace (name : List ℕ) (named : Record) (bytes : List ℕ) : Type 0 where
  pub bears : Bears name bytes
  pub fits : IsTooLong name named bytes → ⊥

-- A leaf has no record of this name, and room for one.
pub record HasRoom (name : List ℕ) (named : Record) (bytes : List ℕ) : Type 0 where
  pub leaf : IsLeaf bytes
  pub bears_not : BearsNot name bytes
  pub fits : IsTooLong name named bytes → ⊥

-- a leaf of a directory's records that may be changed
abbrev pub IsLeafOf : DirAt → State → ℕ → Type 0
IsLeafOf d s leaf = IsOwnLeaf s (33 + 2 * d.number) false leaf

-- how many bytes the source has whose entry a slot is
abbrev pub size_in : Slot → ℕ
size_in (Head e) = e.size
size_in (Leads p) = 0
size_in (Prev epoch at) = 0

-- how many bytes of records a directory has, as its second entry says
abbrev pub records_size : State → DirAt → ℕ
records_size s d = size_in ((s.now d.at).slot (d.slot + 1))

-- how many blocks it takes at most to make a leaf of so many bytes of records ready, or to add one of the first 409^2: where two levels of
-- pointers lead to all, two to trim them and six to add one; else each of the first is there
abbrev pub most_spare : ℕ → ℕ
most_spare size = cond (nat_le size (8192 * 409 ^ 2)) 8 6

-- Such a leaf has a record of this name, and room for another in its place.
pub record IsReadyFor (s : State) (d : DirAt) (leaf : ℕ) (name : List ℕ) (named : Record) : Type 0 where
  pub own : IsLeafOf d s leaf
  pub records : IsRecordsAt s leaf
  pub place : HasPlace name named ((s.now leaf).bytes)

-- Leaf i of a directory's records was made ready; from there on all was looked at.
pub record Stands (B : Type 0) (state : B → State) (old new : B) (d : DirAt) (i leaf : ℕ) : Type 0 where
  pub looked : B
  pub readied : B
  pub ready : Readied (state old) (state looked) (state readied) (records_of d i) leaf
  pub looks : Looks (state readied) (state new)

-- The records were trimmed, and leaf `spare` of them made ready; and then the record of this name moved to it, from another leaf.
pub record MovesTo (B : Type 0) (state : B → State) (old new : B) (d : DirAt) (spare from leaf : ℕ) (name : List ℕ) : Type 0 where
  pub trimmed : B
  pub trims : AltersRecords d (state old) (state trimmed)
  pub looked : B
  pub readied : B
  pub ready : Readied (state trimmed) (state looked) (state readied) (records_of d spare) leaf
  pub read : B
  pub looks : Looks (state readied) (state read)
  pub moved : HasMoved name (((state old).now from).bytes) (((state readied).now leaf).bytes) (((state new).now from).bytes) (((state new).now leaf).bytes)
  pub stays : Rewrites (λ x. (x ≡ from) ⊎ (x ≡ leaf)) no_slot (state read) (state new)

-- Leaf i was made ready, and then another, to which the record of this name moved from the one.
pub record Goes (B : Type 0) (state : B → State) (old new : B) (d : DirAt) (i spare leaf : ℕ) (name : List ℕ) : Type 0 where
  pub from : ℕ
  pub looked : B
  pub readied : B
  pub ready : Readied (state old) (state looked) (state readied) (records_of d i) from
  pub moves : MovesTo B state readied new d spare from leaf name

-- Leaf i was made ready for the record of this name to change, or another leaf, to which that record moved as it is.
abbrev pub MadeReady : (B : Type 0) (state : B → State) (old new : B) → DirAt → (i spare leaf : ℕ) → (name : List ℕ) → Type 0
MadeReady B state old new d i spare leaf name = Stands B state old new d i leaf ⊎ Goes B state old new d i spare leaf name
