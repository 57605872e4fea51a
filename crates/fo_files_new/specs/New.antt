-- A new file comes into a directory.
use Rattle.std.specs.Prelude.{◌≡◌, ◌≢◌, ◌⊎◌, ◌+◌, ◌*◌, ◌/◌, ◌%◌, ◌^◌, ℕ, true, false, ◌≤◌, ◌++◌, List, [], ◌∷◌, length}
use Rattle.fo_image.specs.declared.types.Label.{Label}
use Rattle.fo_image.specs.declared.record.Record.{Record}
use Rattle.fo_image.specs.Record.{RecordHolds}
use Rattle.fo_meta.specs.Leaf.{IsLeaf}
use Rattle.fo_ports.specs.State.{State, AddsNoWait, Looks, none}
use Rattle.fo_dir_add.specs.of_dir_put.Paired.{HasBoth}
use Rattle.fo_dir_add.specs.of_dir_put.Puts.{StaysCalm}
use Rattle.fo_dir_add.specs.Adds.{HasAdded, IsNumbered, IsRaised}
use Rattle.fo_files_dir.specs.declared.dir.DirAt.{DirAt}
use Rattle.fo_files_leaf.specs.declared.open.LeafOf.{LeafOf}
use Rattle.fo_files_leaf.specs.Alters.{Alters}
use Rattle.fo_files_leaf.specs.Leaf.{IsAbove, IsOwnLeaf, Readied, TakesIn, IsClean}
use Rattle.fo_files_new.specs.declared.pair.Leaves.{Leaves}
use Rattle.std.specs.List.{Contains}
use Rattle.fo_ports.specs.Sources.{DirtiesIn}

-- the slots of a directory's entries
abbrev pub IsSlotOf : DirAt → ℕ → Type 0
IsSlotOf d k = (k ≡ d.slot) ⊎ (k ≡ d.slot + 1)

-- the tags of a directory's sources
abbrev pub IsTagOf : DirAt → ℕ → Type 0
IsTagOf d t = (t ≡ 32 + 2 * d.number) ⊎ (t ≡ 33 + 2 * d.number)

-- a label of a block above the leaves of a directory's sources
abbrev pub IsAboveOf : DirAt → Label → Type 0
IsAboveOf d l = IsAbove (32 + 2 * d.number) true l ⊎ IsAbove (33 + 2 * d.number) false l

-- one of the two leaves
abbrev pub IsLeafOf : Leaves → ℕ → Type 0
IsLeafOf leaves b = (b ≡ leaves.entries) ⊎ (b ≡ leaves.records)

-- The sources of a directory were looked at and linked, and blocks above their leaves put into, beside some leaves; all else stays.
abbrev pub AltersDir : DirAt → (ℕ → Type 0) → State → State → Type 0
AltersDir d but s u = Alters d.at (IsSlotOf d) (IsTagOf d) (IsAboveOf d) but s u

-- The leaf of a directory's entries that has a pair.
pub record IsEntriesLeaf (d : DirAt) (pair : ℕ) (w : LeafOf) : Type 0 where
  pub at_is : w.at ≡ d.at
  pub slot_is : w.slot ≡ d.slot
  pub kind : w.is_dir ≡ true
  pub tag : w.tag ≡ 32 + 2 * d.number
  pub rank : w.rank + 32 ≡ d.rank
  pub limit : w.limit ≡ 2 ^ 38
  pub leaf_is : w.leaf ≡ pair / 102

-- A leaf of a directory's records.
pub record IsRecordsLeaf (d : DirAt) (leaf : ℕ) (w : LeafOf) : Type 0 where
  pub at_is : w.at ≡ d.at
  pub slot_is : w.slot ≡ d.slot + 1
  pub kind : w.is_dir ≡ false
  pub tag : w.tag ≡ 33 + 2 * d.number
  pub rank : w.rank + 24 ≡ d.rank
  pub limit : w.limit ≡ 2 ^ 40
  pub leaf_is : w.leaf ≡ leaf

-- The two leaves may be changed, each of its source.
pub record AreOwn (s : State) (d : DirAt) (leaves : Leaves) : Type 0 where
  pub entries_own : IsOwnLeaf s (32 + 2 * d.number) true leaves.entries
  pub records_own : IsOwnLeaf s (33 + 2 * d.number) false leaves.records

-- Where a directory's entries have to grow to have the leaf with a pair, and one stands behind their end, it was taken in, and all settled; else
-- all was only looked at.
pub record TakesBehind (s z : State) (d : DirAt) (pair : ℕ) : Type 0 where
  pub alters : AltersDir d none s z
  pub taken : Looks s z ⊎ ((w : LeafOf) × IsEntriesLeaf d pair w × TakesIn s z w × IsClean z)

-- The leaf of a directory's entries with a pair was made ready, after one behind their end was taken in; its source was linked at once.
pub record ReadiesEntries (B : Type 0) (state : B → State) (old new : B) (d : DirAt) (pair leaf : ℕ) : Type 0 where
  pub wanted : LeafOf
  pub is_wanted : IsEntriesLeaf d pair wanted
  pub behind : B
  pub taken : TakesBehind (state old) (state behind) d pair
  pub looked : B
  pub ready : Readied (state behind) (state looked) (state new) wanted leaf

-- Leaf i of a directory's records was made ready, after they were trimmed where they had to be; their source was linked at once.
pub record ReadiesRecords (B : Type 0) (state : B → State) (old new : B) (d : DirAt) (i leaf : ℕ) : Type 0 where
  pub wanted : LeafOf
  pub is_wanted : IsRecordsLeaf d i wanted
  pub trimmed : B
  pub trims : AltersDir d none (state old) (state trimmed)
  pub looked : B
  pub ready : Readied (state trimmed) (state looked) (state new) wanted leaf

-- First the one was made ready, and then the other.
pub record ReadiesBoth (B : Type 0) (state : B → State) (old new : B) (d : DirAt) (pair i : ℕ) (leaves : Leaves) : Type 0 where
  pub entries_owned : B
  pub of_entries : ReadiesEntries B state old entries_owned d pair leaves.entries
  pub of_records : ReadiesRecords B state entries_owned new d i leaves.records

-- The leaves hung from block 1 when all was last settled, or need not be written yet.
abbrev pub AreInPlace : State → Leaves → Type 0
AreInPlace s leaves = (b : ℕ) → IsLeafOf leaves b → s.newborn b ⊎ s.sealed b

-- A record of a new file stands behind the others of its leaf, with its pair; from the moment when the leaves were in place. The leaf of records
-- was looked at, up to the second state. Each other pair of the leaf of entries stays, no slot begins to wait to be cleared, or is cleared, and the
-- leaf waits for both entries.
pub record IsPut (s n u : State) (d : DirAt) (pair : ℕ) (leaves : Leaves) (named r : Record) : Type 0 where
  pub numbered : IsNumbered named pair r.generation r
  pub holds : RecordHolds r
  pub raised : IsRaised ((s.now leaves.entries).slot (2 * (pair % 102))) r.generation
  pub has_pair : HasBoth leaves.entries u.now r
  pub was_leaf : IsLeaf ((s.now leaves.records).bytes)
  pub listed : HasAdded r ((s.now leaves.records).bytes) ((u.now leaves.records).bytes)
  pub others : (k : ℕ) → k ≢ 2 * (pair % 102) → k ≢ 2 * (pair % 102) + 1 → (u.now leaves.entries).slot k ≡ (s.now leaves.entries).slot k
  pub looks : Looks s n
  pub calm : StaysCalm n u
  pub waits : u.waits leaves.records leaves.entries (2 * (pair % 102)) × u.waits leaves.records leaves.entries (2 * (pair % 102) + 1)
  pub no_wait : AddsNoWait (λ b. b ≡ leaves.records) n u
  pub alters : AltersDir d (IsLeafOf leaves) s u
  pub own : AreOwn u d leaves

-- A new file came into a directory: its leaves were made ready, then settled where they had to be, and then the pair and the record put.
pub record IsNew (B : Type 0) (state : B → State) (old new : B) (d : DirAt) (pair i : ℕ) (named r : Record) : Type 0 where
  pub leaves : Leaves
  pub readied : B
  pub ready : ReadiesBoth B state old readied d pair i leaves
  pub settled : B
  pub settles : AltersDir d none (state readied) (state settled)
  pub in_place : AreInPlace (state settled) leaves
  pub looked : B
  pub put : IsPut (state settled) (state looked) (state new) d pair leaves named r

-- Beside the block with a directory's entries so many more at most are left to be written, with these two leaves.
pub record AddsLeaves (most : ℕ) (at : ℕ) (leaves : Leaves) (old new : State) : Type 0 where
  pub more : List ℕ
  pub few : length more ≤ most
  pub within : DirtiesIn (more ++ at ∷ []) old new
  pub entries : Contains (more ++ at ∷ []) leaves.entries
  pub records : Contains (more ++ at ∷ []) leaves.records
