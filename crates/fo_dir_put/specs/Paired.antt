-- Each record has both entries of its pair.
use Rattle.std.specs.Prelude.{◌≡◌, ◌⊎◌, ◌+◌, ◌*◌, ◌/◌, ◌%◌, ℕ, List}
use Rattle.std.specs.List.{Contains}
use Rattle.fo_image.specs.declared.record.Record.{Record}
use Rattle.fo_image.specs.declared.types.Entry.{Entry}
use Rattle.fo_good.specs.of_world.Step.{is_dir_mode}
use Rattle.fo_crash.specs.Images.{Image}
use Rattle.fo_crash.specs.declared.slot.Slot.TheVariants.{Entry as Head}
use Rattle.fo_good.specs.Reading.{leaf_records}
use Rattle.fo_good.specs.Trees.{IsFirst, IsSecond}
use Rattle.fo_ports.specs.State.{State}

-- In this image the record has its pair in a leaf of entries: the first entry in use for it, and the second exactly where it is a
-- directory's.
pub record HasBoth (entries : ℕ) (image : Image) (r : Record) : Type 0 where
  pub first : IsFirst ((image entries).slot (2 * (r.slot % 102))) r
  pub second : IsSecond ((image entries).slot (2 * (r.slot % 102) + 1)) r

-- In every image each record of the leaf whose pair is of leaf n of the entries, which is this block, has this pair, in that image and in
-- memory.
pub record AllPaired (n leaf entries : ℕ) (s : State) : Type 0 where
  pub each : (image : Image) → s.may_leave image → (r : Record) → Contains (leaf_records ((image leaf).bytes)) r → r.slot / 102 ≡ n → HasBoth entries image r × HasBoth entries s.now r

-- A record of these bytes has this one's pair, generation and number, and is a directory's where this one is.
pub record StoodAs (bytes : List ℕ) (r : Record) : Type 0 where
  pub before : Record
  pub is_one : Contains (leaf_records bytes) before
  pub slot : before.slot ≡ r.slot
  pub generation : before.generation ≡ r.generation
  pub number : before.number ≡ r.number
  pub dir : is_dir_mode before.mode ≡ is_dir_mode r.mode

-- Each record of the new bytes with its pair in leaf n of the entries stood in the old ones.
pub record AllStood (n : ℕ) (new old : List ℕ) : Type 0 where
  pub each : (r : Record) → Contains (leaf_records new) r → r.slot / 102 ≡ n → StoodAs old r

-- Each record of these bytes stood in the leaf, or has its pair in memory, in the leaf of entries that is waited for, where it waits for
-- no clearing.
pub record ArePaired (n leaf e entries : ℕ) (bytes : List ℕ) (s : State) : Type 0 where
  pub each : (r : Record) → Contains (leaf_records bytes) r → r.slot / 102 ≡ n → StoodAs ((s.now leaf).bytes) r ⊎ ((e ≡ entries) × HasBoth entries s.now r × (s.clearing entries (2 * (r.slot % 102)) → ⊥))

-- Each record of the new bytes stood in the old ones, or has pair p of this leaf of entries, for which these two are right.
pub record AddsPaired (n p e entries : ℕ) (first second : Entry) (new old : List ℕ) : Type 0 where
  pub each : (r : Record) → Contains (leaf_records new) r → r.slot / 102 ≡ n → StoodAs old r ⊎ ((e ≡ entries) × (r.slot % 102 ≡ p) × IsFirst (Head first) r × IsSecond (Head second) r)

-- No record of these bytes has pair k of leaf n of the entries.
pub record LacksPair (n k : ℕ) (bytes : List ℕ) : Type 0 where
  pub each : (r : Record) → Contains (leaf_records bytes) r → r.slot / 102 ≡ n → r.slot % 102 ≡ k → ⊥

-- No record has this pair: none of this leaf in memory, or none in any image.
abbrev pub IsUnnamed : (n k a leaf : ℕ) → State → Type 0
IsUnnamed n k a leaf s = ((a ≡ leaf) × LacksPair n k ((s.now leaf).bytes)) ⊎ ((image : Image) → s.may_leave image → LacksPair n k ((image a).bytes))
