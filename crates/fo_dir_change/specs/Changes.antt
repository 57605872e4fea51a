-- A record that is taken out of its leaf, or put in the place of the first of a name.
use Rattle.std.specs.Prelude.{◌≡◌, ◌≢◌, ◌⊎◌, ◌+◌, ◌<◌, ℕ, true, false, List, [], ◌∷◌, ◌++◌, length, find, Some}
use Rattle.std.specs.List.{Contains, list_any}
use Rattle.fo_image.specs.declared.record.Record.{Record}
use Rattle.fo_image.specs.Record.{record_len}
use Rattle.fo_meta.specs.Leaf.{SpellsLeaf, is_named, records_bytes, without}
use Rattle.fo_dir_put.specs.of_good.Reading.{leaf_records}
use Rattle.fo_dir_put.specs.of_world.Step.{is_dir_mode}
use Rattle.fo_dir_put.specs.of_crash.Images.{Image}
use Rattle.fo_dir_put.specs.of_crash.Spots.{Spot, FoundAt}
use Rattle.fo_dir_put.specs.of_shown.Shown.{active, IsOfRecords, IsShownAt}
use Rattle.fo_dir_put.specs.Once.{IsSameDir}

-- A record of the leaf has this name.
pub record Bears (name leaf : List ℕ) : Type 0 where
  pub each : (rs : List Record) → SpellsLeaf rs leaf → list_any (is_named name) rs ≡ true

-- No record of the leaf has this name.
pub record BearsNot (name leaf : List ℕ) : Type 0 where
  pub each : (rs : List Record) → SpellsLeaf rs leaf → list_any (is_named name) rs ≡ false

-- The leaf has its records, without the first of this name.
pub record HasTaken (name old new : List ℕ) : Type 0 where
  pub each : (rs : List Record) → SpellsLeaf rs old → SpellsLeaf (without name rs) new

-- The leaf has its records without the first of this name, and then this one.
pub record HasChanged (name : List ℕ) (r : Record) (old new : List ℕ) : Type 0 where
  pub each : (rs : List Record) → SpellsLeaf rs old → SpellsLeaf (without name rs ++ r ∷ []) new

-- The record has no room, though the first of this name goes.
pub record IsTooLong (name : List ℕ) (r : Record) (old : List ℕ) : Type 0 where
  pub each : (rs : List Record) → SpellsLeaf rs old → 8188 < length (records_bytes (without name rs)) + record_len r

-- This record is the first of the name in the leaf.
pub record IsFirstOf (name leaf : List ℕ) (r : Record) : Type 0 where
  pub each : (rs : List Record) → SpellsLeaf rs leaf → find (is_named name) rs ≡ Some r

-- The record is of the file of which the first of this name is: it has the number, the pair with its generation, and is a directory's
-- where that one is.
pub record IsSameFile (name : List ℕ) (r : Record) (leaf : List ℕ) : Type 0 where
  pub before : Record
  pub first : IsFirstOf name leaf before
  pub number : r.number ≡ before.number
  pub slot : r.slot ≡ before.slot
  pub generation : r.generation ≡ before.generation
  pub dir : is_dir_mode before.mode ≡ is_dir_mode r.mode

-- No record of another leaf has the record's name in any of these images, or it keeps the name that it had.
abbrev pub MayBear : (name : List ℕ) → Record → (other : ℕ) → (Image → Type 0) → Type 0
MayBear name r other images = (r.name ≡ name) ⊎ ((image : Image) → images image → (q : Record) → Contains (leaf_records ((image other).bytes)) q → r.name ≡ q.name → ⊥)

-- No other record of the leaf has the record's name, nor one of the other leaves in any image; or it keeps the name that it had.
abbrev pub BearsAlone : (name : List ℕ) → Record → (leaf : ℕ) → (leaves : List ℕ) → (old : List ℕ) → (Image → Type 0) → Type 0
BearsAlone name r leaf leaves old images = ((r.name ≡ name) ⊎ ((q : Record) → Contains (leaf_records old) q → r.name ≡ q.name → ⊥)) × ((b : ℕ) → Contains leaves b → b ≢ leaf → MayBear name r b images)

-- No record that some image shows of another leaf of this spot's directory has this name.
pub record NamesNone (name : List ℕ) (images : Image → Type 0) (p : Spot) : Type 0 where
  pub each : (q : Spot) (ys : List ℕ) (t : Record) → IsOfRecords q → (p ≡ q → ⊥) → IsSameDir p q → IsShownAt images q ys → Contains (leaf_records ys) t → name ≡ t.name → ⊥

-- The record keeps the name that it had; or no other record of the leaf has its name, nor one that some image shows of another leaf of the
-- directory, wherever images show the leaf.
abbrev pub BearsOnce : (name : List ℕ) → Record → (leaf : ℕ) → (old : List ℕ) → (Image → Type 0) → Type 0
BearsOnce name r leaf old images = (r.name ≡ name) ⊎ (((q : Record) → Contains (leaf_records old) q → r.name ≡ q.name → ⊥) × ((image : Image) (p : Spot) → images image → FoundAt active image leaf p → IsOfRecords p → NamesNone r.name images p))
