-- A record at the end of a leaf.
use Rattle.std.specs.Prelude.{◌≡◌, ◌≢◌, ◌+◌, ◌%◌, ◌^◌, ◌<◌, ℕ, List, [], ◌∷◌, ◌++◌, length}
use Rattle.std.specs.List.{Contains}
use Rattle.fo_image.specs.declared.record.Record.{Record}
use Rattle.fo_image.specs.declared.types.Entry.{Entry}
use Rattle.fo_image.specs.Record.{record_len}
use Rattle.fo_crash.specs.declared.slot.Slot.{Slot}
use Rattle.fo_crash.specs.declared.slot.Slot.TheVariants.{Entry as Head}
use Rattle.fo_meta.specs.Leaf.{SpellsLeaf, records_bytes}
use Rattle.fo_dir_put.specs.of_good.Reading.{leaf_records}
use Rattle.fo_crash.specs.Images.{Image}
use Rattle.fo_crash.specs.Spots.{Spot, FoundAt}
use Rattle.fo_dir_put.specs.of_shown.Shown.{active, IsOfRecords}
use Rattle.fo_dir_put.specs.Names.{Clash}
use Rattle.fo_dir_put.specs.Once.{IsLone}

-- The record with this pair and generation.
pub record IsNumbered (old : Record) (slot generation : ℕ) (new : Record) : Type 0 where
  pub slot_is : new.slot ≡ slot
  pub generation_is : new.generation ≡ generation
  pub same_name : new.name ≡ old.name
  pub same_number : new.number ≡ old.number
  pub same_vers : new.vers ≡ old.vers
  pub same_mode : new.mode ≡ old.mode
  pub same_times : (new.atime ≡ old.atime) × (new.mtime ≡ old.mtime)
  pub same_users : (new.uid ≡ old.uid) × (new.gid ≡ old.gid) × (new.muid ≡ old.muid)

-- This generation is that of an entry raised by 1, and 0 after the last.
pub record IsRaised (s : Slot) (generation : ℕ) : Type 0 where
  pub raised : (e : Entry) → s ≡ Head e → generation ≡ (e.generation + 1) % 2 ^ 32

-- The leaf has the record behind the others.
pub record HasAdded (r : Record) (old new : List ℕ) : Type 0 where
  pub each : (rs : List Record) → SpellsLeaf rs old → SpellsLeaf (rs ++ r ∷ []) new

-- The record has no room.
pub record IsFullFor (r : Record) (old : List ℕ) : Type 0 where
  pub each : (rs : List Record) → SpellsLeaf rs old → 8188 < length (records_bytes rs) + record_len r

-- In none of these images another leaf has the record's name, number or pair.
pub record IsAlone (r : Record) (other : ℕ) (images : Image → Type 0) : Type 0 where
  pub each : (image : Image) → images image → (q : Record) → Contains (leaf_records ((image other).bytes)) q → Clash r q → ⊥

-- The record clashes with none that stood in its leaf, nor with any of the other leaves of the directory in an image.
pub record AddsAlone (r : Record) (leaf : ℕ) (leaves : List ℕ) (old : List ℕ) (images : Image → Type 0) : Type 0 where
  pub here : (q : Record) → Contains (leaf_records old) q → Clash q r → ⊥
  pub others : (b : ℕ) → Contains leaves b → b ≢ leaf → IsAlone r b images

-- The record clashes with none that stood in its leaf, nor, at each spot where an image shows the leaf, with any that some image shows of
-- another leaf.
pub record AddsOnce (r : Record) (leaf : ℕ) (old : List ℕ) (images : Image → Type 0) : Type 0 where
  pub here : (q : Record) → Contains (leaf_records old) q → Clash q r → ⊥
  pub lone : (image : Image) (p : Spot) → images image → FoundAt active image leaf p → IsOfRecords p → IsLone images p r
