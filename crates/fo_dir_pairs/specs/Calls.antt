-- What is asked where a leaf of a directory is put into, or an entry is cleared.
use Rattle.std.specs.Prelude.{◌≡◌, ◌⊎◌, ◌+◌, ◌*◌, ◌/◌, ◌%◌, ℕ, suc, List}
use Rattle.std.specs.List.{Contains}
use Rattle.fo_image.specs.declared.record.Record.{Record}
use Rattle.fo_good.specs.Reading.{leaf_records}
use Rattle.fo_image.specs.declared.types.Kind.TheVariants.{Dir}
use Rattle.fo_image.specs.declared.types.Entry.{Entry}
use Rattle.fo_crash.specs.declared.slot.Slot.{Slot}
use Rattle.fo_crash.specs.declared.slot.Slot.TheVariants.{Entry as Head}
use Rattle.fo_crash.specs.declared.place.Place.{Place}
use Rattle.fo_crash.specs.Images.{Image, Reaches, to_block, with_slot}
use Rattle.fo_crash.specs.Steps.{AddsNothing, Fills}
use Rattle.fo_crash.specs.Names.{IsInUse, SameUse}
use Rattle.fo_crash.specs.Spots.{Spot, FoundAt}
use Rattle.fo_ports.specs.State.{State, KeepsSlot, WasCleared}
use Rattle.fo_ports.specs.Shown.{active, IsOfRecords}
use Rattle.fo_dir_put.specs.Paired.{HasBoth, LacksPair, StoodAs}
use Rattle.fo_dir_pairs.specs.Pairs.{ShowsRecord, IsNamed, entries_spot}

-- In memory block `entries` is leaf n of the entries of the directory that has this leaf of records.
pub record IsLeafFor (s : State) (leaf n entries : ℕ) : Type 0 where
  pub each : (p : Spot) → FoundAt active s.now leaf p → FoundAt active s.now entries (entries_spot p n)

-- Each record of these bytes stood in the leaf, or has its pair in memory, in this block of its directory's entries, where it waits for no
-- clearing.
pub record HavePairs (leaf entries : ℕ) (bytes : List ℕ) (s : State) : Type 0 where
  pub each : (r : Record) → Contains (leaf_records bytes) r → StoodAs ((s.now leaf).bytes) r ⊎ (HasBoth entries s.now r × (s.clearing entries (2 * (r.slot % 102)) → ⊥) × IsLeafFor s leaf (r.slot / 102) entries)

-- The image has each pair of this block of entries in use as memory has it, if its first entry is in use there and waits for no clearing.
pub record HasWaited (s : State) (entries : ℕ) (image : Image) : Type 0 where
  pub each : (k g : ℕ) → IsInUse ((s.now entries).slot (2 * k)) g → (s.clearing entries (2 * k) → ⊥) → SameUse ((image entries).slot (2 * k)) ((s.now entries).slot (2 * k)) × SameUse ((image entries).slot (2 * k + 1)) ((s.now entries).slot (2 * k + 1))

-- In memory an entry in use names the source of which this block is a leaf of entries.
pub record IsOfNamed (s : State) (entries : ℕ) : Type 0 where
  pub each : (x : Spot) → FoundAt active s.now entries x → IsNamed s.now x.trail (suc x.place.tag)

-- No image has a leaf of records of the directory whose entries have this tag.
pub record IsUnseen (images : Image → Type 0) (tag : ℕ) : Type 0 where
  pub none : (image : Image) (b : ℕ) (p : Spot) → images image → FoundAt active image b p → IsOfRecords p → p.place.tag ≡ suc tag → ⊥

-- No record has pair k of this block of entries, but in images this leaf, where memory has it: it has none in memory.
pub record IsUnlisted (s : State) (k leaf entries : ℕ) : Type 0 where
  pub elsewhere : (image : Image) (p : Spot) (r : Record) → s.may_leave image → ShowsRecord image p r → FoundAt active s.now entries (entries_spot p (r.slot / 102)) → r.slot % 102 ≡ k → (FoundAt active s.now leaf p → ⊥) → ⊥
  pub memory : (x : Spot) → FoundAt active s.now entries x → LacksPair x.place.index k ((s.now leaf).bytes)

-- Slots that waited were cleared: no image was added, each that is left would be one of before with any of them cleared, and what still hangs
-- in memory keeps its other slots. What waits is of leaves of entries that hang in each image.
pub record ClearsWaiting (old new : State) : Type 0 where
  pub images : AddsNothing old.may_leave new.may_leave
  pub fills : Fills (WasCleared old new) old.now old.may_leave new.may_leave
  pub known : (b : ℕ) → Reaches new.now (to_block 1) b → (j : ℕ) → KeepsSlot old new b j
  pub hangs : (b j : ℕ) → old.clearing b j → (image : Image) → old.may_leave image → Reaches image (to_block 1) b
  pub holds : (b j : ℕ) (p : Place) → old.clearing b j → old.stands b p → p.kind ≡ Dir 0

-- An image is one of these, or has this slot and would be one with what memory had in its place.
abbrev pub MayHaveSlot : (now : Image) (at i : ℕ) → Slot → (Image → Type 0) → Image → Type 0
MayHaveSlot now at i s images image = images image ⊎ (((image at).slot i ≡ s) × images (with_slot image at i ((now at).slot i)))

-- The two entries of a pair were put, the second before the first: each new image is one of before with one of them or both.
pub record AddsPair (now : Image) (at p : ℕ) (first second : Entry) (old new : Image → Type 0) : Type 0 where
  pub each : (image : Image) → new image → MayHaveSlot now at (2 * p) (Head first) (MayHaveSlot now at (2 * p + 1) (Head second) old) image
