-- What a cache knows, read off what it keeps beside its device and off the versions of the device.
use Rattle.std.specs.Prelude.{◌≡◌, ◌≢◌, ◌<◌, ◌&&◌, not, ℕ, Bool, true, false, cond, nat_eq, List, [], ◌∷◌, map, length, slice_index_or, Result, is_err}
use Rattle.std.specs.List.{Contains}
use Rattle.fo_disk.specs.Disk.{Block, versions_of, latest_of}
use Rattle.fo_disk.specs.Disk.{Content as Holds}
use Rattle.fo_image.specs.declared.types.Label.{Label}
use Rattle.fo_image.specs.declared.types.Pointer.TheVariants.{Local}
use Rattle.fo_crash.specs.Images.{Content, Image, target}
use Rattle.fo_crash.specs.Steps.{AddsNothing}
use Rattle.fo_cells.specs.Known.{Known, Wait, Clear, Top, IsWait, MayName, LabelFits, Images, IsKept}
use Rattle.fo_cells.specs.Writes.{FormSlot}

-- a slot that waits; `wrote` says whether the leaf was written since, by a write that answered Ok
pub record Clearing : Type 0 where
  pub at : ℕ
  pub slot : ℕ
  pub leaf : ℕ
  pub wrote : Bool

-- What the cache keeps: buffers, flags, labels, waits. `read` and `label_in` are the format.
pub record Mind : Type 0 where
  pub memory : Image
  pub newborn : ℕ → Bool
  -- the last write of the block since it was given out was of all that memory had, and answered Ok, and no sync answered Ok since
  pub complete : ℕ → Bool
  pub tops : List Top
  pub label : ℕ → Label
  pub low : ℕ
  pub waits : List Wait
  pub clears : List Clearing
  pub read : ℕ → Block → Content
  pub label_in : ℕ → Block → Label
  pub label_block : ℕ → ℕ

abbrev pub since_of : Holds → Clearing → Clear
since_of holds c = record { at = c.at; slot = c.slot; leaf = c.leaf; since = cond c.wrote (latest_of (versions_of holds c.leaf) ∷ []) [] }

abbrev pub known : Mind → Holds → Known
known m holds = record {
  memory = m.memory;
  versions = λ b. map (m.read b) (versions_of holds b);
  newborn = m.newborn;
  late = λ b. cond (m.complete b) (m.read b (latest_of (versions_of holds b)) ∷ []) [];
  tops = m.tops;
  label = m.label;
  labels = λ b. map (m.label_in b) (versions_of holds (m.label_block b));
  low = m.low;
  waits = m.waits;
  clears = map (since_of holds) m.clears;
}

-- This block was written, whole or not, and the write answered Ok.
abbrev pub noted : ℕ → Bool → Clearing → Clearing
noted at ok c = cond (ok && nat_eq c.leaf at) (record c { wrote = true }) c

abbrev pub wrote : ℕ → Bool → Bool → Mind → Mind
wrote at ok is_complete m = record m { complete = λ b. cond (nat_eq b at) (ok && is_complete) (m.complete b); clears = map (noted at ok) m.clears }

-- A sync answered Ok: what was written whole is newborn no more.
abbrev pub synced : Mind → Mind
synced m = record m { newborn = λ b. m.newborn b && not (m.complete b); complete = λ b. false }

-- The bytes may be written into this data block.
pub record MayWrite (m : Mind) (holds : Holds) (at : ℕ) (bytes : Block) (is_complete : Bool) : Type 0 where
  -- of memory's content the bytes that spell no slot, read as they are
  pub bytes_are : (m.read at bytes).bytes ≡ (m.memory at).bytes
  pub block_bytes : (m.read at bytes).bytes ≡ bytes
  pub complete_is : is_complete ≡ true → m.read at bytes ≡ m.memory at
  -- it is no label block
  pub apart : (b : ℕ) → m.label_block b ≢ at
  -- a settled block: each slot may be named, or is on the device; a newborn one that counts as whole: all of memory may be named
  pub slots : m.newborn at ≡ false → (i : ℕ) → FormSlot (known m holds) at i ((m.read at bytes).slot i)
  pub names : m.newborn at ≡ true → is_complete ≡ true → (i t : ℕ) → target ((m.memory at).slot i) ≡ Local t → (t ≢ 1) × MayName (known m holds) t
  -- it waits for nothing
  pub over : (on j : ℕ) → IsWait m.waits at on j → ⊥

-- The same, but for whether the blocks that memory names were settled whole: these stand in this list, and have labels that fit.
pub record MayWriteOver (m : Mind) (holds : Holds) (at : ℕ) (bytes : Block) (targets : List ℕ) : Type 0 where
  pub bytes_are : (m.read at bytes).bytes ≡ (m.memory at).bytes
  pub block_bytes : (m.read at bytes).bytes ≡ bytes
  pub complete_is : m.read at bytes ≡ m.memory at
  pub apart : (b : ℕ) → m.label_block b ≢ at
  pub leads : (i t : ℕ) → target ((m.memory at).slot i) ≡ Local t → Contains targets t
  pub labels : (t : ℕ) → Contains targets t → (t ≢ 1) × ((l : Label) → Contains ((known m holds).labels t) l → LabelFits m.low (m.label t) l)
  pub over : (on j : ℕ) → IsWait m.waits at on j → ⊥

-- The bytes may be written into this block of labels: they have each label as memory has it. It is no data block: all of its versions are
-- read alike, it isn't newborn, and nothing waits for it.
pub record MayWriteLabels (m : Mind) (at : ℕ) (bytes : Block) : Type 0 where
  pub spells : (b : ℕ) → m.label_block b ≡ at → m.label_in b bytes ≡ m.label b
  pub alike : (x y : Block) → m.read at x ≡ m.read at y
  pub settled : m.newborn at ≡ false
  pub unwaited : (c : Clearing) → Contains m.clears c → c.leaf ≢ at

-- What was written whole since the last sync had a last write that answered Ok, and each block has a version.
pub record Fits (m : Mind) (unsure : List Bool) (holds : Holds) : Type 0 where
  pub sure : (b : ℕ) → m.complete b ≡ true → slice_index_or unsure b false ≡ false
  pub within : (b : ℕ) → m.complete b ≡ true → b < length holds
  pub some : (b : ℕ) → b < length holds → 0 < length (versions_of holds b)
  pub leaves : (c : Clearing) → Contains m.clears c → c.leaf < length holds

-- an image of the device, and the labels in it, as the format reads them
abbrev pub read_image : Mind → List Block → Image
read_image m device = λ b. m.read b (slice_index_or device b [])

abbrev pub read_labels : Mind → List Block → ℕ → Label
read_labels m device = λ b. m.label_in b (slice_index_or device (m.label_block b) [])

-- No image is added, the invariant is kept, and so is what is known of the device's failed writes.
pub record Stepped (m next : Mind) (unsure after : List Bool) (old new : Holds) : Type 0 where
  pub adds : AddsNothing (Images (known m old)) (Images (known next new))
  pub keeps : IsKept (known m old) → IsKept (known next new)
  pub fits : Fits m unsure old → Fits next after new

-- the mind after a sync that was answered
abbrev pub after_sync : {E : Type 0} → Result Unit E → Mind → Mind
after_sync result m = cond (is_err result) m (synced m)
