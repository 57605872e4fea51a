-- THE INVARIANT of a block cache, in one record.
use Rattle.std.specs.Prelude.{◌≡◌, ◌≢◌, ◌⊎◌, ◌<◌, ℕ, Bool, false, List, length, Result}
use Rattle.std.specs.List.{Contains}
use Rattle.fo_disk.specs.Disk.{Block}
use Rattle.fo_disk.specs.Disk.{Content as Holds}
use Rattle.fo_cells_held.specs.of_labels.Region.{Region, IsDataBlock, label_of}
use Rattle.fo_image.specs.declared.types.Pointer.TheVariants.{Local}
use Rattle.fo_crash.specs.declared.place.Place.{Place}
use Rattle.fo_crash.specs.Places.{place_below}
use Rattle.fo_crash.specs.Images.{Content, target}
use Rattle.fo_cells.specs.Known.{Top, IsWait, MayName, Stands}
use Rattle.fo_cells.specs.Device.{Clearing, Mind, Fits, known, wrote, after_sync}
use Rattle.fo_cells.specs.Flags.{Flags, FlagsFit, LabelsFit, marked, after_sync_flags}
use Rattle.fo_cells_queue.specs.of_cells_out.Removals.{Pending}
use Rattle.fo_cells_queue.specs.of_cells_out.Parents.{Tree}
use Rattle.fo_cells_held.specs.Held.{Buffering, HasBuffers, ChangesMemory, Times, LabelsAreTimed, ChangesLabels, OnlyLiveDirty, Dirties, timed, after_sync_times}
use Rattle.fo_cells_held.specs.Room.{Promises, Space, HasRoom, Used, Spends, UsesLabels}
use Rattle.fo_cells_queue.specs.of_cells_epochs.Epochs.{Root, HasEpochs}
use Rattle.fo_cells_queue.specs.Queue.{Queued, IsQueue}

-- All that a cache keeps beside its device; with the format of its blocks (`mind`) it says what is known.
pub record Kept : Type 0 where
  -- memory, labels, waits, waiting slots, tops
  pub mind : Mind
  pub flags : Flags
  pub buffering : Buffering
  pub times : Times
  -- the labels as they lie, and what was promised of them
  pub region : Region
  pub promises : Promises
  pub space : Space
  -- the super block: its high epoch, and the doubt, where there is one
  pub high : ℕ
  pub doubts : List Content
  -- block 1 and what was made; the roots of kept snapshots
  pub active : List Top
  pub roots : List Root
  -- removals of earlier epochs, and of the active one
  pub past : List Queued
  pub queue : List Pending

-- what block 1 spells of its high epoch, and which addresses are data blocks
pub record Format : Type 0 where
  pub high_of : Content → ℕ
  pub is_data : ℕ → Bool

-- ALL THAT HOLDS AT EVERY MOMENT. `t` is the division of the blocks: in the tree of memory, made, covered.
pub record HoldsAll (c : Kept) (f : Format) (t : Tree) (unsure : List Bool) (holds : Holds) : Type 0 where
  -- one place, ranks, labels, names, older blocks, epochs, the tree of memory, waits; kept trees closed late; super blocks and their roots
  pub epochs : HasEpochs (known c.mind holds) c.high f.high_of c.doubts c.active c.roots
  -- removals in order, and who may still lead to what they close
  pub queue : IsQueue (known c.mind holds) t c.high c.active c.roots c.past c.queue
  -- flags say what they should of the device
  pub flags : FlagsFit c.mind c.flags unsure holds
  pub label_flags : LabelsFit c.mind c.flags holds
  pub fits : Fits c.mind unsure holds
  -- buffers exist where they are needed; labels are set, known by label; only live blocks are dirty
  pub buffers : HasBuffers c.mind c.flags c.buffering
  pub times : LabelsAreTimed c.mind c.flags c.times holds
  pub dirty : OnlyLiveDirty c.mind c.flags f.is_data c.high
  -- room for what was promised
  pub labels : (b : ℕ) → IsDataBlock c.region b → c.mind.label b ≡ label_of c.region b
  pub room : HasRoom c.mind.low c.region c.promises c.space

-- ---- steps of the device

-- a block was written with this answer, of all that memory has or not
abbrev pub kept_write : ℕ → Bool → Bool → Kept → Kept
kept_write at ok is_complete c = record c { mind = wrote at ok is_complete c.mind; flags = marked at ok is_complete c.flags; times = timed at ok c.times }

abbrev pub kept_sync : {E : Type 0} → Result Unit E → Kept → Kept
kept_sync result c = record c { mind = after_sync result c.mind; flags = after_sync_flags result c.flags; times = after_sync_times result c.flags c.times }

-- ---- steps in memory: what they do beside what is known

pub record StepsBeside (c d : Kept) (f : Format) (x : Used) (holds : Holds) : Type 0 where
  pub changes : ChangesMemory c.mind d.mind c.flags d.flags c.buffering d.buffering
  pub labels : ChangesLabels c.mind d.mind c.times d.times
  pub dirties : Dirties c.mind d.mind c.flags d.flags f.is_data c.high
  -- a label that changed makes its block dirty
  pub label_dirty : (b : ℕ) → d.flags.dirty (c.mind.label_block b) ≡ false → (c.flags.dirty (c.mind.label_block b) ≡ false) × (d.mind.label b ≡ c.mind.label b)
  pub leaves : (k : Clearing) → Contains d.mind.clears k → Contains c.mind.clears k ⊎ (k.leaf < length holds)
  pub region : (b : ℕ) → IsDataBlock d.region b → d.mind.label b ≡ label_of d.region b
  pub spends : Spends x c.promises d.promises c.space d.space
  pub uses : UsesLabels x.blocks c.mind.low d.mind.low c.region d.region
  -- an epoch begins only where nothing is dirty
  pub high : (d.high ≡ c.high) ⊎ ((b : ℕ) → d.flags.dirty b ≡ false)

-- what is beside the trees, the super blocks and the removals
pub record HoldsBeside (c : Kept) (f : Format) (unsure : List Bool) (holds : Holds) : Type 0 where
  pub flags : FlagsFit c.mind c.flags unsure holds
  pub label_flags : LabelsFit c.mind c.flags holds
  pub fits : Fits c.mind unsure holds
  pub buffers : HasBuffers c.mind c.flags c.buffering
  pub times : LabelsAreTimed c.mind c.flags c.times holds
  pub dirty : OnlyLiveDirty c.mind c.flags f.is_data c.high
  pub labels : (b : ℕ) → IsDataBlock c.region b → c.mind.label b ≡ label_of c.region b
  pub room : HasRoom c.mind.low c.region c.promises c.space

-- ---- the super block

-- Bytes that spell another super block may be written into block 1, which is settled with what memory has: what it leads to stands, and
-- may be named. Block 1 is no block of labels, and nothing of it waits.
pub record MayTry (m : Mind) (holds : Holds) (d : Content) (bytes : Block) : Type 0 where
  pub reads : m.read 1 bytes ≡ d
  pub quiet : (c : Content) → Contains ((known m holds).versions 1) c → c ≡ m.memory 1
  pub fits : (p : Place) (i b : ℕ) → Stands (known m holds) 1 p → target (d.slot i) ≡ Local b → Stands (known m holds) b (place_below p i (d.slot i)) × ((place_below p i (d.slot i)).rank < p.rank) × (b ≢ 1) × MayName (known m holds) b
  pub settled : m.newborn 1 ≡ false
  pub complete : m.complete 1 ≡ false
  pub labels : (b : ℕ) → m.label_block b ≢ 1
  pub wait : (leaf on j : ℕ) → IsWait m.waits leaf on j → (leaf ≢ 1) × (on ≢ 1)
  pub clear : (c : Clearing) → Contains m.clears c → (c.at ≢ 1) × (c.leaf ≢ 1)
