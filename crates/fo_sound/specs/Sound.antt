-- Sound images of the main device, a record for each rule, as far as images are built: one active root and no snapshot,
-- no file and no archive (the epochs and labels of the Fossil paper, "Fossil, an Archival File Server").
--
-- The rules are numbered as they are printed. S7, no block at two places, and S9, archives, say nothing of such an image.
use Rattle.std.specs.Prelude.{◌≡◌, ◌⊎◌, ℕ, ◌+◌, ◌-◌, ◌*◌, ◌<◌, ◌≤◌, ◌==◌, ◌||◌, not, Bool, true, false, List, length, None, count_by, slice_index_or}
use Rattle.std.specs.List.{enumerate_from}
use Rattle.fo_disk.specs.Disk.{Block}
use Rattle.fo_image.specs.declared.types.Super.{Super}
use Rattle.fo_image.specs.declared.types.Kind.TheVariants.{Root}
use Rattle.fo_image.specs.declared.types.Label.{Label}
use Rattle.fo_image.specs.declared.types.Pointer.TheVariants.{Nil}
use Rattle.fo_image.specs.declared.record.RootBlock.{RootBlock}
use Rattle.fo_image.specs.Format.{SpellsHeader, SpellsSuper}
use Rattle.fo_image.specs.Record.{SpellsRoot}
use Rattle.fo_image.specs.Place.{label_blocks, first_data}
use Rattle.fo_image.specs.Usable.{free_label, live_label, is_usable}
use Rattle.fo_sound.specs.Image.{block_of, is_zero, IsDataBlock, label_bytes, HasLabel, rest_bytes}

-- ---- S1

-- Block 0 is a header that says how many blocks the device has, and block 1 is a super block.
pub record IsFormatted (image : List Block) (s : Super) : Type 0 where
  pub header : SpellsHeader (record { blocks = length image }) (block_of image 0)
  pub super_block : SpellsSuper s (block_of image 1)

-- ---- S2

-- The low epoch is at most the high one, and an epoch that is to be archived is one of a snapshot that is kept.
pub record HasEpochs (s : Super) : Type 0 where
  pub order : s.low ≤ s.high
  pub pending : (s.pending ≡ 0) ⊎ ((s.low ≤ s.pending) × (s.pending < s.high))

-- the label of the active root
abbrev pub root_label : Super → Label
root_label s = live_label Root 1 s.high

-- The epochs are in order, and the active root is a live data block of kind root, tag 1 and epoch high, which holds a root block of
-- epoch high.
pub record HasActiveRoot (image : List Block) (s : Super) (root : RootBlock) : Type 0 where
  pub epochs : HasEpochs s
  pub place : IsDataBlock (length image) s.active
  pub label : HasLabel image s.active (root_label s)
  pub block : SpellsRoot root (block_of image s.active)
  pub epoch : root.epoch ≡ s.high

-- ---- what is built

-- No root before the active one is kept, nothing was archived, and the root directory has no blocks.
pub record IsBuilt (s : Super) (root : RootBlock) : Type 0 where
  pub alone : root.prev_epoch < s.low
  pub last : s.last ≡ None
  pub entries : root.entries.top ≡ Nil
  pub meta : root.meta.top ≡ Nil

-- ---- S3

-- The chain of roots reaches the low epoch. Where the active root has none before it, it is the root of that epoch itself.
pub record ReachesLow (s : Super) : Type 0 where
  pub reached : s.low ≡ s.high

-- ---- S4

-- In the label table each data block has a label, and all bytes that are in no label of a data block are zero.
pub record HasTable (image : List Block) : Type 0 where
  pub labels : (address : ℕ) → IsDataBlock (length image) address → (label : Label) × HasLabel image address label
  pub others : (address : ℕ) → address < 585 * label_blocks (length image) → ¬ IsDataBlock (length image) address → is_zero (label_bytes image address) ≡ true
  pub rests : (at : ℕ) → 2 ≤ at → at < first_data (length image) → is_zero (rest_bytes (block_of image at)) ≡ true

-- ---- S5, S6 and S8

-- The trees of the root directory are of at most four levels of pointer blocks.
pub record HasDepths (root : RootBlock) : Type 0 where
  pub entries : root.entries.depth ≤ 4
  pub meta : root.meta.depth ≤ 4

-- The two entries of the root directory are in use and have their tags, and the first alone has the directory flag.
pub record HasRootEntries (root : RootBlock) : Type 0 where
  pub entries_active : root.entries.active ≡ true
  pub entries_dir : root.entries.dir ≡ true
  pub entries_tag : root.entries.tag ≡ 32
  pub meta_active : root.meta.active ≡ true
  pub meta_dir : root.meta.dir ≡ false
  pub meta_tag : root.meta.tag ≡ 33

-- The number of the root is below the limit of file numbers.
pub record HasNumbers (s : Super) (root : RootBlock) : Type 0 where
  pub below : root.own.number < s.numbers

-- ---- sound

-- The image keeps every rule, with this super block and this active root block.
pub record IsSound (image : List Block) (s : Super) (root : RootBlock) : Type 0 where
  pub formatted : IsFormatted image s  -- S1
  pub active : HasActiveRoot image s root  -- S2
  pub chain : ReachesLow s  -- S3
  pub table : HasTable image  -- S4
  pub depths : HasDepths root  -- S5
  pub entries : HasRootEntries root  -- S6
  pub numbers : HasNumbers s root  -- S8

-- ---- leaked blocks

-- neither used nor usable: the one block that is used is the active root
abbrev pub is_leaked : Super → ℕ × Label → Bool
is_leaked s block = not ((block.0 == s.active) || is_usable s.low block.1)

-- the labels of the data blocks, in order
pub record HasLabels (image : List Block) (labels : List Label) : Type 0 where
  pub count : length labels ≡ length image - first_data (length image)
  pub each : (k : ℕ) → k < length labels → HasLabel image (first_data (length image) + k) (slice_index_or labels k free_label)

-- how many data blocks with these labels are leaked
abbrev pub leaked_count : List Block → Super → List Label → ℕ
leaked_count image s labels = count_by (is_leaked s) (enumerate_from (first_data (length image)) labels)
