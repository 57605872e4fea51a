-- A sound image of the two devices, rule by rule as they are printed (docs/FORMATS.md). Snapshots are in, archives are not yet. Epochs,
-- labels and the chain of roots are those of the Fossil paper ("Fossil, an Archival File Server").
use Rattle.std.specs.Prelude.{◌≡◌, ℕ, ◌+◌, ◌<◌, ◌≤◌, Bool, true, false, List, [], ◌∷◌, length, None}
use Rattle.std.specs.List.{AllByRecursion}
use Rattle.fo_sound.specs.of_disk.Disk.{Block}
use Rattle.fo_image.specs.declared.types.Super.{Super}
use Rattle.fo_image.specs.declared.types.Kind.TheVariants.{Root}
use Rattle.fo_image.specs.declared.types.State.TheVariants.{Free, Closed}
use Rattle.fo_image.specs.declared.types.Label.{Label}
use Rattle.fo_image.specs.declared.record.RootBlock.{RootBlock}
use Rattle.fo_image.specs.Record.{SpellsRoot}
use Rattle.fo_crash.specs.Images.{Image, Arena, from_block, to_block}
use Rattle.fo_sound.specs.Sizes.{HasSizes, IsArena}
use Rattle.fo_sound.specs.Image.{block_of, IsDataBlock, HasLabel}
use Rattle.fo_sound.specs.Sound.{IsFormatted, HasActiveRoot, HasTable, HasRootEntries}
use Rattle.fo_good.specs.Means.{Means}
use Rattle.fo_good.specs.Trees.{HasTreeLabels, IsTree, HasNoScores, HasLeaves, HasPairs, HasNumbers}

-- a root block of the chain, and its address; its epoch is that of its tree
pub record Kept : Type 0 where
  pub at : ℕ
  pub root : RootBlock

-- ---- S3

-- The root before a root, which is kept: of the epoch before, and not closed at or before its own epoch.
pub record IsBefore (device : List Block) (low : ℕ) (k next : Kept) : Type 0 where
  pub is : (next.at ≡ k.root.prev) × (next.root.epoch ≡ k.root.prev_epoch)
  pub epochs : (low ≤ next.root.epoch) × (next.root.epoch + 1 ≡ k.root.epoch)
  pub place : IsDataBlock (length device) next.at
  pub label : Label
  pub has : HasLabel device next.at label
  pub is_root : (label.kind ≡ Root) × (label.tag ≡ 1) × (label.epoch ≡ next.root.epoch)
  pub used : label.state ≡ Free → ⊥
  pub not_closed : label.state ≡ Closed → next.root.epoch < label.closing
  pub spelled : SpellsRoot next.root (block_of device next.at)

-- From a root the chain leads through these, the newest first, down to the root of the low epoch.
abbrev pub IsChain : List Block → ℕ → Kept → List Kept → Type 0
IsChain device low k [] = (k.root.epoch ≡ low) × (k.root.prev_epoch < low)
IsChain device low k (next ∷ rest) = IsBefore device low k next × IsChain device low next rest

-- ---- the rules of one tree

-- The tree of one root block is sound.
pub record IsSoundTree (arena : Arena) (device : List Block) (image : Image) (numbers : ℕ) (active : Bool) (k : Kept) : Type 0 where
  pub labels : HasTreeLabels arena device image k.at k.root.epoch active  -- S4
  pub read : Means arena device image (from_block k.at)  -- S5: formats and depths
  pub leaves : HasLeaves arena image k.at  -- S5: records and names
  pub entries : HasRootEntries k.root  -- S6: the root's entries
  pub pairs : HasPairs arena image k.at  -- S6
  pub once : IsTree arena image k.at  -- S7
  pub named : HasNumbers arena image k.at numbers  -- S8
  pub scores : HasNoScores arena image k.at  -- S9, until archived blocks may stand below files

-- ---- sound

-- The devices keep every rule, with this super block, this active root, these roots before it, and this content.
pub record IsSound (arena : Arena) (device vault : List Block) (s : Super) (active : Kept) (older : List Kept) (image : Image) : Type 0 where
  pub sizes : HasSizes device vault
  pub vault_is : IsArena vault 0  -- no archive yet
  pub formatted : IsFormatted device s  -- S1
  pub root : HasActiveRoot device s active.root  -- S2
  pub at : active.at ≡ s.active
  pub named : (image 1).slot 0 ≡ to_block s.active
  pub chain : IsChain device s.low active older  -- S3
  pub table : HasTable device  -- S4
  pub tree : IsSoundTree arena device image s.numbers true active  -- S4 to S9
  pub trees : AllByRecursion (IsSoundTree arena device image s.numbers false) older
  pub last : s.last ≡ None  -- S9, no archive yet
