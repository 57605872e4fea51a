-- The rule on pairs of sound images, and what the rules ask beside it.
use Rattle.std.specs.Prelude.{◌≡◌, ◌*◌, ◌/◌, ◌^◌, ◌≤◌, ℕ, List}
use Rattle.fo_image.specs.declared.record.Record.{Record}
use Rattle.fo_image.specs.declared.record.RootBlock.{RootBlock}
use Rattle.fo_crash.specs.declared.slot.Slot.TheVariants.{Entry as Head}
use Rattle.fo_crash.specs.Images.{Image, Arena, Link, IsArena, step, depth_of, from_block, to_block}
use Rattle.fo_sound.specs.Sound.{HasRootEntries}
use Rattle.fo_good.specs.Trees.{IsDir, Lists, HasNoScores, HasPairs, InTree, HasRecords, IsWithin, size_of}
use Rattle.fo_ports.specs.State.{State}
use Rattle.fo_dir_images.specs.Whole.{HasEntries}
use Rattle.fo_dir_names.specs.Names.{IsOfData}
use Rattle.fo_dir_names.specs.Rules.{IsSoundBeside, HasNames}
use Rattle.fo_dir_fit.specs.Fit.{IsRootDir}

-- What the format and the rules ask of the tree of a root block, apart from names and pairs: the root directory's entries are in use, and its
-- records are data; the size of each source of records lies within its depth; no source of entries has more than 64 above it; and nothing is
-- archived.
pub record IsSoundApart (arena : Arena) (image : Image) (root : ℕ) : Type 0 where
  pub in_use : IsRootDir arena image root
  pub of_data : IsOfData (step arena image (from_block root) 1).slot
  pub records_room : (meta : Link) → HasRecords arena image root meta → size_of meta.slot ≤ 8192 * 409 ^ depth_of meta.slot
  pub depths : (depth : ℕ) (w : Link) → InTree arena image root depth w → depth ≤ 64
  pub scores : HasNoScores arena image root

-- The size of each source of entries lies within its depth, and reaches the pair of each record that the directory lists.
pub record HasLengths (arena : Arena) (image : Image) (root : ℕ) : Type 0 where
  pub entries_room : (depth : ℕ) (w : Link) → InTree arena image root depth w → size_of w.slot ≤ 8192 * 409 ^ depth_of w.slot
  pub reaches : (trail : List ℕ) (entries meta : Link) (k j : ℕ) (r : Record) → IsDir arena image root trail entries meta → Lists arena image meta k j r → IsWithin entries.slot (r.slot / 102)

-- In each image that a crash may leave, where it keeps the rest, each record to which names lead has its pair; and where lengths reach their
-- pairs, it keeps all but the rules on names.
pub record KeepsPairs (s : State) : Type 0 where
  pub each : (arena : Arena) (image : Image) (root : ℕ) → IsArena arena → s.may_leave image → (image 1).slot 0 ≡ to_block root → IsSoundApart arena image root
      → (trail : List ℕ) (entries meta : Link) (k j : ℕ) (r : Record) → IsDir arena image root trail entries meta → Lists arena image meta k j r → HasEntries arena image entries r
  pub beside : (arena : Arena) (image : Image) (root : ℕ) → IsArena arena → s.may_leave image → (image 1).slot 0 ≡ to_block root → IsSoundApart arena image root → HasLengths arena image root → IsSoundBeside arena image root

-- Each image keeps the rules on pairs and on names, where it keeps the rest and lengths reach their pairs.
pub record KeepsBoth (s : State) : Type 0 where
  pub each : (arena : Arena) (image : Image) (root : ℕ) → IsArena arena → s.may_leave image → (image 1).slot 0 ≡ to_block root → IsSoundApart arena image root → HasLengths arena image root
      → HasPairs arena image root × HasNames arena image root

-- This root block has the two entries that the format asks for.
pub record IsSoundRoot (image : Image) (root : ℕ) : Type 0 where
  pub block : RootBlock
  pub sound : HasRootEntries block
  pub entries : (image root).slot 0 ≡ Head block.entries
  pub meta : (image root).slot 1 ≡ Head block.meta
