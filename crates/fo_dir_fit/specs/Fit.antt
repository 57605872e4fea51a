-- What an image lists in its directories has its pairs, where those of the records that images show stand.
use Rattle.std.specs.Prelude.{◌≡◌, ◌+◌, ℕ, List, ◌++◌}
use Rattle.fo_image.specs.declared.record.Record.{Record}
use Rattle.fo_crash.specs.Images.{Image, Arena, Link, IsArena, step, from_block, to_block}
use Rattle.fo_crash.specs.Places.{tag_of_top}
use Rattle.fo_crash.specs.Spots.{Spot, FoundAt}
use Rattle.fo_good.specs.Trees.{IsDir, IsEntries, Lists}
use Rattle.fo_ports.specs.State.{State}
use Rattle.fo_ports.specs.Shown.{active}
use Rattle.fo_dir_images.specs.Whole.{HasEntries}
use Rattle.fo_dir_names.specs.Names.{IsPlainDir}

-- In each image a spot has one block.
pub record HaveOneBlock (s : State) : Type 0 where
  pub each : (image : Image) (p : Spot) (b c : ℕ) → s.may_leave image → FoundAt active image b p → FoundAt active image c p → b ≡ c

-- A directory's first entry is in use for entries, and its second has the next tag.
pub record IsPairOfDir (entries meta : Link) : Type 0 where
  pub in_use : IsEntries entries.slot
  pub tags : tag_of_top meta.slot ≡ tag_of_top entries.slot + 1

-- so it is of the root directory's, which no record names
abbrev pub IsRootDir : Arena → Image → ℕ → Type 0
IsRootDir arena image root = IsPairOfDir (step arena image (from_block root) 0) (step arena image (from_block root) 1)

-- Each directory on the way to that at a trail, and this one, is plain.
pub record IsPlainTo (arena : Arena) (image : Image) (root : ℕ) (trail : List ℕ) : Type 0 where
  pub each : (front rest : List ℕ) (entries meta : Link) → front ++ rest ≡ trail → IsDir arena image root front entries meta → IsPlainDir arena image root front meta

-- Each record that an image lists in a plain directory has its pair in this directory's entries in that image: where the pair of the directory
-- itself is in use; and where that of the root directory is, and all directories on the way are plain.
pub record ListsPairs (s : State) : Type 0 where
  pub one : (arena : Arena) (image : Image) (root k j : ℕ) (trail : List ℕ) (entries meta : Link) (r : Record) → IsArena arena → s.may_leave image → (image 1).slot 0 ≡ to_block root
      → IsDir arena image root trail entries meta → IsPlainDir arena image root trail meta → IsPairOfDir entries meta → Lists arena image meta k j r → HasEntries arena image entries r
  pub along : (arena : Arena) (image : Image) (root k j : ℕ) (trail : List ℕ) (entries meta : Link) (r : Record) → IsArena arena → s.may_leave image → (image 1).slot 0 ≡ to_block root
      → IsDir arena image root trail entries meta → IsPlainTo arena image root trail → IsRootDir arena image root → Lists arena image meta k j r → HasEntries arena image entries r
