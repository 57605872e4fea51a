-- The leaves of a directory as an image itself reads them: below the root that its block 1 names, by the depths of its own entries.
use Rattle.std.specs.Prelude.{◌≡◌, ◌+◌, ◌*◌, ◌/◌, ◌^◌, ◌<◌, ℕ, List, [], ◌∷◌}
use Rattle.fo_image.specs.declared.types.Pointer.TheVariants.{Local}
use Rattle.fo_crash.specs.Images.{Image, Arena, Link, IsArena, target, goes, step, depth_of, leaf_path, entry_of, file_link, from_block, to_block}
use Rattle.fo_crash.specs.Spots.{OnePath}
use Rattle.fo_good.specs.Trees.{IsDir}
use Rattle.fo_ports.specs.State.{State}
use Rattle.fo_dir_put.specs.There.{IsThere}

-- the two sources of a directory
pub data Side : Type 0 where
  Entries : Side
  Records : Side

-- the records of the directory at the end of a trail of slot pairs, from a directory with these entries and these records on
abbrev pub records_link : Arena → Image → Link → Link → List ℕ → Link
records_link arena image below meta [] = meta
records_link arena image below meta (pair ∷ trail) = records_link arena image (entry_of arena image below (2 * pair)) (entry_of arena image below (2 * pair + 1)) trail

-- a source of the directory at a trail, from one with these entries and these records on
abbrev pub source_below : Side → Arena → Image → Link → Link → List ℕ → Link
source_below Entries arena image below meta trail = file_link arena image below trail
source_below Records arena image below meta trail = records_link arena image below meta trail

-- a source of the directory at a trail below a root block
abbrev pub source_link : Side → Arena → Image → ℕ → List ℕ → Link
source_link side arena image root trail = source_below side arena image (step arena image (from_block root) 0) (step arena image (from_block root) 1) trail

-- Each pair of the trail lies within the depth of the entries that hold it: past it, its number would name one of those before.
abbrev pub HasWay : Arena → Image → Link → List ℕ → Type 0
HasWay arena image below [] = Unit {0}
HasWay arena image below (pair ∷ trail) = (pair / 102 < 409 ^ depth_of below.slot) × HasWay arena image (entry_of arena image below (2 * pair)) trail

-- In this image this block is leaf n of a source of the directory at a trail below a root block; n lies within the source's depth.
pub record IsLeafOf (side : Side) (arena : Arena) (image : Image) (root : ℕ) (trail : List ℕ) (n at : ℕ) : Type 0 where
  pub way : HasWay arena image (step arena image (from_block root) 0) trail
  pub room : n < 409 ^ depth_of (source_link side arena image root trail).slot
  pub leads : target ((goes arena image (source_link side arena image root trail) (leaf_path (source_link side arena image root trail).slot n)).slot) ≡ Local at

-- What is read of a directory along names is what is read along its trail.
pub record ReadsDirs (arena : Arena) (image : Image) (root : ℕ) : Type 0 where
  pub each : (trail : List ℕ) (below meta : Link) → IsDir arena image root trail below meta → (source_link Entries arena image root trail ≡ below) × (source_link Records arena image root trail ≡ meta)

-- In every image, below the root that its own block 1 names, and by its own depths: a block that is there, and is a leaf of a directory in
-- memory, is this leaf; no other block is; the block is no other leaf of any directory; and no second path from block 1 leads to it.
pub record ShowsLeaves (s : State) : Type 0 where
  pub same : (side : Side) (arena : Arena) (image : Image) (root n b : ℕ) (trail : List ℕ) → IsArena arena → s.may_leave image → (image 1).slot 0 ≡ to_block root → IsThere s b → IsLeafOf side arena s.now s.root trail n b → IsLeafOf side arena image root trail n b
  pub one : (side : Side) (arena : Arena) (image : Image) (root n b c : ℕ) (trail : List ℕ) → IsLeafOf side arena image root trail n b → IsLeafOf side arena image root trail n c → b ≡ c
  pub alone : (side other : Side) (arena : Arena) (image : Image) (root n m b : ℕ) (trail way : List ℕ) → IsArena arena → s.may_leave image → (image 1).slot 0 ≡ to_block root → IsLeafOf side arena image root trail n b → IsLeafOf other arena image root way m b → (side ≡ other) × (trail ≡ way) × (n ≡ m)
  pub path : (image : Image) → s.may_leave image → OnePath 1 image
