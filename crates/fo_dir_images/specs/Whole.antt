-- A directory whose leaves are blocks that every image has, and what an image itself lists in them.
use Rattle.std.specs.Prelude.{◌≡◌, ◌⊎◌, ◌+◌, ◌*◌, ◌/◌, ◌^◌, ◌<◌, ℕ, List}
use Rattle.std.specs.List.{Contains}
use Rattle.fo_image.specs.declared.record.Record.{Record}
use Rattle.fo_crash.specs.Images.{Image, Arena, Link, IsArena, depth_of, entry_of, to_block}
use Rattle.fo_good.specs.Trees.{IsDir, IsFirst, IsSecond, IsWithin, Lists, HasPairs}
use Rattle.fo_ports.specs.State.{State, IsDoomed}
use Rattle.fo_dir_put.specs.Differ.{AllDiffer}
use Rattle.fo_dir_put.specs.Names.{Clash}
use Rattle.fo_dir_put.specs.Paired.{AllPaired, LacksPair}
use Rattle.fo_dir_put.specs.There.{IsThere}
use Rattle.fo_dir_images.specs.Leaves.{Side, Entries, Records, IsLeafOf}

-- A block hung from block 1 when all was last settled, and no settling takes it out.
pub record IsInPlace (s : State) (b : ℕ) : Type 0 where
  pub sealed : s.sealed b
  pub spared : IsDoomed s b → ⊥

-- The records of a leaf whose pair is of leaf m of the entries: memory has leaf m, where it is such a block, and all are paired in it; or
-- no image has such a record.
abbrev pub ArePairedAt : Arena → State → (ℕ → Type 0) → List ℕ → ℕ → ℕ → Type 0
ArePairedAt arena s such trail leaf m = ((e : ℕ) × IsLeafOf Entries arena s.now s.root trail m e × such e × AllPaired m leaf e s) ⊎ ((image : Image) (k : ℕ) → s.may_leave image → LacksPair m k ((image leaf).bytes))

-- Of the directory at this trail in memory: each of its first so many leaves of records is one of these leaves and such a block; the records
-- of all of them differ, over all images; and those of each leaf are paired, in leaves of entries that are such blocks.
pub record IsWholeDir (arena : Arena) (s : State) (such : ℕ → Type 0) (trail : List ℕ) (count : ℕ) (leaves : List ℕ) : Type 0 where
  pub each : (n : ℕ) → n < count → (b : ℕ) × Contains leaves b × IsLeafOf Records arena s.now s.root trail n b × such b
  pub differ : AllDiffer leaves s.may_leave
  pub paired : (n m b : ℕ) → n < count → IsLeafOf Records arena s.now s.root trail n b → ArePairedAt arena s such trail b m

-- A record has its pair in these entries, within their depth: all that `HasPair` says but that their length reaches it.
pub record HasEntries (arena : Arena) (image : Image) (entries : Link) (r : Record) : Type 0 where
  pub room : r.slot / 102 < 409 ^ depth_of entries.slot
  pub first : IsFirst (entry_of arena image entries (2 * r.slot)).slot r
  pub second : IsSecond (entry_of arena image entries (2 * r.slot + 1)).slot r

-- The image lists in the first so many leaves of the directory at this trail, where names lead to it, records of which each has its pair,
-- and no two of which have one name, number or pair.
pub record ShowsDir (arena : Arena) (image : Image) (root : ℕ) (trail : List ℕ) (count : ℕ) : Type 0 where
  pub fit : (entries meta : Link) (k j : ℕ) (r : Record) → IsDir arena image root trail entries meta → Lists arena image meta k j r → k < count → HasEntries arena image entries r
  pub differ : (entries meta : Link) (k j m n : ℕ) (r q : Record) → IsDir arena image root trail entries meta → Lists arena image meta k j r → Lists arena image meta m n q → k < count → m < count → Clash r q → (k ≡ m) × (j ≡ n)

-- A directory is whole in memory up to the last leaf that an image lists of it, and the length of the image's entries reaches each pair.
pub record IsCovered (arena : Arena) (s : State) (image : Image) (trail : List ℕ) (entries meta : Link) : Type 0 where
  pub count : ℕ
  pub leaves : List ℕ
  pub whole : IsWholeDir arena s (IsThere s) trail count leaves
  pub lists : (k : ℕ) → IsWithin meta.slot k → k < count
  pub reaches : (k j : ℕ) (r : Record) → Lists arena image meta k j r → IsWithin entries.slot (r.slot / 102)

-- What each image shows of a directory that is whole and there. And where all directories to which its names lead are covered, each record
-- has its pair, and no two have one.
pub record ShowsDirs (s : State) : Type 0 where
  pub dir : (arena : Arena) (image : Image) (root count : ℕ) (trail leaves : List ℕ) → IsArena arena → s.may_leave image → (image 1).slot 0 ≡ to_block root → IsWholeDir arena s (IsThere s) trail count leaves → ShowsDir arena image root trail count
  pub pairs : (arena : Arena) (image : Image) (root : ℕ) → IsArena arena → s.may_leave image → (image 1).slot 0 ≡ to_block root
      → ((trail : List ℕ) (entries meta : Link) → IsDir arena image root trail entries meta → IsCovered arena s image trail entries meta) → HasPairs arena image root

-- A leaf of a directory that is in place is there, and so are all leaves of one that is whole.
pub record PlacesLeaves (s : State) : Type 0 where
  pub leaf : (side : Side) (arena : Arena) (n b : ℕ) (trail : List ℕ) → IsArena arena → IsLeafOf side arena s.now s.root trail n b → IsInPlace s b → IsThere s b
  pub whole : (arena : Arena) (count : ℕ) (trail leaves : List ℕ) → IsArena arena → IsWholeDir arena s (IsInPlace s) trail count leaves → IsWholeDir arena s (IsThere s) trail count leaves
