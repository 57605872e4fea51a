-- The rules on names of sound images, and what the rules ask beside them.
use Rattle.std.specs.Prelude.{◌≡◌, ◌*◌, ◌^◌, ◌≤◌, ℕ, List}
use Rattle.fo_image.specs.declared.record.Record.{Record}
use Rattle.fo_crash.specs.Images.{Image, Arena, Link, IsArena, step, depth_of, from_block, to_block}
use Rattle.fo_good.specs.Trees.{IsDir, Lists, HasPair, HasNoScores, HasRecords, InTree, IsSamePlace, size_of}
use Rattle.fo_ports.specs.State.{State}
use Rattle.fo_dir_names.specs.Names.{IsOfData}

-- What the format and the rules ask of the tree of a root block, apart from names: the root's records are data; the size of each source of
-- entries or records lies within its depth; each record that names lead to has its pair; no source of entries has more than 64 above it; and
-- nothing is archived.
pub record IsSoundBeside (arena : Arena) (image : Image) (root : ℕ) : Type 0 where
  pub of_data : IsOfData (step arena image (from_block root) 1).slot
  pub entries_room : (depth : ℕ) (w : Link) → InTree arena image root depth w → size_of w.slot ≤ 8192 * 409 ^ depth_of w.slot
  pub records_room : (meta : Link) → HasRecords arena image root meta → size_of meta.slot ≤ 8192 * 409 ^ depth_of meta.slot
  pub fit : (trail : List ℕ) (entries meta : Link) (k j : ℕ) (r : Record) → IsDir arena image root trail entries meta → Lists arena image meta k j r → HasPair arena image entries r
  pub depths : (depth : ℕ) (w : Link) → InTree arena image root depth w → depth ≤ 64
  pub scores : HasNoScores arena image root

-- Names differ in each directory, whether or not a name leads to it; no two records of a directory have one pair; and file numbers differ in
-- the whole tree.
pub record HasNames (arena : Arena) (image : Image) (root : ℕ) : Type 0 where
  pub names : (meta : Link) (k j m n : ℕ) (r q : Record) → HasRecords arena image root meta → Lists arena image meta k j r → Lists arena image meta m n q → r.name ≡ q.name → (k ≡ m) × (j ≡ n)
  pub pairs : (trail : List ℕ) (entries meta : Link) (k j m n : ℕ) (r q : Record) → IsDir arena image root trail entries meta → Lists arena image meta k j r → Lists arena image meta m n q → r.slot ≡ q.slot → (k ≡ m) × (j ≡ n)
  pub numbers : (trail other : List ℕ) (entries meta below beside : Link) (k j m n : ℕ) (r q : Record) → IsDir arena image root trail entries meta → IsDir arena image root other below beside
      → Lists arena image meta k j r → Lists arena image beside m n q → r.number ≡ q.number → IsSamePlace trail k j other m n

-- Each image that a crash may leave keeps the rules on names, where it keeps the rest.
pub record KeepsNames (s : State) : Type 0 where
  pub each : (arena : Arena) (image : Image) (root : ℕ) → IsArena arena → s.may_leave image → (image 1).slot 0 ≡ to_block root → IsSoundBeside arena image root → HasNames arena image root
