-- What an image lists in its directories, where the records that images show stand once.
use Rattle.std.specs.Prelude.{◌≡◌, ◌≢◌, ◌*◌, ◌^◌, ◌≤◌, ℕ, List, length, false}
use Rattle.fo_image.specs.declared.record.Record.{Record}
use Rattle.fo_image.specs.declared.types.Pointer.TheVariants.{Score as Held}
use Rattle.fo_image.specs.declared.types.Score.{Score}
use Rattle.fo_crash.specs.declared.slot.Slot.{Slot}
use Rattle.fo_crash.specs.declared.slot.Slot.TheVariants.{Pointer as To, Entry as Head, Prev}
use Rattle.fo_crash.specs.Images.{Image, Arena, Link, IsArena, target, goes, step, depth_of, leaf_path, from_block, to_block}
use Rattle.fo_good.specs.Trees.{IsDir, Lists, IsWithin, size_of}
use Rattle.fo_ports.specs.State.{State}
use Rattle.fo_dir_put.specs.Names.{Clash}
use Rattle.fo_dir_images.specs.Leaves.{HasWay}

-- an entry that names data
abbrev pub IsOfData : Slot → Type 0
IsOfData (Head e) = e.dir ≡ false
IsOfData (To p) = ⊥
IsOfData (Prev epoch at) = ⊥

-- What is asked of a directory apart from its names: it is at most 64 pairs below the root, each of which lies within the depth of the
-- entries that hold it; its records are data, their size lies within their depth, and none of their leaves is archived.
pub record IsPlainDir (arena : Arena) (image : Image) (root : ℕ) (trail : List ℕ) (meta : Link) : Type 0 where
  pub deep : length trail ≤ 64
  pub way : HasWay arena image (step arena image (from_block root) 0) trail
  pub of_data : IsOfData meta.slot
  pub room : size_of meta.slot ≤ 8192 * 409 ^ depth_of meta.slot
  pub unheld : (k : ℕ) (score : Score) → IsWithin meta.slot k → target ((goes arena image meta (leaf_path meta.slot k)).slot) ≢ Held score

-- Of the directories that names lead to in an image: no two records of one directory have one name, number or pair, and no two records of
-- two directories have one number.
pub record NamesDiffer (s : State) : Type 0 where
  pub within : (arena : Arena) (image : Image) (root k j m n : ℕ) (trail : List ℕ) (entries meta : Link) (r q : Record) → IsArena arena → s.may_leave image → (image 1).slot 0 ≡ to_block root
      → IsDir arena image root trail entries meta → IsPlainDir arena image root trail meta → Lists arena image meta k j r → Lists arena image meta m n q → Clash r q → (k ≡ m) × (j ≡ n)
  pub between : (arena : Arena) (image : Image) (root k j m n : ℕ) (trail way : List ℕ) (entries meta below beside : Link) (r q : Record) → IsArena arena → s.may_leave image → (image 1).slot 0 ≡ to_block root
      → IsDir arena image root trail entries meta → IsPlainDir arena image root trail meta → IsDir arena image root way below beside → IsPlainDir arena image root way beside
      → trail ≢ way → Lists arena image meta k j r → Lists arena image beside m n q → r.number ≢ q.number
