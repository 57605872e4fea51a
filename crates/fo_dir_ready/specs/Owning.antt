-- What is asked of a source before one of its leaves is owned.
use Rattle.std.specs.Prelude.{◌+◌, ◌*◌, ◌<◌, ◌≤◌, ℕ, max}
use Rattle.fo_crash.specs.Images.{Reaches, to_block}
use Rattle.fo_ports.specs.State.{State, Looks}
use Rattle.fo_ports.specs.Sources.{Form, Leaves, SameLeaves, Owned, Grows, Changes, MayZero, IsEnough, depth_for, most_for}
use Rattle.fo_dir_read.specs.Names.{leaf_count}

-- Leaf i of a source was prepared, stands in it or behind its last one, and there are blocks to own it.
pub record MayOwn (leaves : Leaves) (size i : ℕ) (s : State) : Type 0 where
  pub within : i ≤ leaf_count size
  pub prepared : leaves.prepared (8192 * i) 8192
  pub spare : IsEnough leaves.current size i s.spare

-- Leaf i of a source stands in it or behind its last one, within its limit, and there are pins to prepare it and blocks to own
-- it.
pub record MayReady (leaves : Leaves) (size limit i : ℕ) (s : State) : Type 0 where
  pub within : i ≤ leaf_count size
  pub limited : 8192 * i + 8192 ≤ limit
  pub pins : most_for (max size (8192 * i + 8192)) 8192 ≤ s.pins_left
  pub spare : IsEnough leaves.current size i s.spare

-- Where owning leaf i gives a source more levels, all its blocks hang from block 1, as far as the device tells.
abbrev pub IsLinked : (leaves : Leaves) (size i : ℕ) → State → Type 0
IsLinked leaves size i s = s.tells → depth_for size < depth_for (8192 * (i + 1)) → (b : ℕ) → leaves.owns b → Reaches s.now (to_block 1) b

-- Leaf i of a source was prepared and then owned: first all was only looked at, from the first of these states to the second, and then
-- the source was changed, from the second to the third.
pub record Readies (form : Form) (size i at : ℕ) (old mid new : State) (x y z : Leaves) : Type 0 where
  pub looks : Looks old mid
  pub same : SameLeaves old.tells x y
  pub owned : Owned form size i at mid new y z
  pub grows : Grows mid new y z
  pub changes : Changes form.tag y.owns (MayZero form size i mid y) mid new
