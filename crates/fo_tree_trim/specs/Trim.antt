-- A source that is trimmed, or has fewer levels.
use Rattle.std.specs.Prelude.{◌≡◌, ◌-◌, ◌/◌, ◌≤◌, ◌<◌, ℕ, List, ◌++◌, length}
use Rattle.std.specs.List.{Contains}
use Rattle.fo_image.specs.declared.types.Pointer.TheVariants.{Local}
use Rattle.fo_crash.specs.Images.{Image, SameContent}
use Rattle.fo_ports.specs.State.{State}
use Rattle.fo_ports.specs.Sources.{DirtiesIn, depth_for}
use Rattle.fo_tree_read.specs.declared.tree.Tree.{Tree}
use Rattle.fo_tree_read.specs.Tree.{block_at}
use Rattle.fo_tree_look.specs.declared.ways.Kept.{Kept}
use Rattle.fo_tree_look.specs.Source.{seen}
use Rattle.fo_tree_down.specs.Clear.{last_leaf}
use Rattle.fo_tree_down.specs.Way.{OnWay, WayCurrent}

-- The leaves up to this one are those that were there, and have what they had.
pub record LeavesStay (s u : State) (t new : Tree) (last : ℕ) : Type 0 where
  pub each : (i : ℕ) → i ≤ last → block_at u new t.depth i ≡ block_at s t t.depth i
  pub content : (i b : ℕ) → i ≤ last → block_at s t t.depth i ≡ Local b → SameContent (u.now b) (s.now b)

-- In an image the source has the leaves that memory has, up to this one, with what they have there.
pub record Shows (s : State) (image : Image) (t : Tree) (last : ℕ) : Type 0 where
  pub each : (i : ℕ) → i ≤ last → block_at (record s { now = image }) t t.depth i ≡ block_at s t t.depth i
  pub content : (i b : ℕ) → i ≤ last → block_at s t t.depth i ≡ Local b → SameContent (image b) (s.now b)

-- The blocks above the last leaf are of the current epoch.
abbrev pub IsEndCurrent : State → Tree → Type 0
IsEndCurrent s t = 0 < t.depth → WayCurrent s t (t.depth - 1) (last_leaf t.size / 409)

-- A block of the way to the one above the last leaf.
abbrev pub OnEnd : State → Tree → ℕ → Type 0
OnEnd s t b = (0 < t.depth) × OnWay s t (t.depth - 1) (last_leaf t.size / 409) b

-- Beside these blocks so many more at most are left to be written, with this one and those above the last leaf.
pub record AddsEnd (most : ℕ) (blocks : List ℕ) (at : ℕ) (t : Tree) (old new : State) : Type 0 where
  pub more : List ℕ
  pub few : length more ≤ most
  pub within : DirtiesIn (more ++ blocks) old new
  pub here : Contains (more ++ blocks) at
  pub end : (b : ℕ) → OnEnd new t b → Contains (more ++ blocks) b

-- the tree of a source with this end and the least depth for it, below the block on the way to the first leaf
abbrev pub lower_tree : State → Tree → List Kept → ℕ → Tree
lower_tree s t kept end = record t { depth = depth_for end; size = end; top = block_at (seen s kept) t (t.depth - depth_for end) 0 }
