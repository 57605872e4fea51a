-- What stands behind the end of a source.
use Rattle.std.specs.Prelude.{◌≡◌, ◌-◌, ◌/◌, ◌^◌, ◌<◌, ℕ, List}
use Rattle.fo_image.specs.declared.types.Pointer.TheVariants.{Nil}
use Rattle.fo_tree_look.specs.of_ports.State.{State}
use Rattle.fo_tree_look.specs.of_tree_read.declared.tree.Tree.{Tree}
use Rattle.fo_tree_look.specs.of_tree_read.Tree.{block_at}
use Rattle.fo_tree_look.specs.declared.ways.Kept.{Kept}
use Rattle.fo_tree_look.specs.Source.{WayReady, seen}
use Rattle.fo_tree_down.specs.Way.{IsWayIndex}

-- the number of the last leaf
abbrev pub last_leaf : ℕ → ℕ
last_leaf size = (size - 1) / 8192

-- No block of the source stands behind its last leaf, as far as what was prepared leads; and an empty one has no top. The way to the last
-- leaf is prepared.
pub record EndsClear (s : State) (t : Tree) (kept : List Kept) : Type 0 where
  pub empty : t.size ≡ 0 → t.top ≡ Nil
  pub way : 0 < t.size → WayReady s t kept t.depth (last_leaf t.size)
  pub behind : 0 < t.size → (n a b : ℕ) → IsWayIndex t.depth (last_leaf t.size) n a → a < b → b < 409 ^ n → block_at (seen s kept) t n b ≡ Nil
