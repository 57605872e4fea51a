-- What a test has made of a source.
use Rattle.std.specs.Prelude.{◌≡◌, ◌^◌, ℕ, [], false}
use Rattle.fo_image.specs.declared.types.Pointer.{Pointer}
use Rattle.fo_ports.specs.State.{State}
use Rattle.fo_tree_read.specs.declared.tree.Tree.{Tree}
use Rattle.fo_tree_look.specs.declared.ways.Ways.{Ways}
use Rattle.fo_tree_look.specs.Source.{Over}
use Rattle.fo_tree_down.specs.Clear.{EndsClear}

-- A source of data that is no source of records stands over these blocks.
pub record Stands (s : State) (w : Ways) : Type 0 where
  pub over : Over s w.tree w.kept.items w.limit
  pub plain : w.tree.dir ≡ false
  pub rank : w.tree.rank ≡ 2112
  pub wide : w.limit ≡ 2 ^ 40

-- Nothing stands behind its end, too.
pub record Rig (s : State) (w : Ways) : Type 0 where
  pub stands : Stands s w
  pub clear : EndsClear s w.tree w.kept.items

-- a source of data of this depth and size, below this top
abbrev pub data_tree : ℕ → ℕ → Pointer → Tree
data_tree depth size top = record { dir = false; tag = 40; rank = 2112; depth = depth; size = size; top = top }

-- The source has this tree, and nothing was fetched for it.
pub record IsNew (t : Tree) (w : Ways) : Type 0 where
  pub is : w.tree ≡ t
  pub none : w.kept.items ≡ []
  pub wide : w.limit ≡ 2 ^ 40
  pub generation : w.generation ≡ 1
