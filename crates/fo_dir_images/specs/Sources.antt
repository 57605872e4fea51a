-- The leaves of a source, as its calls have them, are leaves of the directory at whose trail its entry stands.
use Rattle.std.specs.Prelude.{◌≡◌, ℕ, List, Some}
use Rattle.fo_crash.specs.Images.{Arena, target, step, depth_of, from_block}
use Rattle.fo_ports.specs.State.{State}
use Rattle.fo_tree_read.specs.declared.tree.Tree.{Tree}
use Rattle.fo_tree_look.specs.Source.{address_here}
use Rattle.fo_dir_images.specs.Leaves.{Side, HasWay, source_link, IsLeafOf}

-- A source with the top and the depth of the entry at the end of a trail in memory: where it has a leaf (`at` of its `Leaves`), this is
-- the directory's.
pub record ReadsSources (s : State) : Type 0 where
  pub each : (side : Side) (arena : Arena) (t : Tree) (n b : ℕ) (trail : List ℕ) → HasWay arena s.now (step arena s.now (from_block s.root) 0) trail
      → target (source_link side arena s.now s.root trail).slot ≡ t.top → depth_of (source_link side arena s.now s.root trail).slot ≡ t.depth → address_here s t n ≡ Some b
      → IsLeafOf side arena s.now s.root trail n b
