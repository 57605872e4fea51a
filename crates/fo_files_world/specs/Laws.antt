-- What is proved of the tree that an image shows.
use Rattle.std.specs.Prelude.{◌≡◌, ℕ, List, Bool, Option}
use Rattle.fo_crash.specs.Images.{Image, Arena}
use Rattle.fo_world.specs.declared.tree.Node.{Node}
use Rattle.fo_world.specs.World.{World}
use Rattle.fo_world.specs.Step.{info, find, next_name, read}
use Rattle.fo_world.specs.Tree.{change_along}
use Rattle.fo_good.specs.Reading.{root_node, levels}
use Rattle.fo_files_world.specs.Spots.{root_spot}
use Rattle.fo_files_world.specs.Looks.{active_at, spot_at, info_told, find_told, next_told, read_told}
use Rattle.fo_files_world.specs.Same.{Changed}

-- The active tree of this world is the one that the image shows below this root block.
abbrev pub ShowsActive : Arena → Image → ℕ → World → Type 0
ShowsActive arena image root w = w.active.root ≡ root_node arena image root

abbrev pub InfoIsTold : Type 0
InfoIsTold = (arena : Arena) (image : Image) (root : ℕ) (w : World) (whole : Bool) (trail : List ℕ) → ShowsActive arena image root w → info whole w (active_at trail) ≡ info_told arena image w trail (spot_at arena image root trail)

abbrev pub FindIsTold : Type 0
FindIsTold = (arena : Arena) (image : Image) (root : ℕ) (w : World) (whole : Bool) (trail name : List ℕ) → ShowsActive arena image root w → find whole w (active_at trail) name ≡ find_told arena image w trail name (spot_at arena image root trail)

abbrev pub NextIsTold : Type 0
NextIsTold = (arena : Arena) (image : Image) (root : ℕ) (w : World) (whole : Bool) (trail : List ℕ) (after : Option (List ℕ)) → ShowsActive arena image root w → next_name whole w (active_at trail) after ≡ next_told arena image w trail after (spot_at arena image root trail)

abbrev pub ReadIsTold : Type 0
ReadIsTold = (arena : Arena) (image : Image) (root : ℕ) (w : World) (whole : Bool) (trail : List ℕ) (offset count : ℕ) → ShowsActive arena image root w → read whole w (active_at trail) offset count ≡ read_told arena image w offset count (spot_at arena image root trail)

abbrev pub ChangeIsShown : Type 0
ChangeIsShown = (arena : Arena) (image other : Image) (f : Node → Node) (trail : List ℕ) (root root' : ℕ) → Changed arena image other f levels trail (root_spot arena image root) (root_spot arena other root') → root_node arena other root' ≡ change_along trail f (root_node arena image root)
