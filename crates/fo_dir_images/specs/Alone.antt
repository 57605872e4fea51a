-- A name that no other leaf of a directory's records has.
use Rattle.std.specs.Prelude.{◌≡◌, ◌≢◌, ◌<◌, ℕ, List, false}
use Rattle.std.specs.List.{list_any}
use Rattle.fo_image.specs.declared.record.Record.{Record}
use Rattle.fo_meta.specs.Leaf.{SpellsLeaf, is_named}
use Rattle.fo_crash.specs.Images.{Image, Arena, IsArena, to_block}
use Rattle.fo_crash.specs.Steps.{IsSure}
use Rattle.fo_ports.specs.State.{State}
use Rattle.fo_dir_images.specs.Leaves.{Records, IsLeafOf}
use Rattle.fo_dir_images.specs.Whole.{IsInPlace}

-- No record of a leaf with these bytes has this name.
pub record LacksName (name bytes : List ℕ) : Type 0 where
  pub each : (rs : List Record) → SpellsLeaf rs bytes → list_any (is_named name) rs ≡ false

-- Of the directory at this trail in memory: each of its first so many leaves of records but one is in place, every image has it as memory
-- has it, and none of its records has the name.
pub record OthersLack (arena : Arena) (s : State) (trail : List ℕ) (count but : ℕ) (name : List ℕ) : Type 0 where
  pub each : (n : ℕ) → n < count → n ≢ but → (b : ℕ) × IsLeafOf Records arena s.now s.root trail n b × IsInPlace s b × IsSure s.now b s.may_leave × LacksName name ((s.now b).bytes)

-- Where that is so, each image has no record of the name in the blocks that it has itself as these leaves.
pub record KeepsNamesAlone (s : State) : Type 0 where
  pub each : (arena : Arena) (image : Image) (root count but n c : ℕ) (trail name : List ℕ) → IsArena arena → s.may_leave image → (image 1).slot 0 ≡ to_block root → OthersLack arena s trail count but name
      → n < count → n ≢ but → IsLeafOf Records arena image root trail n c → LacksName name ((image c).bytes)
