-- Leaves of records, while a tree is walked: each is of the format, or is left.
use Rattle.std.specs.Prelude.{◌≡◌, ◌⊎◌, ℕ, ◌%◌, ◌<◌, List, ◌++◌, Option}
use Rattle.fo_image.specs.declared.types.Kind.TheVariants.{Data}
use Rattle.fo_image.specs.declared.types.Label.{Label}
use Rattle.fo_image.specs.declared.types.Pointer.TheVariants.{Local}
use Rattle.fo_crash.specs.Images.{Image, Arena, Link, target, goes}
use Rattle.fo_meta.specs.Leaf.{IsLeaf}
use Rattle.fo_good.specs.Trees.{IsRecords, HoldsEntries}
use Rattle.fo_good.specs.Sound.{Kept}
use Rattle.fo_check_tree.specs.declared.broken.Broken.{Broken}
use Rattle.fo_check_labels.specs.declared.labels.Known.{Known}
use Rattle.fo_check_tree.specs.declared.walk.Folder.{Folder}
use Rattle.fo_check_tree.specs.declared.walk.Holds.TheVariants.{Records}
use Rattle.fo_check_tree.specs.declared.walk.Step.{Step}
use Rattle.fo_check_tree.specs.Answer.{IsAlone}
use Rattle.fo_check_tree.specs.Dirs.{link_at, HasMeta}
use Rattle.fo_check_tree.specs.Listing.{SomeOf}
use Rattle.fo_check_tree.specs.Lower.{level}
use Rattle.fo_check_tree.specs.Walking.{Reached}

-- A step to a block of a source of records, on the way to what is at the end of this path.
pub record IsRecordsWay (arena : Arena) (image : Image) (link : Link) (path : List ℕ) (step : Step) : Type 0 where
  pub front : List ℕ
  pub rest : List ℕ
  pub is : path ≡ front ++ rest
  pub pointer : step.pointer ≡ target ((goes arena image link front).slot)
  pub kind : step.kind ≡ (goes arena image link front).kind
  pub holds : step.holds ≡ Records

-- The block is a leaf of records, or is behind a step or a folder that is left.
abbrev pub IsFormed : Arena → Image → List Step → List Folder → ℕ → ℕ → List ℕ → ℕ → Type 0
IsFormed arena image steps folders at i path b = IsLeaf ((image b).bytes) ⊎ (SomeOf (IsRecordsWay arena image (link_at image at i) path) steps ⊎ SomeOf (HasMeta image at i) folders)

-- This is so of each leaf at one place of a source that is the second of a pair and names records, in a block that was reached, where no
-- rule up to 5 is noted.
pub record AreFormed (arena : Arena) (image : Image) (k : Kept) (known : List Known) (noted : Option Broken) (steps : List Step) (folders : List Folder) : Type 0 where
  pub each : 5 < level noted → (at i : ℕ) (l : Label) → Reached known at l → HoldsEntries l.kind → i % 2 ≡ 1 → IsRecords ((image at).slot i)
      → (path : List ℕ) (b : ℕ) → (goes arena image (link_at image at i) path).kind ≡ Data 0 → target ((goes arena image (link_at image at i) path).slot) ≡ Local b → IsAlone arena image k b → IsFormed arena image steps folders at i path b
