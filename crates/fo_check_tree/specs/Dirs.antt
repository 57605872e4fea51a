-- Directories, while a tree is walked: each is left, or no name stands twice in it.
use Rattle.std.specs.Prelude.{◌≡◌, ◌⊎◌, ℕ, ◌+◌, ◌*◌, ◌<◌, zero, List, ◌++◌, Some}
use Rattle.fo_image.specs.declared.types.Kind.TheVariants.{Dir}
use Rattle.fo_image.specs.declared.types.Entry.{Entry}
use Rattle.fo_image.specs.declared.types.Label.{Label}
use Rattle.fo_crash.specs.declared.slot.Slot.TheVariants.{Entry as Head}
use Rattle.fo_crash.specs.Images.{Image, Arena, Link, kind_of_top}
use Rattle.fo_good.specs.Trees.{IsEntries, IsRecords}
use Rattle.fo_good.specs.Sound.{Kept}
use Rattle.fo_check_tree.specs.declared.walk.Folder.{Folder}
use Rattle.fo_check_tree.specs.declared.walk.Walk.{Walk}
use Rattle.fo_check_tree.specs.Answer.{HasOwnNames}
use Rattle.fo_check_tree.specs.Listing.{SomeOf}
use Rattle.fo_check_tree.specs.Lower.{level}
use Rattle.fo_check_tree.specs.Walking.{Reached}

-- the source that hangs from slot i of a block of entries, or of a root
abbrev pub link_at : Image → ℕ → ℕ → Link
link_at image at i = record { kind = kind_of_top ((image at).slot i); slot = (image at).slot i }

-- The folder's records are those of the entry in slot i of the block.
pub record HasMeta (image : Image) (at i : ℕ) (f : Folder) : Type 0 where
  pub entry : Entry
  pub is : f.records ≡ Some entry
  pub slot : (image at).slot i ≡ Head entry

-- A folder with these records is left, or no name stands twice in those of blocks at one place.
abbrev pub IsJudged : Arena → Image → Kept → List Folder → ℕ → ℕ → Type 0
IsJudged arena image k folders at i = SomeOf (HasMeta image at i) folders ⊎ HasOwnNames arena image k (link_at image at i)

-- This is so of the root's records, and of each pair of a block that was reached, where no rule up to 5 is noted; these folders are left
-- beside the walk's own.
pub record AreJudged (arena : Arena) (image : Image) (k : Kept) (others : List Folder) (walk : Walk) : Type 0 where
  pub top : IsRecords ((image k.at).slot 1) → 5 < level walk.noted → IsJudged arena image k (others ++ walk.folders.items) k.at 1
  pub pairs : 5 < level walk.noted → (at p : ℕ) (l : Label) → Reached walk.labels.known.items at l → l.kind ≡ Dir zero → p < 102
      → IsEntries ((image at).slot (2 * p)) → IsRecords ((image at).slot (2 * p + 1)) → IsJudged arena image k (others ++ walk.folders.items) at (2 * p + 1)
