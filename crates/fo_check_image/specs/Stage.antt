-- What the check of the tree answers, once the images were opened.
use Rattle.std.specs.Prelude.{◌≡◌, ◌≢◌, ℕ, ◌≤◌, true, List, length, Option, None, Some, Result, Ok, Err}
use Rattle.fo_disk.specs.Disk.{Block}
use Rattle.fo_disk.specs.declared.disk.DiskFault.TheVariants.{Read as ReadFault}
use Rattle.fo_image.specs.declared.types.Pointer.TheVariants.{Nil}
use Rattle.fo_image.specs.Usable.{free_label}
use Rattle.fo_crash.specs.Images.{Image, Arena}
use Rattle.fo_sound.specs.Image.{IsDataBlock, HasLabel}
use Rattle.fo_sound.specs.Sound.{HasTable, HasRootEntries}
use Rattle.fo_good.specs.Sound.{Kept, IsSoundTree}
use Rattle.fo_check.specs.declared.error.CheckError.{CheckError}
use Rattle.fo_check.specs.declared.error.CheckError.TheVariants as error
use Rattle.fo_check.specs.declared.opening.Opening.{Opening}
use Rattle.fo_check_tree.specs.declared.broken.Broken.{Broken}
use Rattle.fo_check_labels.specs.declared.error.TreeError.{TreeError}
use Rattle.fo_check_labels.specs.declared.error.TreeError.TheVariants as tree
use Rattle.fo_check_image.specs.declared.report.Report.{Report}
use Rattle.fo_check_image.specs.Answer.{BreaksTree}

-- why there is no report, where a tree was not checked to its end
abbrev pub refusal_of : TreeError → CheckError
refusal_of (tree.Label block) = error.Unsound 4 block
refusal_of tree.Read = error.Main ReadFault
refusal_of tree.Memory = error.Memory

-- the report of a device of so many blocks whose tree has these numbers, or the rule that is broken
abbrev pub report_of : ℕ → ℕ → ℕ → Option Broken → Result Report CheckError
report_of blocks used leaked None = Ok (record { blocks = blocks; used = used; leaked = leaked; snapshots = 0 })
report_of blocks used leaked (Some b) = Err (error.Unsound b.rule b.block)

-- a refusal of the check of a tree
abbrev pub IsOfTree : CheckError → Type 0
IsOfTree error.Size = ⊥
IsOfTree error.NotArena = ⊥
IsOfTree error.NotBuilt = ⊥
IsOfTree (error.Unsound rule block) = (4 ≤ rule) × (rule ≤ 9)
IsOfTree (error.Main fault) = Unit {0}
IsOfTree (error.Arena fault) = ⊥
IsOfTree error.Memory = Unit {0}

-- The rule is broken in the tree.
abbrev pub RefusesTree : List Block → Opening → CheckError → Type 0
RefusesTree image o (error.Unsound rule block) = BreaksTree image o.s o.root rule block
RefusesTree image o _ = Unit {0}

-- The table and the tree of the active root are sound, as the device is read somehow.
pub record HasSoundTree (image : List Block) (o : Opening) : Type 0 where
  pub arena : Arena
  pub reading : Image
  pub active : Kept
  pub at : active.at ≡ o.s.active
  pub root : active.root ≡ o.root
  pub table : HasTable image
  pub tree : IsSoundTree arena image reading o.s.numbers true active

-- The sources of the active root have no blocks, and all data blocks but the root are free.
pub record IsBare (image : List Block) (o : Opening) : Type 0 where
  pub table : HasTable image
  pub entries : o.root.entries.top ≡ Nil
  pub meta : o.root.meta.top ≡ Nil
  pub entries_depth : o.root.entries.depth ≤ 4
  pub meta_depth : o.root.meta.depth ≤ 4
  pub root : HasRootEntries o.root
  pub free : (address : ℕ) → IsDataBlock (length image) address → address ≢ o.s.active → HasLabel image address free_label
