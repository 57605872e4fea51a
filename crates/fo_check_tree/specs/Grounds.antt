-- While a tree is walked: rule 5 is broken where it is noted, and steps and folders of records are below entries that name them.
use Rattle.std.specs.Prelude.{◌≡◌, ◌⊎◌, ℕ, ◌*◌, ◌^◌, ◌≤◌, false, List, ◌∷◌, ◌++◌, Option, Some}
use Rattle.std.specs.List.{AllByRecursion}
use Rattle.fo_image.specs.declared.types.Entry.{Entry}
use Rattle.fo_image.specs.declared.types.Kind.TheVariants.{Data}
use Rattle.fo_image.specs.declared.types.Pointer.TheVariants.{Nil}
use Rattle.fo_crash.specs.declared.slot.Slot.TheVariants.{Entry as Head}
use Rattle.fo_crash.specs.Images.{Image, Arena, target}
use Rattle.fo_good.specs.Trees.{NamesRecords, at_path}
use Rattle.fo_good.specs.Sound.{Kept}
use Rattle.fo_check_tree.specs.declared.broken.Broken.{Broken}
use Rattle.fo_check_tree.specs.declared.walk.Folder.{Folder}
use Rattle.fo_check_tree.specs.declared.walk.Holds.TheVariants.{Records, Entries}
use Rattle.fo_check_tree.specs.declared.walk.Step.{Step}
use Rattle.fo_check_tree.specs.Answer.{AreRecordsOf, NamesFormats}

-- The step leads where a path does that goes through an entry that names records.
pub record IsAtRecords (arena : Arena) (image : Image) (k : Kept) (step : Step) : Type 0 where
  pub path : List ℕ
  pub slot : ℕ
  pub more : List ℕ
  pub names : NamesRecords arena image k.at path slot
  pub pointer : step.pointer ≡ target ((at_path arena image k.at (path ++ slot ∷ more)).slot)
  pub kind : (at_path arena image k.at (path ++ slot ∷ more)).kind ≡ step.kind

-- A step to a block of records is at such a place, and one to a block of entries leads to no other.
pub record IsPlaced (arena : Arena) (image : Image) (k : Kept) (step : Step) : Type 0 where
  pub records : step.holds ≡ Records → (level : ℕ) → step.kind ≡ Data level → (step.pointer ≡ Nil → ⊥) → IsAtRecords arena image k step
  pub entries : step.holds ≡ Entries → (level : ℕ) → step.kind ≡ Data level → ⊥

-- The entry is of its format, and where it leads anywhere it names the records of a directory.
pub record IsRecordsOf (arena : Arena) (image : Image) (k : Kept) (e : Entry) : Type 0 where
  pub shallow : e.depth ≤ 4
  pub room : e.size ≤ 8192 * 409 ^ e.depth
  pub source : e.dir ≡ false → (e.top ≡ Nil) ⊎ AreRecordsOf arena image k (record { kind = Data e.depth; slot = Head e })

pub record HasRecordsOf (arena : Arena) (image : Image) (k : Kept) (f : Folder) : Type 0 where
  pub each : (e : Entry) → f.records ≡ Some e → IsRecordsOf arena image k e

-- This is so of all steps and folders that are left.
pub record HasGrounds (arena : Arena) (image : Image) (k : Kept) (noted : Option Broken) (steps : List Step) (folders : List Folder) : Type 0 where
  pub formats : NamesFormats arena image k noted
  pub ways : AllByRecursion (IsPlaced arena image k) steps
  pub sources : AllByRecursion (HasRecordsOf arena image k) folders
