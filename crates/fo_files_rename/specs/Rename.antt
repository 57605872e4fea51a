-- A file got a new name, and its directory's own record changed.
use Rattle.std.specs.Prelude.{◌≡◌, ◌≢◌, ◌⊎◌, ◌+◌, ◌-◌, ◌*◌, ◌<◌, ℕ, List, length, get_or, Option}
use Rattle.fo_image.specs.declared.record.Record.{Record}
use Rattle.fo_image.specs.Record.{RecordHolds, RootRecordHolds}
use Rattle.fo_ports.specs.State.{State, Looks, Calm}
use Rattle.fo_files_edit.specs.of_files_at.declared.at.Step.{Step}
use Rattle.fo_files_edit.specs.of_files_at.declared.at.Way.{Way}
use Rattle.fo_files_dir.specs.declared.dir.DirAt.{DirAt}
use Rattle.fo_files_dir.specs.declared.dir.FileAt.{FileAt}
use Rattle.fo_files_own.specs.declared.at.OwnAt.{OwnAt}
use Rattle.fo_files_own.specs.declared.at.OwnAt.TheVariants as place
use Rattle.fo_files_own.specs.Own.{ChangesOwn, LeavesOwn, StepsTo, own_of}
use Rattle.fo_files_edit.specs.of_files_along.Along.{touched}
use Rattle.fo_files_edit.specs.of_files_into.Into.{OwnsFile, Edits, UnchangedBy}
use Rattle.fo_files_edit.specs.Edit.{as_root}

-- The own record of the directory of the last of these steps, after somebody changed a name in it at a moment: of the root directory as a root block
-- has it.
pub record IsOwnOf (steps : List Step) (who : List ℕ) (now : ℕ) (named : Record) : Type 0 where
  pub step : Step
  pub step_is : step ≡ get_or steps (length steps - 1) step
  pub at_root : length steps ≡ 1 → named ≡ touched who now (as_root step.dir.named)
  pub below : 1 < length steps → named ≡ touched who now step.dir.named

-- such a record may stand in a root block, where the directory is the root; else in a leaf of records
pub record MayStand (count : ℕ) (named : Record) : Type 0 where
  pub at_root : count ≡ 1 → RootRecordHolds named
  pub below : 1 < count → RecordHolds named

-- a root block with the record is none of the data of this file
abbrev pub IsBeside : State → OwnAt → (number : ℕ) → Type 0
IsBeside s (place.Root root) number = (s.label root).tag ≢ 32 + 2 * number
IsBeside s (place.Below b) number = Unit {0}

-- A directory's own record was made ready, then a file in it changed, its name too, and last the own record was put.
pub record RenamesFile (B : Type 0) (state : B → State) (old new : B) (dir : DirAt) (file : FileAt) (own : OwnAt) (touched : Record) (i spare : ℕ) (name : List ℕ) (named : Record) (given : Option ℕ) : Type 0 where
  pub ready : B
  pub block : ℕ
  pub readied : StepsTo B state old ready own touched.name block
  pub edited : B
  pub edits : Edits B state ready edited dir file i spare name named given
  pub changed : ChangesOwn (state edited) (state new) own touched block
  pub calm : Calm (λ x. x ≡ block) 0 (state edited) (state new)

-- A refusal leaves this: all was looked at; or the own record was not made ready; or it was, and then the file kept its record.
abbrev pub LeavesFile : (B : Type 0) (state : B → State) (old new : B) (dir : DirAt) (file : FileAt) → OwnAt → (own_name : List ℕ) (i spare : ℕ) (name : List ℕ) → Option ℕ → Type 0
LeavesFile B state old new dir file own own_name i spare name given =
    Looks (state old) (state new)
    ⊎ (LeavesOwn B state old new own own_name
    ⊎ ((ready : B) × (block : ℕ) × StepsTo B state old ready own own_name block × UnchangedBy B state ready new dir file i spare name given))

-- the leaf that has the own record of the directory of the last step, where that is below another
abbrev pub IsLeafOver : List Step → ℕ → Type 0
IsLeafOver steps leaf = 1 < length steps → (step : Step) × (step ≡ get_or steps (length steps - 2) step) × (leaf ≡ step.leaf)

-- The way to a file was owned, and then it changed, its name too, and so did its directory's own record.
pub record RenamesAlong (B : Type 0) (state : B → State) (old new : B) (root : ℕ) (trail : List ℕ) (way : Way) (name : List ℕ) (touched : Record) (given : Option ℕ) : Type 0 where
  pub looked : B
  pub looks : Looks (state old) (state looked)
  pub owned : B
  pub owns : OwnsFile (state looked) (state owned) root trail way
  pub leaf : ℕ
  pub over : IsLeafOver way.steps.items leaf
  pub own_spare : ℕ
  pub spare : ℕ
  pub renames : RenamesFile B state owned new owns.dir owns.file (own_of owns.dir owns.above leaf own_spare) touched owns.last.leaf spare name way.file.named given

-- The way was owned, and then a refusal left this.
pub record LeavesWay (B : Type 0) (state : B → State) (old new : B) (root : ℕ) (trail : List ℕ) (way : Way) (name own_name : List ℕ) (given : Option ℕ) : Type 0 where
  pub looked : B
  pub looks : Looks (state old) (state looked)
  pub owned : B
  pub owns : OwnsFile (state looked) (state owned) root trail way
  pub leaf : ℕ
  pub over : IsLeafOver way.steps.items leaf
  pub own_spare : ℕ
  pub spare : ℕ
  pub left : LeavesFile B state owned new owns.dir owns.file (own_of owns.dir owns.above leaf own_spare) own_name owns.last.leaf spare name given

-- so it is where all was only looked at, too
abbrev pub LeavesAlong : (B : Type 0) (state : B → State) (old new : B) (root : ℕ) (trail : List ℕ) → Way → (name own_name : List ℕ) → Option ℕ → Type 0
LeavesAlong B state old new root trail way name own_name given = Looks (state old) (state new) ⊎ LeavesWay B state old new root trail way name own_name given
