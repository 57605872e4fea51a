-- Why a file of an archive is not read.
use Rattle.std.specs.Prelude.{◌≡◌, ◌⊎◌, ℕ, ◌≤◌, Result, Ok, Err, IfErr, MatchResult}
use Rattle.fo_base.specs.Cause.{Rose}
use Rattle.fo_world.specs.declared.error.FileError.{FileError}
use Rattle.fo_world.specs.declared.error.FileError.TheVariants as error
use Rattle.fo_world.specs.World.{World}
use Rattle.fo_vac_walk.specs.declared.error.WalkError.{WalkError}
use Rattle.fo_vac_walk.specs.declared.error.WalkError.TheVariants.{Damaged, ArenaRead, Memory}
use Rattle.fo_vac_walk.specs.Walk.{Holding}
use Rattle.fo_vac_files.specs.declared.opened.Opened.{Opened}
use Rattle.fo_vac_files.specs.Broken.{IsBroken}

-- the refusal that files give where a source is not read
abbrev pub refusal_of : WalkError → FileError
refusal_of (Damaged at) = error.Damaged at
refusal_of ArenaRead = error.ArenaRead
refusal_of Memory = error.Memory

-- damage of what this block of the arena's device has or names, a fault, or want of memory
abbrev pub IsLoss : Holding → Opened → FileError → Type 0
IsLoss h o (error.Damaged at) = IsBroken h o at
IsLoss h o error.ArenaRead = Unit {0}
IsLoss h o error.Memory = Unit {0}
IsLoss h o _ = ⊥

-- a refusal of the file step that these files give
abbrev pub IsRefusal : FileError → Type 0
IsRefusal error.Gone = Unit {0}
IsRefusal error.NotDir = Unit {0}
IsRefusal error.IsDir = Unit {0}
IsRefusal error.ReadOnly = Unit {0}
IsRefusal error.Absent = Unit {0}
IsRefusal _ = ⊥

-- over any device: a fault comes only where the count rose, and there is no refusal but these, damage and want of memory
abbrev pub LookBlames : ℕ → ℕ → FileError → Type 0
LookBlames before now error.ArenaRead = Rose before now
LookBlames before now (error.Damaged at) = Unit {0}
LookBlames before now error.Memory = Unit {0}
LookBlames before now error.Gone = Unit {0}
LookBlames before now error.NotDir = Unit {0}
LookBlames before now error.IsDir = Unit {0}
LookBlames before now error.ReadOnly = Unit {0}
LookBlames before now error.Absent = Unit {0}
LookBlames before now _ = ⊥

-- The count of faults never falls, and a fault is answered only where it rose.
pub record HasLookCauses {T : Type 0} (before now : ℕ) (result : Result T FileError) : Type 0 where
  pub later : before ≤ now
  pub failed : IfErr result (LookBlames before now)

-- the refusal of a step, or a loss
abbrev pub IsSaid : {A : Type 0} → Holding → Opened → Result A FileError → FileError → Type 0
IsSaid h o told e = (IsRefusal e × (told ≡ Err e)) ⊎ IsLoss h o e

-- A call that looks tells what the step says.
abbrev pub Tells : {A : Type 0} → Holding → Opened → Result (A × World) FileError → World → Result A FileError → Type 0
Tells h o told w r = MatchResult r (λ x. told ≡ Ok (x, w)) (IsSaid h o told)
