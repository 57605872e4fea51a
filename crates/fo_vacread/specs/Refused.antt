-- Why changes are refused.
use Rattle.std.specs.Prelude.{ℕ, ◌≤◌, Bool, true, false, Option, Some, None, Result, Ok, Err, nat_lt, if◌then◌else◌}
use Rattle.fo_world.specs.declared.error.FileError.{FileError}
use Rattle.fo_world.specs.declared.error.FileError.TheVariants.{ReadOnly, IsDir}
use Rattle.fo_vac_files.specs.Causes.{LookBlames}

-- The count of faults never falls, and a change is refused by a fault only where it rose.
pub record HasRefusal (before now : ℕ) (e : FileError) : Type 0 where
  pub later : before ≤ now
  pub blames : LookBlames before now e

-- the refusal of a change of a directory or of a file; where it was not looked at, why
abbrev pub refused_by : FileError → FileError → Result Bool FileError → FileError
refused_by of_dir of_file (Ok true) = of_dir
refused_by of_dir of_file (Ok false) = of_file
refused_by of_dir of_file (Err e) = e

-- a directory has no length but 0
abbrev pub refusal_of_dir : Option ℕ → FileError
refusal_of_dir None = ReadOnly
refusal_of_dir (Some n) = if nat_lt 0 n then IsDir else ReadOnly
