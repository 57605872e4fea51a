-- The record of a file after a change.
use Rattle.std.specs.Prelude.{◌+◌, ◌-◌, ◌^◌, ℕ, Bool, List, nat_le, if◌then◌else◌, Option, Some, None}
use Rattle.fo_image.specs.declared.record.Record.{Record}
use Rattle.fo_world.specs.declared.place.Change.{Change}
use Rattle.fo_files_into.specs.of_files_at.declared.file.File.{File}
use Rattle.fo_files_into.specs.of_files_along.Along.{touched}

-- A mode with the directory bit (DMDIR, bit 31) of another: a change leaves that as it is.
abbrev pub kept_mode : ℕ → ℕ → ℕ
kept_mode mode was =
    if nat_le (2 ^ 31) was then (if nat_le (2 ^ 31) mode then mode else mode + 2 ^ 31)
    else (if nat_le (2 ^ 31) mode then mode - 2 ^ 31 else mode)

-- a record with the fields that are given
abbrev pub with_mode : Option ℕ → Record → Record
with_mode None r = r
with_mode (Some mode) r = record r { mode = kept_mode mode r.mode }

abbrev pub with_mtime : Option ℕ → Record → Record
with_mtime None r = r
with_mtime (Some mtime) r = record r { mtime = mtime }

abbrev pub with_gid : Option (List ℕ) → Record → Record
with_gid None r = r
with_gid (Some gid) r = record r { gid = gid }

abbrev pub with_name : Option (List ℕ) → Record → Record
with_name None r = r
with_name (Some name) r = record r { name = name }

-- a length is a write to a file; a directory has none
abbrev pub touched_file : Bool → List ℕ → ℕ → Record → Record
touched_file dir who now r = if dir then r else touched who now r

abbrev pub with_length : Option ℕ → Bool → List ℕ → ℕ → Record → Record
with_length None dir who now r = r
with_length (Some n) dir who now r = touched_file dir who now r

-- all that is given; the time is set last (stat(5))
abbrev pub edited : Change → Bool → List ℕ → ℕ → Record → Record
edited what dir who now r = with_mtime what.mtime (with_mode what.mode (with_name what.name (with_gid what.gid (with_length what.length dir who now r))))

-- the file with that record
abbrev pub with_edited : Change → List ℕ → ℕ → File → File
with_edited what who now f = record f { named = edited what f.dir who now f.named }
