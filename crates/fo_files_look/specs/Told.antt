-- How what blocks answer is told of files.
use Rattle.std.specs.Prelude.{◌≡◌, ◌-◌, ◌<◌, ℕ, false, cond, List, [], length, min, Option, Some, None}
use Rattle.fo_disk.specs.declared.disk.DiskFault.TheVariants.{Read, Write, Sync}
use Rattle.fo_ports.specs.declared.error.BlockError.{BlockError}
use Rattle.fo_ports.specs.declared.error.BlockError.TheVariants.{Full, Damaged, Fault, Arena, Memory}
use Rattle.fo_ports.specs.State.{State}
use Rattle.fo_world.specs.declared.error.FileError.{FileError}
use Rattle.fo_world.specs.declared.error.FileError.TheVariants as error
use Rattle.fo_world.specs.declared.place.Place.{Place}
use Rattle.fo_world.specs.declared.place.Info.{Info}
use Rattle.fo_world.specs.Tree.{front, last}
use Rattle.fo_world.specs.World.{Faults}
use Rattle.fo_files_at.specs.declared.file.File.{File}
use Rattle.fo_files_at.specs.Held.{FileHolds}

-- how many calls of each device have failed so far
abbrev pub faults_of : State → Faults
faults_of s = record { main = s.faults; arena = s.arena_faults }

-- the refusal of files for one of blocks
abbrev pub file_error : BlockError → FileError
file_error Full = error.Full
file_error (Damaged at) = error.Damaged at
file_error (Fault Read) = error.MainRead
file_error (Fault Write) = error.MainWrite
file_error (Fault Sync) = error.MainSync
file_error (Arena Read) = error.ArenaRead
file_error (Arena Write) = error.ArenaWrite
file_error (Arena Sync) = error.ArenaSync
file_error Memory = error.Memory

-- The tree with this root block may be looked at: that is a block, and the device tells nothing.
pub record MayLook (s : State) (root : ℕ) : Type 0 where
  pub block : s.is_block root
  pub silent : s.tells → ⊥

-- the name given; where none is, that of no bytes, which each other is after
abbrev pub name_given : Option (List ℕ) → List ℕ
name_given None = []
name_given (Some name) = name

-- the place of the directory above, and the root's own at the root
abbrev pub above : Place → Place
above at = record { view = at.view; trail = front at.trail }

-- how long a file is; a directory has no length
abbrev pub length_of : File → ℕ
length_of f = cond f.dir 0 f.first.size

-- what is told of a file, at its place
abbrev pub told_of : Place → File → Info
told_of place f = record {
  place = place;
  name = f.named.name;
  path = f.named.number;
  vers = f.named.vers;
  mode = f.named.mode;
  atime = f.named.atime;
  mtime = f.named.mtime;
  length = length_of f;
  uid = f.named.uid;
  gid = f.named.gid;
  muid = f.named.muid;
}

-- At this place a file was found, of which this is told.
pub record IsTold (s : State) (place : Place) (told : Info) : Type 0 where
  pub file : File
  pub holds : FileHolds s file
  pub is : told ≡ told_of place file

-- Of the file at the end of this trail, which is no directory, so many bytes were read from an offset on: as many as there are, and fit.
pub record IsRead (s : State) (trail : List ℕ) (offset room n : ℕ) : Type 0 where
  pub file : File
  pub holds : FileHolds s file
  pub is_file : file.dir ≡ false
  pub number : 0 < length trail → file.named.number ≡ last trail
  pub count : n ≡ min room (file.first.size - offset)
