-- Why a file is not made.
use Rattle.std.specs.Prelude.{◌≡◌, ◌⊎◌, ◌*◌, ◌^◌, ◌<◌, ◌≤◌, ℕ, Bool, true, false, List, length}
use Rattle.fo_image.specs.declared.record.Record.{Record}
use Rattle.fo_image.specs.Record.{RecordHolds}
use Rattle.fo_ports.specs.State.{State}
use Rattle.fo_world.specs.declared.error.FileError.{FileError}
use Rattle.fo_world.specs.declared.error.FileError.TheVariants as error
use Rattle.fo_world.specs.declared.place.Place.{Place}
use Rattle.fo_world.specs.Step.{is_active, is_dir_mode}
use Rattle.fo_dir_read.specs.Names.{leaf_count}
use Rattle.fo_files_along.specs.of_files_at.declared.at.Way.{Way}
use Rattle.fo_files_along.specs.of_files_at.declared.file.File.{File}
use Rattle.fo_files_along.specs.of_files_at.Way.{IsWay}

-- A file with this mode may be made at a place: in the active tree, where the system isn't halted, and a directory at a depth up to 64.
pub record MayMake (at : Place) (mode : ℕ) (halted : Bool) : Type 0 where
  pub active : is_active at.view ≡ true
  pub running : halted ≡ false
  pub shallow : is_dir_mode mode ≡ true → length at.trail < 64

-- why it may not, where the tree is the active one
abbrev pub IsLimit : (at : Place) (mode : ℕ) (halted : Bool) → FileError → Type 0
IsLimit at mode halted e = ((e ≡ error.Halted) × (halted ≡ true)) ⊎ ((e ≡ error.TooDeep) × (halted ≡ false) × (is_dir_mode mode ≡ true) × (64 ≤ length at.trail))

-- A file was found at the end of a trail, which is a directory or none.
pub record IsAt (s : State) (root : ℕ) (trail : List ℕ) (dir : Bool) (file : File) : Type 0 where
  pub way : Way
  pub found : IsWay s root trail way
  pub file_is : way.file ≡ file
  pub kind : file.dir ≡ dir

-- No directory was found at the end of a trail; a directory with a record of a name; one with leaves for 2^20 records.
abbrev pub IsNoDir : {B : Type 0} (state : B → State) (root : ℕ) (trail : List ℕ) → Type 0
IsNoDir {B} state root trail = (m : B) × ((file : File) × IsAt (state m) root trail false file)

abbrev pub Bears : {B : Type 0} (state : B → State) (root : ℕ) (trail name : List ℕ) → Type 0
Bears {B} state root trail name = (m : B) × ((file : File) × (r : Record) × IsAt (state m) root trail true file × RecordHolds r × (r.name ≡ name))

abbrev pub IsMost : {B : Type 0} (state : B → State) (root : ℕ) (trail : List ℕ) → Type 0
IsMost {B} state root trail = (m : B) × ((file : File) × IsAt (state m) root trail true file × (2 ^ 20 ≤ 240 * leaf_count file.second.size))

-- Why a file of a name isn't made in the directory at a place where no device is to blame, in the order in which it is tested; `numbers` is so
-- where no file number is left, and `room` where the file system is full. A place that is gone, want of memory, faults and damage have their
-- causes elsewhere.
abbrev pub IsRefused : {B : Type 0} (state : B → State) (root : ℕ) (at : Place) (name : List ℕ) (mode : ℕ) (halted : Bool) (numbers room : Type 0) → FileError → Type 0
IsRefused state root at name mode halted numbers room error.NotDir = IsNoDir state root at.trail
IsRefused state root at name mode halted numbers room error.ReadOnly = is_active at.view ≡ false
IsRefused state root at name mode halted numbers room error.Exists = (is_active at.view ≡ true) × Bears state root at.trail name
IsRefused state root at name mode halted numbers room error.Halted = (is_active at.view ≡ true) × (halted ≡ true)
IsRefused state root at name mode halted numbers room error.TooDeep = (is_active at.view ≡ true) × (halted ≡ false) × (is_dir_mode mode ≡ true) × (64 ≤ length at.trail)
IsRefused state root at name mode halted numbers room error.DirFull = MayMake at mode halted × IsMost state root at.trail
IsRefused state root at name mode halted numbers room error.NoNumbers = MayMake at mode halted × numbers
IsRefused state root at name mode halted numbers room error.Full = MayMake at mode halted × room
IsRefused state root at name mode halted numbers room error.TooBig = ⊥
IsRefused state root at name mode halted numbers room error.Absent = ⊥
IsRefused state root at name mode halted numbers room error.NotEmpty = ⊥
IsRefused state root at name mode halted numbers room error.IsDir = ⊥
IsRefused state root at name mode halted numbers room _ = Unit {0}
