-- What is said of the system at a moment.
use Rattle.std.specs.Prelude.{◌^◌, ℕ, Bool, [], true}
use Rattle.fo_disk.specs.Disk.{DiskState}
use Rattle.fo_ending.specs.of_mind.Parts.{Parts}
use Rattle.fo_ports.specs.State.{State}
use Rattle.fo_starting.specs.of_devices.Seen.{Seen, DevicesKeep, state_of_devices}
use Rattle.fo_world.specs.World.{Faults}
use Rattle.nine_fids.specs.Looking.{FilesState}
use Rattle.nine_fids.specs.Told.{served}
use Rattle.nine_session.specs.Session.{Touches}
use Rattle.fo_sessions.specs.Sessions.{All}
use Rattle.fo_files.specs.of_files_along.Along.{HasRoom}
use Rattle.fo_files.specs.of_files_look.Told.{faults_of}
use Rattle.fo_files.specs.Kept.{Takes, untold}

-- The sessions; the cache over its device, with the arena beside it; what the main device tells, and how often it was called; and whether
-- the system is halted.
pub record Moment : Type 0 where
  pub sessions : All
  pub seen : Seen
  pub main : DiskState
  pub calls : ℕ
  pub halted : Bool

-- what calls on blocks see
abbrev pub blocks : Moment → State
blocks m = state_of_devices m.seen

-- how often each device failed
abbrev pub counts : Moment → Faults
counts m = faults_of (blocks m)

-- the cache, but for what its device holds and how often that failed
abbrev pub cache : Moment → Parts
cache m = record m.seen.cache { disk = []; faults = 0 }

-- The files answer for all views, have at most 2^40 bytes, and nothing is told of their world.
abbrev pub files : Moment → FilesState
files m = record { how = served true (2 ^ 40); world = untold; faults = counts m; honest = (blocks m).tells; has_room = HasRoom (blocks m) }

-- no more than so many blocks were taken
abbrev pub within : Moment → Moment → Touches
within old new world most = Takes most (DevicesKeep old.seen new.seen) (blocks old) (blocks new) old.halted new.halted
