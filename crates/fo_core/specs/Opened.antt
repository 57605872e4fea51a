-- How a system begins.
use Rattle.std.specs.Prelude.{◌≡◌, false}
use Rattle.fo_disk.specs.Disk.{DiskState}
use Rattle.fo_sessions.specs.Sessions.{no_sessions}
use Rattle.fo_starting.specs.Begins.{Begins}
use Rattle.fo_core.specs.Moment.{Moment}

-- No session has a message yet; the cache has what was read of the main device, and nothing is dirty or queued; the arena has what it told;
-- and the system isn't halted.
pub record IsOpened (main stored : DiskState) (m : Moment) : Type 0 where
  pub sessions : m.sessions ≡ no_sessions
  pub begins : Begins main stored m.main m.seen
  pub halted : m.halted ≡ false
