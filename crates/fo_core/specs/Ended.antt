-- How a system ends.
use Rattle.std.specs.Prelude.{◌≡◌, ◌≢◌, ◌<◌, ◌≤◌, ℕ, [], length, Option, Some, None, MatchOption, Result, Ok, Err}
use Rattle.fo_disk.specs.Disk.{DiskState, IsQuiet, versions_of}
use Rattle.fo_ending.specs.of_mind.Parts.{Parts, bytes_at}
use Rattle.fo_ports.specs.declared.error.BlockError.{BlockError}
use Rattle.fo_starting.specs.of_opening.Finished.{Finished}
use Rattle.fo_ending.specs.Ended.{Ended}
use Rattle.fo_ending.specs.of_reserving.Steps.{ClosesAtRest}
use Rattle.fo_world.specs.declared.error.FileError.{FileError}
use Rattle.fo_world.specs.declared.error.FileError.TheVariants as error
use Rattle.fo_files.specs.of_files_look.Told.{file_error}
use Rattle.fo_events.specs.Row.{IsTurnFault}
use Rattle.fo_core.specs.Moment.{Moment, cache, counts}

-- why an end failed, if it did
abbrev pub failure_of : Result Unit BlockError → Option FileError
failure_of (Ok u) = None
failure_of (Err e) = Some (file_error e)

-- All was settled, what was queued was closed, and that was settled: no removal is queued (`Ended`). The super block says the next file
-- number: as far as the device tells, it has what memory had at last, alone. Each data block has the bytes that memory had before, but
-- where a slot waited to be cleared. Until then slots were cleared only that waited for settled leaves, and labels changed only by turns of
-- closing at rest. Each block has one version: the device may be opened again.
pub record Ends (m : Moment) (main : DiskState) : Type 0 where
  pub last : Parts
  pub ended : Ended m.seen.cache last
  pub closes : ClosesAtRest m.seen.cache last
  pub bytes : (cache m).clears ≡ [] → (b : ℕ) → (cache m).region.first ≤ b → b < length m.main.holds → bytes_at last.held main.holds b ≡ bytes_at (cache m).held m.main.holds b
  pub finished : Finished (cache m).one main (record last { disk = []; faults = 0 })
  pub quiet : IsQuiet main.holds

-- What is given back: of the main device its size, what it tells and how often it failed, and the same of the arena. An end fails by a
-- fault of the main device whose count rose in it, and never for want of memory. Whatever it answers, slots were cleared only that waited
-- for settled leaves, and labels changed only by turns of closing at rest. The arena and block 0 of the main device are as they were.
pub record Gives (m : Moment) (failed : Option FileError) (size : ℕ) (main : DiskState) (faults : ℕ) (stored : DiskState) (arena_faults : ℕ) : Type 0 where
  pub ends : MatchOption failed (Ends m main) (IsTurnFault (counts m) (record { main = faults; arena = arena_faults }))
  pub closes : (last : Parts) × (last.disk ≡ main.holds) × ClosesAtRest m.seen.cache last
  pub wants : failed ≢ Some error.Memory
  pub same_size : size ≡ m.seen.size
  pub count : length main.holds ≡ length m.main.holds
  pub header : versions_of main.holds 0 ≡ versions_of m.main.holds 0
  pub later : (counts m).main ≤ faults
  pub stored_is : stored ≡ m.seen.stored
  pub arena_faults_is : arena_faults ≡ (counts m).arena
