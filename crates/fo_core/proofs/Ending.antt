-- What is given back at an end.
use Rattle.std.proofs.Common.{◌≡◌, ◌≢◌, ◌≤◌, ◌<◌, ℕ, [], length, Some, Result, Ok, Err, refl}
use Rattle.std.specs.Prelude.{IfErr, OnOk, MatchOption}
use Rattle.fo_base.specs.Cause.{Rose}
use Rattle.fo_disk.specs.Disk.{DiskState, IsQuiet, versions_of}
use Rattle.fo_disk.specs.Disk.{Content as Holds}
use Rattle.fo_disk.specs.declared.disk.DiskFault.TheVariants.{Read, Write, Sync}
use Rattle.fo_ending.specs.of_mind.declared.mind.Mind.{Mind}
use Rattle.fo_ending.specs.of_mind.MindParts.{parts}
use Rattle.fo_ending.specs.of_mind.Parts.{Parts, bytes_at}
use Rattle.fo_ports.specs.Causes.{Caused}
use Rattle.fo_ports.specs.declared.error.BlockError.{BlockError}
use Rattle.fo_ports.specs.declared.error.BlockError.TheVariants.{Full, Damaged, Fault, Arena, Memory}
use Rattle.fo_starting.specs.of_opening.Finished.{Finished}
use Rattle.fo_ending.specs.of_cache.Supers.{IsFault}
use Rattle.fo_ending.specs.Ended.{Ended}
use Rattle.fo_ending.specs.of_reserving.Steps.{ClosesAtRest}
use Rattle.fo_world.specs.World.{Faults}
use Rattle.fo_world.specs.declared.error.FileError.TheVariants as error
use Rattle.fo_events.specs.Row.{IsTurnFault}
use Rattle.fo_core.specs.Moment.{Moment, cache, counts}
use Rattle.fo_core.specs.Ended.{Ends, Gives, failure_of}

-- parts over a device have what that holds
pub over : (mind : Mind) (disk : Holds) (faults : ℕ) → (parts mind disk faults).disk ≡ disk
over mind disk faults = refl

never_wants : (r : Result Unit BlockError) → IfErr r IsFault → failure_of r ≢ Some error.Memory
never_wants (Ok u) f e = cc
never_wants (Err Full) f e = f
never_wants (Err (Damaged at)) f e = f
never_wants (Err (Fault Read)) f e = cc
never_wants (Err (Fault Write)) f e = cc
never_wants (Err (Fault Sync)) f e = cc
never_wants (Err (Arena which)) f e = f
never_wants (Err Memory) f e = f

-- what the end of the cache says of its bytes, and of how many versions blocks have
module _ (m : Moment) (main : DiskState) (last : Parts) (r : Result Unit BlockError)
    (end : OnOk r (Ended m.seen.cache last))
    (closes : ClosesAtRest m.seen.cache last)
    (bytes : (cache m).clears ≡ [] → (b : ℕ) → (cache m).region.first ≤ b → b < length m.main.holds → bytes_at last.held main.holds b ≡ bytes_at (cache m).held m.main.holds b) where
  ends_of : (now : Faults) (q : Result Unit BlockError)
      → OnOk q (Ended m.seen.cache last)
      → OnOk q (Finished (cache m).one main (record last { disk = []; faults = 0 }))
      → OnOk q (IsQuiet main.holds)
      → IfErr q (Caused ⊥ (λ b. ⊥) (Rose (counts m).main now.main) ⊥)
      → MatchOption (failure_of q) (Ends m main) (IsTurnFault (counts m) now)
  ends_of now (Ok u) ended finished quiet c = record { last = last; ended = ended; closes = closes; bytes = bytes; finished = finished; quiet = quiet }
  ends_of now (Err Full) ended finished quiet c = absurd c
  ends_of now (Err (Damaged at)) ended finished quiet c = absurd c
  ends_of now (Err (Fault Read)) ended finished quiet c = c
  ends_of now (Err (Fault Write)) ended finished quiet c = c
  ends_of now (Err (Fault Sync)) ended finished quiet c = c
  ends_of now (Err (Arena which)) ended finished quiet c = absurd c
  ends_of now (Err Memory) ended finished quiet c = tt

  pub gives : (size faults : ℕ)
      → OnOk r (Finished (cache m).one main (record last { disk = []; faults = 0 }))
      → OnOk r (IsQuiet main.holds)
      → IfErr r (Caused ⊥ (λ b. ⊥) (Rose (counts m).main faults) ⊥)
      → IfErr r IsFault
      → last.disk ≡ main.holds
      → size ≡ m.seen.size
      → length main.holds ≡ length m.main.holds
      → versions_of main.holds 0 ≡ versions_of m.main.holds 0
      → (counts m).main ≤ faults
      → Gives m (failure_of r) size main faults m.seen.stored m.seen.faults
  gives size faults finished quiet cause failed disk same count header later = record {
    ends = ends_of (record { main = faults; arena = m.seen.faults }) r end finished quiet cause;
    closes = (last, disk, closes);
    wants = never_wants r failed;
    same_size = same;
    count = count;
    header = header;
    later = later;
    stored_is = refl;
    arena_faults_is = refl;
  }
