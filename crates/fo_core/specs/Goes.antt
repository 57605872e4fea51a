-- What may become of an event, and what it leaves.
use Rattle.std.specs.Prelude.{◌≡◌, ◌≢◌, ◌↔◌, ◌⊎◌, ◌*◌, ◌≤◌, ℕ, List, [], length, Bool, Option, Some, None, Result, Ok, Err, IfOk, IfErr, OnErr, MatchResult}
use Rattle.std.specs.List.{Contains}
use Rattle.fo_unlink.specs.Pending.{Pending}
use Rattle.fo_ports.specs.Sources.{IsRested}
use Rattle.fo_ports.specs.State.{Looks}
use Rattle.fo_starting.specs.of_settling.Costs.{Costs}
use Rattle.fo_ending.specs.of_closing.Rest.{AtRest}
use Rattle.fo_events.specs.of_turning.declared.flush.Flushed.{Flushed}
use Rattle.fo_events.specs.of_turning.declared.flush.Flushed.TheVariants.{Idle}
use Rattle.fo_events.specs.of_turning.declared.unlink.Unlinked.{Unlinked}
use Rattle.fo_events.specs.of_turning.declared.unlink.Unlinked.TheVariants.{Empty, Waits}
use Rattle.fo_events.specs.of_turning.Flushes.{AtIdle, Does, Misses}
use Rattle.fo_events.specs.of_turning.Freed.{Yields}
use Rattle.fo_events.specs.of_turning.Unlinks.{Unlinks}
use Rattle.fo_ending.specs.of_cache.Easing.{Eases}
use Rattle.fo_world.specs.Answers.{NotFewer}
use Rattle.fo_world.specs.declared.error.FileError.{FileError}
use Rattle.nine_wire.specs.Message.{ReplyFits}
use Rattle.nine_wire.specs.declared.message.Request.{Request}
use Rattle.nine_wire.specs.declared.message.Reply.{Reply}
use Rattle.nine_wire.specs.declared.message.Reply.TheVariants as reply
use Rattle.nine_fids.specs.declared.fid.Fid.{Fid}
use Rattle.nine_fids.specs.Fids.{least}
use Rattle.nine_files.specs.Removing.{most_close}
use Rattle.nine_session.specs.Session.{AgreesWithin, AsksSync, Drops, Serves, in_files, most_of}
use Rattle.fo_sessions.specs.Sessions.{OthersStay, kept_at, session_at}
use Rattle.fo_files.specs.Kept.{AllSettled, untold}
use Rattle.fo_events.specs.declared.event.Event.{Event}
use Rattle.fo_events.specs.declared.event.Event.TheVariants.{Asked, Drop, Flush, Unlink}
use Rattle.fo_events.specs.declared.event.Outcome.{Outcome}
use Rattle.fo_events.specs.declared.event.Outcome.TheVariants as outcome
use Rattle.fo_events.specs.Row.{IsTurnFault}
use Rattle.fo_ports.specs.declared.error.BlockError.{BlockError}
use Rattle.fo_files.specs.of_files_look.Told.{file_error}
use Rattle.fo_core.specs.Moment.{Moment, blocks, cache, counts, files, within}

-- ---- requests

-- Beside blocks of which a slot that waited was cleared, and blocks with the label of one that was closed, at most so many are to be written now
-- that weren't. Where nothing was settled or closed on the way these are all.
pub record LeavesDirty (most : ℕ) (old new : Moment) : Type 0 where
  pub more : List ℕ
  pub few : length more ≤ most
  pub each : (b : ℕ) → (blocks new).dirty b → (blocks old).dirty b ⊎ (Contains more b ⊎ IsRested (blocks old) (blocks new) b)

-- At a moment in between the device had only been looked at, and from there on it was called as one settling calls it: for writes and
-- syncs alone, at most four for each block that had to be written or of which a slot waited, and four more (`Costs`).
pub record SettledFrom (old new : Moment) : Type 0 where
  pub mid : Moment
  pub looks : Looks (blocks old) (blocks mid)
  pub costs : Costs mid.main new.main mid.calls new.calls (cache mid)

-- What a session replies: over any devices an answer of the request's kind, or a refusal with its cause in this event; no other session
-- changes, at most the request's blocks are taken, at most twice as many are left to be written beside what settling left, and a settling that is
-- asked for has settled all, by looking and one settling.
pub record Answered (old : Moment) (session now : ℕ) (q : Request) (r : Reply) (new : Moment) : Type 0 where
  pub serves : Serves (files old) (files new) (within old new) (kept_at session old.sessions) now q r (kept_at session new.sessions)
  pub others : OthersStay session old.sessions new.sessions
  pub fits : ReplyFits r
  pub small : AgreesWithin r
  pub settled : AsksSync q → r ≡ reply.Wstat → AllSettled (blocks new)
  pub settles : AsksSync q → Looks (blocks old) (blocks new) ⊎ SettledFrom old new
  pub dirty : LeavesDirty (2 * most_of (in_files (kept_at session old.sessions) untold) q) old new
  pub later : NotFewer (counts old) (counts new)

-- the most blocks that the end of a fid may need, where there is one
abbrev pub most_let_go : Option Fid → ℕ
most_let_go None = 0
most_let_go (Some f) = most_close f

-- what becomes of the least fid
pub record Dropped (old : Moment) (session now : ℕ) (more : Bool) (r : Option Reply) (new : Moment) : Type 0 where
  pub drops : Drops (files old) (files new) (within old new) (kept_at session old.sessions) now (least (session_at session old.sessions).fids) more r (kept_at session new.sessions)
  pub others : OthersStay session old.sessions new.sessions
  pub dirty : LeavesDirty (2 * most_let_go (least (session_at session old.sessions).fids)) old new
  pub later : NotFewer (counts old) (counts new)

-- ---- turns

-- what is told of a turn
abbrev pub told_of : {X : Type 0} → Result X BlockError → Result X FileError
told_of (Ok x) = Ok x
told_of (Err e) = Err (file_error e)

-- Sessions and the arena stay, and whether the system is halted; the main device's count doesn't fall.
pub record Aside (old new : Moment) : Type 0 where
  pub sessions : new.sessions ≡ old.sessions
  pub shelf : new.seen.shelf ≡ old.seen.shelf
  pub stored : new.seen.stored ≡ old.seen.stored
  pub arena_faults : new.seen.faults ≡ old.seen.faults
  pub size : new.seen.size ≡ old.seen.size
  pub halted : new.halted ≡ old.halted
  pub later : (counts old).main ≤ (counts new).main

-- A flushing turn does what it answers; idle is answered exactly where nothing is to be done, and then nothing changes.
pub record FlushedBy (old : Moment) (r : Result Flushed FileError) (new : Moment) : Type 0 where
  pub does : IfOk r (λ f. Does f old.main new.main (cache old) (cache new))
  pub idle : (r ≡ Ok Idle) ↔ AtIdle (cache old)
  pub still : AtIdle (cache old) → cache new ≡ cache old
  pub eases : Eases old.seen.cache new.seen.cache
  pub misses : OnErr r (Misses (cache old) (cache new))
  pub cause : IfErr r (IsTurnFault (counts old) (counts new))
  pub aside : Aside old new

-- An unlinking turn does what it answers: it closes one block, or passes one over; nothing before all is flushed.
pub record UnlinkedBy (old : Moment) (r : Result Unlinked FileError) (new : Moment) : Type 0 where
  pub unlinks : IfOk r (λ u. (queue : Pending) × Unlinks old.main.holds u old.seen.cache new.seen.cache queue)
  pub empty : (r ≡ Ok Empty) ↔ ((cache old).removals ≡ [])
  pub waits : (r ≡ Ok Waits) ↔ (((cache old).removals ≢ []) × (AtIdle (cache old) → ⊥))
  pub yields : Yields old.seen.cache new.seen.cache
  pub rest : MatchResult r (λ u. u ≢ Waits → u ≢ Empty → AtRest (cache new)) (λ e. AtRest (cache new))
  pub labels : OnErr r ((cache new).region ≡ (cache old).region)
  pub removals : OnErr r ((cache new).removals ≡ (cache old).removals)
  pub unwritten : new.main ≡ old.main
  pub cause : IfErr r (IsTurnFault (counts old) (counts new))
  pub aside : Aside old new

-- ---- all events

-- Each event has an outcome of its kind. The counts of the moment before it and of the one after it are those of the event: an event's
-- moment before is that which the one before it left, so counts make one chain.
abbrev pub Goes : Moment → Event → Outcome → Moment → Type 0
Goes old (Asked session now q) (outcome.Replied r) new = Answered old session now q r new
Goes old (Drop session now) (outcome.LetGo more r) new = Dropped old session now more r new
Goes old Flush (outcome.Flushed r) new = FlushedBy old r new
Goes old Unlink (outcome.Unlinked r) new = UnlinkedBy old r new
Goes old _ _ new = ⊥
