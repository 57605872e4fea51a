-- The turns of the lines `f`, `u` and `F`: which one comes next, and which answer they come to.
use Rattle.std.specs.Prelude.{◌≡◌, ℕ, ◌^◌, List, length, Result, Ok, Err, Option, Some, None, MatchOption}
use Rattle.std.specs.List.{fold}
use Rattle.fo_events.specs.of_turning.declared.flush.Flushed.{Flushed}
use Rattle.fo_events.specs.of_turning.declared.flush.Flushed.TheVariants as flushed
use Rattle.fo_events.specs.of_turning.declared.unlink.Unlinked.{Unlinked}
use Rattle.fo_events.specs.of_turning.declared.unlink.Unlinked.TheVariants as unlinked
use Rattle.fo_world.specs.declared.error.FileError.{FileError}
use Rattle.fo_events.specs.Row.{Goes, Entry, Chain}
use Rattle.fo_events.specs.declared.event.Event.{Event}
use Rattle.fo_events.specs.declared.event.Event.TheVariants as event
use Rattle.fo_events.specs.declared.event.Outcome.{Outcome}
use Rattle.fo_events.specs.declared.event.Outcome.TheVariants as outcome
use Rattle.fo_lines.specs.declared.write.Flushed.TheVariants as flush_word
use Rattle.fo_lines.specs.declared.write.Unlinked.TheVariants as unlink_word
use Rattle.fo_script_line.specs.declared.answer.Answer.{Answer}
use Rattle.fo_script_line.specs.declared.answer.Answer.TheVariants as answer
use Rattle.fo_script_line.specs.declared.turns.Stage.{Stage}
use Rattle.fo_script_line.specs.declared.turns.Stage.TheVariants as stage
use Rattle.fo_script_line.specs.declared.turns.Next.{Next}
use Rattle.fo_script_line.specs.declared.turns.Next.TheVariants.{Turn, Says}
use Rattle.fo_script_line.specs.Number.{fault_number}
use Rattle.fo_script_line.specs.Says.{MaySay}

-- ---- what comes after one turn

-- `f`: a slot that was cleared has no word
abbrev pub after_flush : Result Flushed FileError → Next
after_flush (Ok (flushed.Wrote block)) = Says (answer.Flushed flush_word.Wrote)
after_flush (Ok flushed.Synced) = Says (answer.Flushed flush_word.Synced)
after_flush (Ok flushed.Cleared) = Turn stage.Flush
after_flush (Ok flushed.Idle) = Says (answer.Flushed flush_word.Idle)
after_flush (Err e) = Says (answer.Flushed (flush_word.Fault (fault_number e)))

-- `u`: a block that was passed over, and a removal that was given up, have no word
abbrev pub after_unlink : Result Unlinked FileError → Next
after_unlink (Ok (unlinked.Closed block)) = Says (answer.Unlinked unlink_word.Closed)
after_unlink (Ok (unlinked.Passed block)) = Turn stage.Unlink
after_unlink (Ok unlinked.GivenUp) = Turn stage.Unlink
after_unlink (Ok unlinked.Waits) = Says (answer.Unlinked unlink_word.Waits)
after_unlink (Ok unlinked.Empty) = Says (answer.Unlinked unlink_word.Empty)
after_unlink (Err e) = Says (answer.Unlinked (unlink_word.Fault (fault_number e)))

-- `F`: flushing turns until one is idle
abbrev pub after_flushing : Result Flushed FileError → Next
after_flushing (Ok flushed.Idle) = Turn stage.Unlinking
after_flushing (Ok f) = Turn stage.Flushing
after_flushing (Err e) = Says (answer.FlushedAll (Some (fault_number e)))

-- and then unlinking turns, until one finds nothing, or waits for flushing turns
abbrev pub after_unlinking : Result Unlinked FileError → Next
after_unlinking (Ok unlinked.Waits) = Turn stage.Flushing
after_unlinking (Ok unlinked.Empty) = Says (answer.FlushedAll None)
after_unlinking (Ok u) = Turn stage.Unlinking
after_unlinking (Err e) = Says (answer.FlushedAll (Some (fault_number e)))

-- no answer to turns is a message's reply
abbrev pub IsPlain : Next → Type 0
IsPlain (Turn next) = Unit {0}
IsPlain (Says a) = MaySay a

-- ---- what turns lead to

-- only the turn that comes next is one
abbrev pub next_of : Stage → Event → Outcome → Option Next
next_of stage.Flush event.Flush (outcome.Flushed r) = Some (after_flush r)
next_of stage.Unlink event.Unlink (outcome.Unlinked r) = Some (after_unlink r)
next_of stage.Flushing event.Flush (outcome.Flushed r) = Some (after_flushing r)
next_of stage.Unlinking event.Unlink (outcome.Unlinked r) = Some (after_unlinking r)
next_of _ _ _ = None

-- nothing comes after an answer
abbrev pub after : Option Next → Entry → Option Next
after (Some (Turn stage)) e = next_of stage e.event e.outcome
after _ e = None

-- what these turns lead to, one after another, where they are such
abbrev pub leads : Stage → List Entry → Option Next
leads first entries = fold after (Some (Turn first)) entries

-- the most turns that a line takes
abbrev pub most_turns : ℕ
most_turns = 2 ^ 62

-- So many turns were taken, and another would come next.
pub record Unanswered (first : Stage) (entries : List Entry) : Type 0 where
  pub next : Stage
  pub leads_on : leads first entries ≡ Some (Turn next)
  pub most : length entries ≡ most_turns

-- One turn leads from here to there.
pub record TakesTurn {S : Type 0} (goes : Goes S) (first : Stage) (from to : S) (next : Next) : Type 0 where
  pub event : Event
  pub outcome : Outcome
  pub went : goes from event outcome to
  pub leads : next_of first event outcome ≡ Some next

-- Turns lead from here to there, and to the answer.
pub record TakesTurns {S : Type 0} (goes : Goes S) (first : Stage) (from to : S) (result : Option Answer) : Type 0 where
  pub entries : List Entry
  pub chain : Chain goes from entries to
  pub comes_to : MatchOption result (Unanswered first entries) (λ a. leads first entries ≡ Some (Says a))
