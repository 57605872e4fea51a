-- What one line does: which events it makes, and what answers it.
use Rattle.std.specs.Prelude.{◌≡◌, ℕ, List, [], length, Some, Option, None}
use Rattle.nine_wire.specs.declared.message.Request.{Request}
use Rattle.nine_wire.specs.declared.message.Reply.{Reply}
use Rattle.nine_wire.specs.Message.{request_message}
use Rattle.nine_wire.specs.Stands.{Stands}
use Rattle.fo_lines.specs.declared.line.Line.{Line}
use Rattle.fo_events.specs.Row.{Goes, Entry, Chain}
use Rattle.fo_script_line.specs.declared.answer.Answer.{Answer}
use Rattle.fo_script_line.specs.declared.turns.Next.TheVariants.{Says}
use Rattle.fo_script_line.specs.Sessions.{drops, Exchanges, limit_of, limits_after}
use Rattle.fo_script_line.specs.Turns.{leads, Unanswered}
use Rattle.fo_script_line.specs.declared.turns.Stage.{Stage}
use Rattle.fo_lines.specs.declared.line.Line.TheVariants as line
use Rattle.fo_script_line.specs.declared.answer.Answer.TheVariants as answer
use Rattle.fo_script_line.specs.declared.turns.Stage.TheVariants as stage

-- the most bytes of a line, its newline not counted
abbrev pub longest_line : ℕ
longest_line = 131200

-- where a script stands: the moment of its events, how many bytes each session allows a message, and where the server does
pub record Standing (S : Type 0) : Type 0 where
  pub now : ℕ
  pub limits : List ℕ
  pub state : S

-- what a session is sent is exactly one message, of no more bytes than it allows
abbrev pub MayTake : List ℕ → Line → Type 0
MayTake limits (line.Message session bytes) = (tag : ℕ) × (r : Request) × Stands (limit_of limits session) bytes tag (request_message r) (length bytes)
MayTake limits _ = Unit {0}

-- Which entries a line makes, and what answers it.
abbrev pub Makes : ℕ → List ℕ → Line → List Entry → Answer → Type 0
Makes now limits (line.Moment seconds) entries a = (entries ≡ []) × (a ≡ answer.Silent)
Makes now limits (line.Message session bytes) entries a = Exchanges session now (limit_of limits session) bytes entries a
Makes now limits (line.Drops session) entries a = (replies : List (Option Reply)) × (entries ≡ drops session now replies) × (a ≡ answer.Dropped session)
Makes now limits line.Flush entries a = leads stage.Flush entries ≡ Some (Says a)
Makes now limits line.Unlink entries a = leads stage.Unlink entries ≡ Some (Says a)
Makes now limits line.FlushAll entries a = leads stage.Flushing entries ≡ Some (Says a)
Makes now limits (line.Console text) entries a = (entries ≡ []) × (a ≡ answer.NotBuilt)
Makes now limits line.Archive entries a = (entries ≡ []) × (a ≡ answer.NotBuilt)
Makes now limits line.ArchiveAll entries a = (entries ≡ []) × (a ≡ answer.NotBuilt)

abbrev pub moment_after : ℕ → Line → ℕ
moment_after now (line.Moment seconds) = seconds
moment_after now _ = now

-- A line's entries, with this answer, lead from one standing to another.
pub record Does {S : Type 0} (goes : Goes S) (from : Standing S) (line : Line) (entries : List Entry) (a : Answer) (to : Standing S) : Type 0 where
  pub makes : Makes from.now from.limits line entries a
  pub chain : Chain goes from.state entries to.state
  pub now : to.now ≡ moment_after from.now line
  pub limits : to.limits ≡ limits_after from.limits entries

-- the turn that a line begins with, where it takes turns
abbrev pub first_turn : Line → Option Stage
first_turn line.Flush = Some stage.Flush
first_turn line.Unlink = Some stage.Unlink
first_turn line.FlushAll = Some stage.Flushing
first_turn _ = None

-- A line took as many turns as one may, and no answer came of them.
pub record IsSpent {S : Type 0} (goes : Goes S) (from : Standing S) (line : Line) (to : Standing S) : Type 0 where
  pub first : Stage
  pub takes : first_turn line ≡ Some first
  pub entries : List Entry
  pub unanswered : Unanswered first entries
  pub chain : Chain goes from.state entries to.state
  pub now : to.now ≡ from.now
