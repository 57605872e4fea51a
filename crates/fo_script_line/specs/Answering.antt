-- What answering one line does.
use Rattle.std.specs.Prelude.{◌≡◌, ◌⊎◌, ◌≤◌, ℕ, List, [], ◌∷◌, ◌++◌, length, take, Option, Some, Result, Ok, Err}
use Rattle.nine_wire.specs.declared.message.Request.{Request}
use Rattle.nine_wire.specs.declared.message.Reply.{Reply}
use Rattle.nine_wire.specs.Message.{ReplyFits}
use Rattle.fo_links.specs.Links.{GainsEnd}
use Rattle.fo_lines.specs.declared.line.Line.{Line}
use Rattle.fo_lines.specs.Line.{Spells}
use Rattle.fo_events.specs.Row.{Goes, Entry, Chain}
use Rattle.fo_script_line.specs.declared.answer.Answer.{Answer}
use Rattle.fo_script_line.specs.declared.line.Kept.{Kept}
use Rattle.fo_script_line.specs.declared.line.Stop.{Stop}
use Rattle.fo_script_line.specs.declared.turns.Next.TheVariants.{Says}
use Rattle.fo_script_line.specs.declared.turns.Stage.{Stage}
use Rattle.fo_script_line.specs.Says.{said, MaySay}
use Rattle.fo_script_line.specs.Sessions.{Before, asked, limits_after}
use Rattle.fo_script_line.specs.Turns.{Unanswered, leads}
use Rattle.fo_script_line.specs.Line.{Standing, MayTake, Does, longest_line, IsSpent}
use Rattle.fo_script_line.specs.declared.answer.Answer.TheVariants as answer
use Rattle.fo_script_line.specs.declared.line.Stop.TheVariants as stop

-- what a script keeps, with the server
abbrev pub standing : {S : Type 0} → Kept → S → Standing S
standing kept state = record { now = kept.moment; limits = kept.limits; state = state }

-- ---- a line that was read

pub record Done {S : Type 0} (goes : Goes S) (from : Standing S) (line : Line) (to : Standing S) (a : Answer) : Type 0 where
  pub entries : List Entry
  pub does : Does goes from line entries a to
  pub fits : MaySay a

pub record Refused {S : Type 0} (from : Standing S) (line : Line) (to : Standing S) : Type 0 where
  pub stays : to ≡ from
  pub none : MayTake from.limits line → ⊥

-- The line was done, or nothing happened, or no answer came of its turns.
abbrev pub Takes : {S : Type 0} → Goes S → Standing S → Line → Standing S → Result Answer Stop → Type 0
Takes goes from line to (Ok a) = Done goes from line to a
Takes goes from line to (Err stop.Bad) = Refused from line to
Takes goes from line to (Err stop.Memory) = to ≡ from
Takes goes from line to (Err stop.Spent) = IsSpent goes from line to
Takes goes from line to (Err stop.Output) = ⊥

-- A request was answered, and the limits are those after it.
pub record Sends {S : Type 0} (goes : Goes S) (session tag : ℕ) (r : Request) (from to : Standing S) (a : Answer) : Type 0 where
  pub before : List Entry
  pub reply : Reply
  pub cleared : Before session from.now r before
  pub chain : Chain goes from.state (before ++ asked session from.now r reply ∷ []) to.state
  pub now : to.now ≡ from.now
  pub limits : to.limits ≡ limits_after from.limits (before ++ asked session from.now r reply ∷ [])
  pub answer_is : a ≡ answer.Replied session tag reply
  pub fits : ReplyFits reply

-- Turns came to the answer, or to none.
abbrev pub Turned : {S : Type 0} → Goes S → Stage → S → S → Result Answer Stop → Type 0
Turned goes first from to (Ok a) = ((entries : List Entry) × Chain goes from entries to × (leads first entries ≡ Some (Says a))) × MaySay a
Turned goes first from to (Err stop.Spent) = (entries : List Entry) × Chain goes from entries to × Unanswered first entries
Turned goes first from to (Err _) = ⊥

-- ---- an answer that is put out

-- The answer was put, or a front of it where the sink failed.
abbrev pub Put : Option (List ℕ) → Option (List ℕ) → List ℕ → Result (Unit {0}) Stop → Type 0
Put held held' bytes (Ok u) = GainsEnd bytes held held'
Put held held' bytes (Err stop.Output) = (n : ℕ) × GainsEnd (take n bytes) held held'
Put held held' bytes (Err stop.Memory) = held' ≡ held
Put held held' bytes (Err _) = ⊥

-- ---- a line by its bytes

-- They spell this line, and it was done with this answer.
pub record DidLine {S : Type 0} (goes : Goes S) (from : Standing S) (text : List ℕ) (to : Standing S) : Type 0 where
  pub short : length text ≤ longest_line
  pub line : Line
  pub spells : Spells line text
  pub entries : List Entry
  pub answer : Answer
  pub does : Does goes from line entries answer to

-- They spell no line that may be taken, and nothing happened.
pub record NoLine {S : Type 0} (from : Standing S) (text : List ℕ) (to : Standing S) (held held' : Option (List ℕ)) : Type 0 where
  pub stays : to ≡ from
  pub silent : held' ≡ held
  pub none : length text ≤ longest_line → (line : Line) → Spells line text → MayTake from.limits line → ⊥

-- They spell this line, and no answer came of its turns.
pub record SpentLine {S : Type 0} (goes : Goes S) (from : Standing S) (text : List ℕ) (to : Standing S) (held held' : Option (List ℕ)) : Type 0 where
  pub short : length text ≤ longest_line
  pub silent : held' ≡ held
  pub line : Line
  pub spells : Spells line text
  pub spent : IsSpent goes from line to

abbrev pub Answered : {S : Type 0} → Goes S → Standing S → List ℕ → Standing S → Option (List ℕ) → Option (List ℕ) → Result (Unit {0}) Stop → Type 0
Answered goes from text to held held' (Ok u) = (d : DidLine goes from text to) × GainsEnd (said d.answer) held held'
Answered goes from text to held held' (Err stop.Bad) = NoLine from text to held held'
Answered goes from text to held held' (Err stop.Memory) = (held' ≡ held) × ((to ≡ from) ⊎ DidLine goes from text to)
Answered goes from text to held held' (Err stop.Spent) = SpentLine goes from text to held held'
Answered goes from text to held held' (Err stop.Output) = (d : DidLine goes from text to) × (n : ℕ) × GainsEnd (take n (said d.answer)) held held'
