-- How a script ends, what was put out until then, and where the server stands.
use Rattle.std.specs.Prelude.{◌≡◌, ◌⊎◌, ◌≤◌, ℕ, ◌+◌, List, [], ◌++◌, length, take, None, Some, Option, ◌∷◌}
use Rattle.fo_links.specs.Links.{LosesFront, GainsEnd}
use Rattle.fo_lines.specs.declared.line.Line.{Line}
use Rattle.fo_script_line.specs.of_events.Row.{Goes}
use Rattle.fo_script.specs.declared.end.ScriptEnd.{ScriptEnd}
use Rattle.fo_script_line.specs.Says.{said}
use Rattle.fo_script_line.specs.Sessions.{AllLetGo}
use Rattle.fo_script_line.specs.Line.{Standing, MayTake, longest_line, IsSpent}
use Rattle.fo_script.specs.Script.{IsLine, Step, Answers, Runs, output, line_end}
use Rattle.fo_script_line.specs.declared.line.Stop.{Stop}
use Rattle.fo_script.specs.declared.end.ScriptEnd.TheVariants as end
use Rattle.fo_script_line.specs.declared.line.Stop.TheVariants as stop

-- ---- bytes at which a script stops

-- There are bytes, and no line that may be taken stands at their front: it is longer than any, the bytes end inside it, it is none of
-- the lines, or what it sends a session is not one message that the session allows.
pub record IsBad (limits : List ℕ) (bytes : List ℕ) : Type 0 where
  pub some : bytes ≡ [] → ⊥
  pub none : (line : Line) (n : ℕ) → IsLine bytes line n → MayTake limits line → ⊥

-- there may be more to a line
pub record IsPart (bytes : List ℕ) : Type 0 where
  pub none : line_end bytes ≡ None
  pub short : length bytes ≤ longest_line

-- ---- the ends

-- A script on these bytes: its lines with what each did, and the bytes behind them.
pub record Script {S : Type 0} (goes : Goes S) (first : Standing S) (bytes : List ℕ) (last : Standing S) : Type 0 where
  pub steps : List Step
  pub rest : List ℕ
  pub runs : Runs goes first bytes steps rest last

-- All bytes were read, and each line was answered.
pub record EndsWhole {S : Type 0} (goes : Goes S) (first : Standing S) (bytes : List ℕ) (left' held held' : Option (List ℕ)) (last : Standing S) : Type 0 where
  pub script : Script goes first bytes last
  pub whole : script.rest ≡ []
  pub read : left' ≡ Some []
  pub told : GainsEnd (output script.steps) held held'

-- All lines before place n were answered, and what stands there is none. Of what stands there some bytes were taken, and the others are
-- left in the source.
pub record EndsBad {S : Type 0} (goes : Goes S) (first : Standing S) (bytes : List ℕ) (left' held held' : Option (List ℕ)) (last : Standing S) (n : ℕ) : Type 0 where
  pub script : Script goes first bytes last
  pub bad : IsBad last.limits script.rest
  pub place : n + length script.rest ≡ length bytes
  pub taken : List ℕ
  pub lost : LosesFront taken (Some script.rest) left'
  pub told : GainsEnd (output script.steps) held held'

-- All lines that were taken from the source were answered.
pub record EndsUnread {S : Type 0} (goes : Goes S) (first : Standing S) (bytes : List ℕ) (left' held held' : Option (List ℕ)) (last : Standing S) : Type 0 where
  pub taken : List ℕ
  pub lost : LosesFront taken (Some bytes) left'
  pub script : Script goes first taken last
  pub part : IsPart script.rest
  pub told : GainsEnd (output script.steps) held held'

-- Lines were answered, and of the answer to the next one a front was put.
pub record EndsUnsaid {S : Type 0} (goes : Goes S) (first : Standing S) (bytes : List ℕ) (held held' : Option (List ℕ)) (last : Standing S) : Type 0 where
  pub before : Standing S
  pub script : Script goes first bytes before
  pub next : Step
  pub answers : Answers goes before script.rest next last
  pub put : ℕ
  pub told : GainsEnd (output script.steps ++ take put (said next.answer)) held held'

-- Lines were answered, and it may be that the next one was too, and nothing of its answer was put.
pub record EndsEarly {S : Type 0} (goes : Goes S) (first : Standing S) (bytes : List ℕ) (held held' : Option (List ℕ)) (last : Standing S) : Type 0 where
  pub before : Standing S
  pub script : Script goes first bytes before
  pub next : (last ≡ before) ⊎ ((x : Step) × Answers goes before script.rest x last)
  pub told : GainsEnd (output script.steps) held held'

-- Lines were answered, and the next one took as many turns as one may.
pub record EndsSpent {S : Type 0} (goes : Goes S) (first : Standing S) (bytes : List ℕ) (held held' : Option (List ℕ)) (last : Standing S) : Type 0 where
  pub before : Standing S
  pub script : Script goes first bytes before
  pub line : Line
  pub len : ℕ
  pub is_line : IsLine script.rest line len
  pub spent : IsSpent goes before line last
  pub told : GainsEnd (output script.steps) held held'

-- What was put out for these bytes, and where the script stands at its last line, by how it ended.
abbrev pub Stops : {S : Type 0} → Goes S → Standing S → List ℕ → Option (List ℕ) → Option (List ℕ) → Option (List ℕ) → Standing S → ScriptEnd → Type 0
Stops goes first bytes left' held held' last end.End = EndsWhole goes first bytes left' held held' last
Stops goes first bytes left' held held' last (end.BadLine n) = EndsBad goes first bytes left' held held' last n
Stops goes first bytes left' held held' last end.ReadFault = EndsUnread goes first bytes left' held held' last
Stops goes first bytes left' held held' last end.WriteFault = EndsUnsaid goes first bytes held held' last
Stops goes first bytes left' held held' last end.Memory = EndsEarly goes first bytes held held' last
Stops goes first bytes left' held held' last end.Spent = EndsSpent goes first bytes held held' last

-- What was put out for these bytes, by how the script ended. After it all fids of the sixteen sessions are let go at the last moment,
-- which leads to where the server stands at last.
pub record Ends {S : Type 0} (goes : Goes S) (first : Standing S) (bytes : List ℕ) (left' held held' : Option (List ℕ)) (to : S) (how : ScriptEnd) : Type 0 where
  pub last : Standing S
  pub stops : Stops goes first bytes left' held held' last how
  pub gone : AllLetGo goes last.now 16 last.state to

-- ---- where the loop stops

-- the end of a script whose line at this place was not answered
abbrev pub end_of : Stop → ℕ → ScriptEnd
end_of stop.Bad place = end.BadLine place
end_of stop.Memory place = end.Memory
end_of stop.Spent place = end.Spent
end_of stop.Output place = end.WriteFault

-- the end where the input ended and these bytes wait behind so many
abbrev pub end_at : List ℕ → ℕ → ScriptEnd
end_at [] place = end.End
end_at (b ∷ bytes) place = end.BadLine place
