-- A script: which events its lines make, and how each is answered. It speaks of lists alone, and not of buffers and pieces.
use Rattle.std.specs.Prelude.{◌≡◌, ◌≤◌, ◌==◌, ℕ, suc, List, [], ◌∷◌, take, drop, replicate, position, Some, Option}
use Rattle.std.specs.List.{flat_map}
use Rattle.nine_wire.specs.Version.{largest_message}
use Rattle.fo_lines.specs.declared.line.Line.{Line}
use Rattle.fo_lines.specs.Line.{Spells}
use Rattle.fo_script_line.specs.of_events.Row.{Goes, Entry}
use Rattle.fo_script_line.specs.declared.answer.Answer.{Answer}
use Rattle.fo_script_line.specs.Says.{said}
use Rattle.fo_script_line.specs.Line.{Standing, Does, longest_line}

-- ---- lines of the input

-- where the first newline is
abbrev pub line_end : List ℕ → Option ℕ
line_end bytes = position (λ b. b == 10) bytes

-- The first n bytes spell this line, and a newline ends it.
pub record IsLine (bytes : List ℕ) (line : Line) (n : ℕ) : Type 0 where
  pub ends : line_end bytes ≡ Some n
  pub short : n ≤ longest_line
  pub spells : Spells line (take n bytes)

-- ---- what one line does

abbrev pub starts : {S : Type 0} → S → Standing S
starts state = record { now = 0; limits = replicate 16 largest_message; state = state }

-- ---- lines one after another

-- a line of so many bytes, with its entries and its answer
pub record Step : Type 0 where
  pub line : Line
  pub len : ℕ
  pub entries : List Entry
  pub answer : Answer

-- the answers, one after another
abbrev pub output : List Step → List ℕ
output steps = flat_map (λ (x : Step). said x.answer) steps

-- A line stands at the front of the bytes, and its entries lead from one standing to another.
pub record Answers {S : Type 0} (goes : Goes S) (from : Standing S) (bytes : List ℕ) (x : Step) (to : Standing S) : Type 0 where
  pub is_line : IsLine bytes x.line x.len
  pub does : Does goes from x.line x.entries x.answer to

-- The lines of the bytes are answered one after another, as far as these steps go, and `rest` are the bytes behind them.
unfoldable pub Runs : {S : Type 0} → Goes S → Standing S → List ℕ → List Step → List ℕ → Standing S → Type 0
Runs goes from bytes [] rest to = (rest ≡ bytes) × (to ≡ from)
Runs {S} goes from bytes (x ∷ xs) rest to =
    (mid : Standing S) × Answers goes from bytes x mid × Runs goes mid (drop (suc x.len) bytes) xs rest to
