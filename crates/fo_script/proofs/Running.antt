-- How a script goes on.
use Rattle.std.proofs.Common.{◌≡◌, ℕ, ◌≤◌, suc, List, [], ◌∷◌, ◌++◌, length, take, drop, Some, refl, sym, ap, ◌∙◌, append_assoc, arith}
use Rattle.std.proofs.lemmas.List.{append-nil, drop-append-le}
use Rattle.fo_script_line.specs.of_events.Row.{Goes}
use Rattle.fo_script_line.specs.Says.{said}
use Rattle.fo_script_line.specs.Line.{Standing}
use Rattle.fo_script.specs.Script.{Step, Answers, Runs, output, line_end}
use Rattle.fo_script_line.specs.Answering.{DidLine}
use Rattle.fo_script.proofs.Newlines.{end_within, line_more, line_length}

pub runs_more : {S : Type 0} (goes : Goes S) (from to : Standing S) (bytes rest more : List ℕ) (xs : List Step) → Runs goes from bytes xs rest to → Runs goes from (bytes ++ more) xs (rest ++ more) to
unfolding Runs
runs_more goes from to bytes rest more [] t = (ap (λ (b : List ℕ). b ++ more) t.0, t.1)
runs_more goes from to bytes rest more (x ∷ xs) t =
    let a = t.1 in
    let within : suc x.len ≤ length bytes = end_within bytes x.len a.is_line.ends in
    let same : drop (suc x.len) (bytes ++ more) ≡ drop (suc x.len) bytes ++ more = drop-append-le (suc x.len) bytes more within in (
      t.0,
      record { is_line = line_more bytes more x.line x.len a.is_line; does = a.does },
      rw same (runs_more goes t.0 to (drop (suc x.len) bytes) rest more xs t.2),
    )

pub runs_then : {S : Type 0} (goes : Goes S) (from mid to : Standing S) (bytes rest : List ℕ) (xs : List Step) (x : Step) → Runs goes from bytes xs rest mid → Answers goes mid rest x to → Runs goes from bytes (xs ++ x ∷ []) (drop (suc x.len) rest) to
unfolding Runs
runs_then goes from mid to bytes rest [] x t a =
    let same : rest ≡ bytes = t.0 in
    (to, rw (← t.0, ← t.1) a, (ap (drop (suc x.len)) same, refl))
runs_then goes from mid to bytes rest (y ∷ ys) x t a = (t.0, t.1, runs_then goes t.0 mid to (drop (suc y.len) bytes) rest ys x t.2 a)

pub output_then : (xs : List Step) (x : Step) → output (xs ++ x ∷ []) ≡ output xs ++ said x.answer
output_then [] x = append-nil (said x.answer)
output_then (y ∷ ys) x = ap (λ (o : List ℕ). said y.answer ++ o) (output_then ys x) ∙ sym (append_assoc (said y.answer) (output ys) (said x.answer))

-- the step of a line that was done
abbrev pub step_of : {S : Type 0} → (goes : Goes S) → (from : Standing S) → (text : List ℕ) → (to : Standing S) → ℕ → DidLine goes from text to → Step
step_of goes from text to n d = record { line = d.line; len = n; entries = d.entries; answer = d.answer }

pub answers_of : {S : Type 0} (goes : Goes S) (from to : Standing S) (bytes : List ℕ) (n : ℕ) → line_end bytes ≡ Some n → (d : DidLine goes from (take n bytes) to) → Answers goes from bytes (step_of goes from (take n bytes) to n d) to
answers_of goes from to bytes n ends d =
    let len = line_length bytes n ends in
    record { is_line = record { ends = ends; short = omega (arith, len, d.short); spells = d.spells }; does = d.does }
