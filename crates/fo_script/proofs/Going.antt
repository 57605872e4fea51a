-- What the loop keeps from line to line, and what that comes to at each end.
use Rattle.std.proofs.Common.{◌≤◌, ◌<◌, inl, inr, ◌≡◌, ℕ, ◌+◌, suc, List, [], ◌∷◌, ◌++◌, length, take, drop, Some, None, Err, IfSome, refl, sym, ap, subst, ◌∙◌, append_assoc, arith}
use Rattle.std.specs.declared.option.Option.{Option}
use Rattle.std.proofs.lemmas.List.{append-nil, length-append, length-drop, take-append-le}
use Rattle.std.proofs.lemmas.Option.{same_Some}
use Rattle.fo_links.specs.Links.{LosesFront, GainsEnd, IsAtEnd}
use Rattle.fo_script_line.specs.of_events.Row.{Goes}
use Rattle.fo_links.specs.Filling.{FilledSome}
use Rattle.fo_script.specs.declared.end.ScriptEnd.TheVariants as end
use Rattle.fo_script_line.specs.declared.line.Stop.{Stop}
use Rattle.fo_script_line.specs.declared.line.Stop.TheVariants as stop
use Rattle.fo_lines.specs.Line.{Spells}
use Rattle.fo_script_line.specs.Says.{said}
use Rattle.fo_script_line.specs.Sessions.{AllLetGo}
use Rattle.fo_script_line.specs.Line.{Standing, longest_line}
use Rattle.fo_script.specs.Script.{Step, Answers, Runs, output, line_end}
use Rattle.fo_script.specs.Ending.{IsBad, Stops, Ends}
use Rattle.fo_script.specs.declared.end.ScriptEnd.{ScriptEnd}
use Rattle.fo_script_line.specs.Answering.{Answered, DidLine}
use Rattle.fo_script.specs.Ending.{end_of, end_at}
use Rattle.fo_script.proofs.Newlines.{end_within, end_more, end_behind, line_more, line_length}
use Rattle.fo_script.proofs.Running.{runs_more, runs_then, output_then, step_of, answers_of}

-- All that was received and what was done for it: the script stands here, and these bytes wait behind it.
pub record Going {S : Type 0} (goes : Goes S) (first now : Standing S) (left0 left held0 held : Option (List ℕ)) (waiting : List ℕ) (place : ℕ) : Type 0 where
  pub received : List ℕ
  pub steps : List Step
  pub input : LosesFront received left0 left
  pub told : GainsEnd (output steps) held0 held
  pub runs : Runs goes first received steps waiting now
  pub place_is : place + length waiting ≡ length received

loses_nothing : (left : Option (List ℕ)) → LosesFront [] left left
loses_nothing None = refl
loses_nothing (Some bytes) = refl

pub gains_nothing : (held : Option (List ℕ)) → GainsEnd [] held held
gains_nothing None = refl
gains_nothing (Some bytes) = ap (λ (x : List ℕ). Some x) (sym (append-nil bytes))

loses_more : (a b : List ℕ) (x y z : Option (List ℕ)) → LosesFront a x y → LosesFront b y z → LosesFront (a ++ b) x z
loses_more a b x y None p q = rw (p, q) refl
loses_more a b x y (Some rest) p q = rw (p, q) (ap (λ (x : List ℕ). Some x) (sym (append_assoc a b rest)))

gains_more : (a b : List ℕ) (x y z : Option (List ℕ)) → GainsEnd a x y → GainsEnd b y z → GainsEnd (a ++ b) x z
gains_more a b None y z p q = rw (q, p) refl
gains_more a b (Some front) y z p q = rw (q, p) (ap (λ (x : List ℕ). Some x) (append_assoc front a b))

pub going_starts : {S : Type 0} (goes : Goes S) (first : Standing S) (left held : Option (List ℕ)) → Going goes first first left left held held [] 0
unfolding Runs
going_starts goes first left held = record {
  received = [];
  steps = [];
  input = loses_nothing left;
  told = gains_nothing held;
  runs = (refl, refl);
  place_is = refl;
}

pub going_fills : {S : Type 0} (goes : Goes S) (first now : Standing S) (left0 left left' held0 held : Option (List ℕ)) (room room' : ℕ) (waiting waiting' : List ℕ) (place n : ℕ)
    → Going goes first now left0 left held0 held waiting place → FilledSome left left' room room' waiting waiting' n → Going goes first now left0 left' held0 held waiting' place
going_fills goes first now left0 left left' held0 held room room' waiting waiting' place n g f = record {
  received = g.received ++ f.came;
  steps = g.steps;
  input = loses_more g.received f.came left0 left left' g.input f.lost;
  told = g.told;
  runs = rw f.gained (runs_more goes first now g.received waiting f.came g.steps g.runs);
  place_is = rw f.gained (omega (arith, g.place_is, length-append waiting f.came, length-append g.received f.came));
}

pub going_answers : {S : Type 0} (goes : Goes S) (first now now' : Standing S) (left0 left held0 held held' : Option (List ℕ)) (waiting : List ℕ) (place n : ℕ)
    → Going goes first now left0 left held0 held waiting place → line_end waiting ≡ Some n → (d : DidLine goes now (take n waiting) now') → GainsEnd (said d.answer) held held'
    → Going goes first now' left0 left held0 held' (drop (n + 1) waiting) (place + (n + 1))
going_answers goes first now now' left0 left held0 held held' waiting place n g ends d gained =
    let x = step_of goes now (take n waiting) now' n d in
    let next : n + 1 ≡ suc n = omega arith in
    record {
      received = g.received;
      steps = g.steps ++ x ∷ [];
      input = g.input;
      told = rw (output_then g.steps x) (gains_more (output g.steps) (said x.answer) held0 held held' g.told gained);
      runs = rw next (runs_then goes first now now' g.received waiting g.steps x g.runs (answers_of goes now now' waiting n ends d));
      place_is = let within = end_within waiting n ends in omega (arith, within, g.place_is, length-drop (n + 1) waiting);
    }

-- ---- ends

-- the script on all that the source had
all_runs : {S : Type 0} (goes : Goes S) (first now : Standing S) (all rest : List ℕ) (held0 held : Option (List ℕ)) (waiting : List ℕ) (place : ℕ)
    → (g : Going goes first now (Some all) (Some rest) held0 held waiting place) → Runs goes first all g.steps (waiting ++ rest) now × (place + length (waiting ++ rest) ≡ length all)
all_runs goes first now all rest held0 held waiting place g =
    let all-is : all ≡ g.received ++ rest = let h = g.input in cc in (
      rw all-is (runs_more goes first now g.received waiting rest g.steps g.runs),
      omega (arith, g.place_is, ap length all-is, length-append waiting rest, length-append g.received rest),
    )

pub ends_early : {S : Type 0} (goes : Goes S) (first now : Standing S) (left0 left held0 held : Option (List ℕ)) (waiting : List ℕ) (place : ℕ)
    → Going goes first now left0 left held0 held waiting place → IfSome left0 (λ bytes. Stops goes first bytes left held0 held now end.Memory)
ends_early goes first now None left held0 held waiting place g = tt
ends_early goes first now (Some all) None held0 held waiting place g = let h = g.input in absurd cc
ends_early goes first now (Some all) (Some rest) held0 held waiting place g =
    let t = all_runs goes first now all rest held0 held waiting place g in
    record { before = now; script = record { steps = g.steps; rest = waiting ++ rest; runs = t.0 }; next = inl refl; told = g.told }

-- what waits ends within all that is left
line_first : (waiting rest : List ℕ) (n m : ℕ) → line_end waiting ≡ Some n → line_end (waiting ++ rest) ≡ Some m → m ≡ n
line_first waiting rest n m ends other = same_Some m n (sym other ∙ end_more waiting rest n ends)

some_wait : (waiting rest : List ℕ) (n : ℕ) → n < length waiting → waiting ++ rest ≡ [] → ⊥
some_wait waiting rest n within e = let len : length (waiting ++ rest) ≡ 0 = ap length e in absurd (omega (arith, within, len, length-append waiting rest))

answers_more : {S : Type 0} (goes : Goes S) (now now' : Standing S) (waiting rest : List ℕ) (x : Step) → Answers goes now waiting x now' → Answers goes now (waiting ++ rest) x now'
answers_more goes now now' waiting rest x a = record { is_line = line_more waiting rest x.line x.len a.is_line; does = a.does }

-- the line was not answered to the end
pub ends_stopped : {S : Type 0} (goes : Goes S) (first now now' : Standing S) (left0 left held0 held held' : Option (List ℕ)) (waiting : List ℕ) (place n : ℕ) (s : Stop)
    → Going goes first now left0 left held0 held waiting place → line_end waiting ≡ Some n → Answered goes now (take n waiting) now' held held' (Err s)
    → IfSome left0 (λ bytes. Stops goes first bytes left held0 held' now' (end_of s place))
ends_stopped goes first now now' None left held0 held held' waiting place n s g ends a = tt
ends_stopped goes first now now' (Some all) None held0 held held' waiting place n s g ends a = let h = g.input in absurd cc
ends_stopped goes first now now' (Some all) (Some rest) held0 held held' waiting place n stop.Bad g ends a =
    let t = all_runs goes first now all rest held0 held waiting place g in
    let within = end_within waiting n ends in
    let len = line_length waiting n ends in
    let front : take n (waiting ++ rest) ≡ take n waiting = take-append-le n waiting rest (omega (arith, within)) in
    rw (a.stays, a.silent)
    (record {
      script = record { steps = g.steps; rest = waiting ++ rest; runs = t.0 };
      bad = record {
        some = some_wait waiting rest n within;
        none = λ l m is may.
            let same = line_first waiting rest n m ends is.ends in
            a.none (omega (arith, len, same, is.short)) l (subst (λ (x : List ℕ). Spells l x) (ap (λ (k : ℕ). take k (waiting ++ rest)) same ∙ front) is.spells) may;
      };
      place = t.1;
      taken = waiting;
      lost = refl;
      told = g.told;
    })
ends_stopped goes first now now' (Some all) (Some rest) held0 held held' waiting place n stop.Memory g ends a =
    let t = all_runs goes first now all rest held0 held waiting place g in
    rw a.0
    (elim a.1 [
      | inl stays ↦ record { before = now; script = record { steps = g.steps; rest = waiting ++ rest; runs = t.0 }; next = inl stays; told = g.told }
      | inr d ↦ record {
        before = now;
        script = record { steps = g.steps; rest = waiting ++ rest; runs = t.0 };
        next = inr (step_of goes now (take n waiting) now' n d, answers_more goes now now' waiting rest _ (answers_of goes now now' waiting n ends d));
        told = g.told;
      }
    ])
ends_stopped goes first now now' (Some all) (Some rest) held0 held held' waiting place n stop.Spent g ends a =
    let t = all_runs goes first now all rest held0 held waiting place g in
    let len = line_length waiting n ends in
    rw a.silent
    (record {
      before = now;
      script = record { steps = g.steps; rest = waiting ++ rest; runs = t.0 };
      line = a.line;
      len = n;
      is_line = line_more waiting rest a.line n (record { ends = ends; short = omega (arith, len, a.short); spells = a.spells });
      spent = a.spent;
      told = g.told;
    })
ends_stopped goes first now now' (Some all) (Some rest) held0 held held' waiting place n stop.Output g ends a =
    let t = all_runs goes first now all rest held0 held waiting place g in
    record {
      before = now;
      script = record { steps = g.steps; rest = waiting ++ rest; runs = t.0 };
      next = step_of goes now (take n waiting) now' n a.0;
      answers = answers_more goes now now' waiting rest _ (answers_of goes now now' waiting n ends a.0);
      put = a.1;
      told = gains_more (output g.steps) (take a.1 (said a.0.answer)) held0 held held' g.told a.2;
    }

pub ends_unread : {S : Type 0} (goes : Goes S) (first now : Standing S) (left0 left held0 held : Option (List ℕ)) (waiting : List ℕ) (place : ℕ)
    → Going goes first now left0 left held0 held waiting place → line_end waiting ≡ None → length waiting ≤ longest_line → IfSome left0 (λ bytes. Stops goes first bytes left held0 held now end.ReadFault)
ends_unread goes first now None left held0 held waiting place g none short = tt
ends_unread goes first now (Some all) left held0 held waiting place g none short =
    record { taken = g.received; lost = g.input; script = record { steps = g.steps; rest = waiting; runs = g.runs }; part = record { none = none; short = short }; told = g.told }

ends_bad : {S : Type 0} (goes : Goes S) (first now : Standing S) (left0 left held0 held : Option (List ℕ)) (waiting : List ℕ) (place : ℕ)
    → Going goes first now left0 left held0 held waiting place → ((more : List ℕ) → left ≡ Some more → IsBad now.limits (waiting ++ more))
    → IfSome left0 (λ bytes. Stops goes first bytes left held0 held now (end.BadLine place))
ends_bad goes first now None left held0 held waiting place g bad = tt
ends_bad goes first now (Some all) None held0 held waiting place g bad = let h = g.input in absurd cc
ends_bad goes first now (Some all) (Some rest) held0 held waiting place g bad =
    let t = all_runs goes first now all rest held0 held waiting place g in
    record { script = record { steps = g.steps; rest = waiting ++ rest; runs = t.0 }; bad = bad rest refl; place = t.1; taken = waiting; lost = refl; told = g.told }

-- no newline is near enough
pub ends_long : {S : Type 0} (goes : Goes S) (first now : Standing S) (left0 left held0 held : Option (List ℕ)) (waiting : List ℕ) (place : ℕ)
    → Going goes first now left0 left held0 held waiting place → line_end waiting ≡ None → longest_line < length waiting → IfSome left0 (λ bytes. Stops goes first bytes left held0 held now (end.BadLine place))
ends_long goes first now left0 left held0 held waiting place g none long =
    ends_bad goes first now left0 left held0 held waiting place g
    (λ more e. record { some = some_wait waiting more 0 (omega (arith, long)); none = λ l m is may. let behind = end_behind waiting more m none is.ends in let short = is.short in absurd (omega (arith, behind, short, long)) })

ends_whole : {S : Type 0} (goes : Goes S) (first now : Standing S) (left0 left held0 held : Option (List ℕ)) (place : ℕ)
    → Going goes first now left0 left held0 held [] place → IsAtEnd left → IfSome left0 (λ bytes. Stops goes first bytes left held0 held now end.End)
ends_whole goes first now None left held0 held place g at_end = tt
ends_whole goes first now (Some all) None held0 held place g at_end = let h = g.input in absurd cc
ends_whole goes first now (Some all) (Some rest) held0 held place g at_end =
    let t = all_runs goes first now all rest held0 held [] place g in
    record { script = record { steps = g.steps; rest = rest; runs = t.0 }; whole = at_end; read = ap (λ (x : List ℕ). Some x) at_end; told = g.told }

at_end_is : (left : Option (List ℕ)) (rest : List ℕ) → IsAtEnd left → left ≡ Some rest → rest ≡ []
at_end_is left rest at_end e = subst (λ (o : Option (List ℕ)). IsAtEnd o) e at_end

-- the input ended, and no line waits
pub ends_at : {S : Type 0} (goes : Goes S) (first now : Standing S) (left0 left held0 held : Option (List ℕ)) (waiting : List ℕ) (place : ℕ)
    → Going goes first now left0 left held0 held waiting place → line_end waiting ≡ None → IsAtEnd left → IfSome left0 (λ bytes. Stops goes first bytes left held0 held now (end_at waiting place))
ends_at goes first now left0 left held0 held [] place g none at_end = ends_whole goes first now left0 left held0 held place g at_end
ends_at goes first now left0 left held0 held (b ∷ bytes) place g none at_end =
    ends_bad goes first now left0 left held0 held (b ∷ bytes) place g
    (λ more e. let all : (b ∷ bytes) ++ more ≡ b ∷ bytes = ap (λ (r : List ℕ). (b ∷ bytes) ++ r) (at_end_is left more at_end e) ∙ append-nil (b ∷ bytes) in
    rw all (record { some = λ h. cc; none = λ l m is may. let found = is.ends in absurd cc }))

-- and then all fids are let go
pub ends_of : {S : Type 0} (goes : Goes S) (first last : Standing S) (left0 left held0 held : Option (List ℕ)) (to : S) (how : ScriptEnd)
    → IfSome left0 (λ bytes. Stops goes first bytes left held0 held last how) → AllLetGo goes last.now 16 last.state to → IfSome left0 (λ bytes. Ends goes first bytes left held0 held to how)
ends_of goes first last None left held0 held to how stops gone = tt
ends_of goes first last (Some all) left held0 held to how stops gone = record { last = last; stops = stops; gone = gone }
