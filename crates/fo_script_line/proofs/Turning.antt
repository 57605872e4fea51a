-- The turns of one line, one after another.
use Rattle.std.proofs.Common.{◌≡◌, ℕ, ◌+◌, List, [], ◌∷◌, ◌++◌, length, Some, None, refl, ap, ◌∙◌, arith}
use Rattle.std.specs.declared.option.Option.{Option}
use Rattle.std.proofs.lemmas.List.{length-append}
use Rattle.std.proofs.lemmas.List.Sums.{fold_push}
use Rattle.fo_events.specs.Row.{Goes, Entry, Chain}
use Rattle.fo_script_line.specs.declared.answer.Answer.{Answer}
use Rattle.fo_script_line.specs.declared.turns.Stage.{Stage}
use Rattle.fo_script_line.specs.declared.turns.Next.{Next}
use Rattle.fo_script_line.specs.declared.turns.Next.TheVariants.{Turn, Says}
use Rattle.fo_script_line.specs.Turns.{TakesTurn, TakesTurns, after, leads, most_turns}
use Rattle.fo_script_line.proofs.Letting.{chain_then, chain_none, chain_one}

-- So many turns were taken, and this one comes next.
pub record Turning {S : Type 0} (goes : Goes S) (first now : Stage) (from to : S) (count : ℕ) : Type 0 where
  pub entries : List Entry
  pub chain : Chain goes from entries to
  pub leads_on : leads first entries ≡ Some (Turn now)
  pub many : length entries ≡ count

pub turning_starts : {S : Type 0} (goes : Goes S) (first : Stage) (from : S) → Turning goes first first from from 0
turning_starts goes first from = record { entries = []; chain = chain_none goes from; leads_on = refl; many = refl }

one_more : (first now : Stage) (es : List Entry) (e : Entry) (next : Next) → leads first es ≡ Some (Turn now) → after (Some (Turn now)) e ≡ Some next → leads first (es ++ e ∷ []) ≡ Some next
one_more first now es e next on is = fold_push after (Some (Turn first)) es e ∙ ap (λ (o : Option Next). after o e) on ∙ is

pub turning_more : {S : Type 0} (goes : Goes S) (first now next : Stage) (from mid to : S) (count : ℕ) → Turning goes first now from mid count → TakesTurn goes now mid to (Turn next) → Turning goes first next from to (count + 1)
turning_more goes first now next from mid to count t one =
    let e : Entry = record { event = one.event; outcome = one.outcome } in
    record {
      entries = t.entries ++ e ∷ [];
      chain = chain_then goes from mid to t.entries (e ∷ []) t.chain (chain_one goes mid to one.event one.outcome one.went);
      leads_on = one_more first now t.entries e (Turn next) t.leads_on one.leads;
      many = omega (arith, t.many, length-append t.entries (e ∷ []));
    }

pub turning_answers : {S : Type 0} (goes : Goes S) (first now : Stage) (from mid to : S) (count : ℕ) (a : Answer) → Turning goes first now from mid count → TakesTurn goes now mid to (Says a) → TakesTurns goes first from to (Some a)
turning_answers goes first now from mid to count a t one =
    let e : Entry = record { event = one.event; outcome = one.outcome } in
    record {
      entries = t.entries ++ e ∷ [];
      chain = chain_then goes from mid to t.entries (e ∷ []) t.chain (chain_one goes mid to one.event one.outcome one.went);
      comes_to = one_more first now t.entries e (Says a) t.leads_on one.leads;
    }

pub turning_ends : {S : Type 0} (goes : Goes S) (first now : Stage) (from to : S) (count : ℕ) → count ≡ most_turns → Turning goes first now from to count → TakesTurns goes first from to None
turning_ends goes first now from to count all t = record {
  entries = t.entries;
  chain = t.chain;
  comes_to = record { next = now; leads_on = t.leads_on; most = t.many ∙ all };
}
