-- Flushing turns, one after another.
use Rattle.std.proofs.Common.{◌≡◌, ℕ, zero, suc, ◌+◌, ◌<◌, Bool, true, false, List, [], ◌∷◌, ◌++◌, refl, sym, subst, ◌∙◌, append_assoc, arith, Result}
use Rattle.std.proofs.lemmas.Bool.{false≢true}
use Rattle.std.proofs.lemmas.List.{append-nil}
use Rattle.fo_world.specs.declared.error.FileError.{FileError}
use Rattle.fo_events.specs.of_turning.declared.unlink.Unlinked.{Unlinked}
use Rattle.fo_events.specs.declared.event.Event.{Event}
use Rattle.fo_events.specs.declared.event.Event.TheVariants as event
use Rattle.fo_events.specs.declared.event.Outcome.{Outcome}
use Rattle.fo_events.specs.declared.event.Outcome.TheVariants as outcome
use Rattle.fo_events.specs.Row.{Goes, Entry, Chain, Flushes, Rests, DidFlush, flushed, unlinked}
use Rattle.fo_events.specs.Row as row
use Rattle.fo_service.specs.Service.{FlushesOnce, FlushesSome, RestsThrough}

chain_then : {S : Type 0} (goes : Goes S) (from mid to : S) (es es' : List Entry) → Chain goes from es mid → Chain goes mid es' to → Chain goes from (es ++ es') to
unfolding Chain
chain_then goes from mid to [] es' a b = rw (← a) b
chain_then goes from mid to (e ∷ es) es' a b = (a.0, a.1, chain_then goes a.0 mid to es es' a.2 b)

chain_one : {S : Type 0} (goes : Goes S) (from to : S) (e : Event) (o : Outcome) → goes from e o to → Chain goes from (record { event = e; outcome = o } ∷ []) to
unfolding Chain
chain_one goes from to e o went = (to, went, refl)

-- ---- a row of turns

-- So many turns were taken, each of which did something.
pub record Flushing {S : Type 0} (goes : Goes S) (from : S) (taken : ℕ) (to : S) : Type 0 where
  pub left : ℕ
  pub count : taken + left ≡ 4
  pub entries : List Entry
  pub goes_on : (rest : List Entry) → Flushes left rest → Flushes 4 (entries ++ rest)
  pub chain : Chain goes from entries to

pub flushing_starts : {S : Type 0} (goes : Goes S) (from : S) → Flushing goes from 0 from
unfolding Chain
flushing_starts goes from = record { left = 4; count = refl; entries = []; goes_on = λ rest f. f; chain = refl }

another : (taken left : ℕ) → taken + left ≡ 4 → taken < 4 → (n : ℕ) × (left ≡ suc n)
another taken zero count lt = absurd (omega (arith, count, lt))
another taken (suc n) count lt = (n, refl)

pub flushing_more : {S : Type 0} (goes : Goes S) (from mid to : S) (taken : ℕ) (more : Bool) → Flushing goes from taken mid → taken < 4 → FlushesOnce goes mid more to → more ≡ true → Flushing goes from (taken + 1) to
flushing_more goes from mid to taken more f lt once is =
    let n = another taken f.left f.count lt in
    let e : Entry = flushed once.flushed in
    record {
      left = n.0;
      count = omega (arith, f.count, n.1);
      entries = f.entries ++ e ∷ [];
      goes_on = λ rest r. subst (λ (es : List Entry). Flushes 4 es) (sym (append_assoc f.entries (e ∷ []) rest))
          (f.goes_on (e ∷ rest) (subst (λ (left : ℕ). Flushes left (e ∷ rest)) (sym n.1) (row.more n.0 once.flushed (once.did.0 is) rest r)));
      chain = chain_then goes from mid to f.entries (e ∷ []) f.chain (chain_one goes mid to event.Flush (outcome.Flushed once.flushed) once.goes_to);
    }

pub flushing_last : {S : Type 0} (goes : Goes S) (from mid to : S) (taken : ℕ) (more : Bool) → Flushing goes from taken mid → taken < 4 → FlushesOnce goes mid more to → more ≡ false → FlushesSome goes from to
flushing_last goes from mid to taken more f lt once is =
    let n = another taken f.left f.count lt in
    let e : Entry = flushed once.flushed in
    record {
      entries = f.entries ++ e ∷ [];
      four = f.goes_on (e ∷ []) (subst (λ (left : ℕ). Flushes left (e ∷ [])) (sym n.1) (row.last n.0 once.flushed (λ d. false≢true (sym is ∙ once.did.1 d))));
      chain = chain_then goes from mid to f.entries (e ∷ []) f.chain (chain_one goes mid to event.Flush (outcome.Flushed once.flushed) once.goes_to);
    }

pub flushing_ends : {S : Type 0} (goes : Goes S) (from to : S) (taken : ℕ) → Flushing goes from taken to → taken ≡ 4 → FlushesSome goes from to
flushing_ends goes from to taken f all =
    let none : 0 ≡ f.left = omega (arith, f.count, all) in
    record {
      entries = f.entries;
      four = subst (λ (es : List Entry). Flushes 4 es) (append-nil f.entries) (f.goes_on [] (subst (λ (left : ℕ). Flushes left []) none row.none));
      chain = f.chain;
    }

-- ---- and one unlinking turn

pub rests_of : {S : Type 0} (goes : Goes S) (from mid to : S) (r : Result Unlinked FileError) → FlushesSome goes from mid → goes mid event.Unlink (outcome.Unlinked r) to → RestsThrough goes from to
rests_of goes from mid to r some went = record {
  entries = some.entries ++ unlinked r ∷ [];
  rests = record { flushes = some.entries; four = some.four; unlink = r; entries_are = refl };
  chain = chain_then goes from mid to some.entries (unlinked r ∷ []) some.chain (chain_one goes mid to event.Unlink (outcome.Unlinked r) went);
}
