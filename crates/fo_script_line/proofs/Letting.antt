-- How fids are let go, one after another, and what that leaves of the limits.
use Rattle.std.proofs.Common.{◌≡◌, ℕ, ◌+◌, suc, Bool, true, false, List, [], ◌∷◌, ◌++◌, None, refl, sym, ap, subst, arith}
use Rattle.std.specs.declared.option.Option.{Option}
use Rattle.std.specs.Prelude.{slice_set}
use Rattle.nine_wire.specs.declared.message.Reply.{Reply}
use Rattle.nine_wire.specs.Version.{largest_message}
use Rattle.fo_world.specs.World.{Faults}
use Rattle.fo_world.specs.Answers.{NotFewer}
use Rattle.fo_events.specs.Row.{Goes, Entry, Chain, let_go}
use Rattle.fo_events.specs.declared.event.Event.{Event}
use Rattle.fo_events.specs.declared.event.Event.TheVariants.{Drop}
use Rattle.fo_events.specs.declared.event.Outcome.{Outcome}
use Rattle.fo_events.specs.declared.event.Outcome.TheVariants.{LetGo}
use Rattle.fo_script_line.specs.Sessions.{drops, LetsGo, AllLetGo, limits_after}

pub not_fewer_then : (a b c : Faults) → NotFewer a b → NotFewer b c → NotFewer a c
not_fewer_then a b c p q = record { main = omega (arith, p.main, q.main); arena = omega (arith, p.arena, q.arena) }

pub not_fewer_same : (a : Faults) → NotFewer a a
not_fewer_same a = record { main = omega arith; arena = omega arith }

pub chain_then : {S : Type 0} (goes : Goes S) (from mid to : S) (es es' : List Entry) → Chain goes from es mid → Chain goes mid es' to → Chain goes from (es ++ es') to
unfolding Chain
chain_then goes from mid to [] es' a b = rw (← a) b
chain_then goes from mid to (e ∷ es) es' a b = (a.0, a.1, chain_then goes a.0 mid to es es' a.2 b)

pub chain_none : {S : Type 0} (goes : Goes S) (from : S) → Chain goes from [] from
unfolding Chain
chain_none goes from = refl

pub chain_one : {S : Type 0} (goes : Goes S) (from to : S) (event : Event) (outcome : Outcome) → goes from event outcome to → Chain goes from (record { event = event; outcome = outcome } ∷ []) to
unfolding Chain
chain_one goes from to event outcome went = (to, went, refl)

-- ---- the fids of one session

-- fids that were let go, and there may be more
abbrev gone : ℕ → ℕ → List (Option Reply) → List Entry
gone session now [] = []
gone session now (reply ∷ replies) = let_go session now true reply ∷ gone session now replies

gone_then : (session now : ℕ) (replies : List (Option Reply)) (reply : Option Reply) → gone session now (replies ++ reply ∷ []) ≡ gone session now replies ++ let_go session now true reply ∷ []
gone_then session now [] reply = refl
gone_then session now (r ∷ rs) reply = ap (λ (es : List Entry). let_go session now true r ∷ es) (gone_then session now rs reply)

drops_are : (session now : ℕ) (replies : List (Option Reply)) → drops session now replies ≡ gone session now replies ++ let_go session now false None ∷ []
drops_are session now [] = refl
drops_are session now (r ∷ rs) = ap (λ (es : List Entry). let_go session now true r ∷ es) (drops_are session now rs)

-- What was let go so far, and each had a fid.
pub record Letting {S : Type 0} (goes : Goes S) (session now : ℕ) (from to : S) : Type 0 where
  pub replies : List (Option Reply)
  pub chain : Chain goes from (gone session now replies) to

pub letting_starts : {S : Type 0} (goes : Goes S) (session now : ℕ) (from : S) → Letting goes session now from from
letting_starts goes session now from = record { replies = []; chain = chain_none goes from }

pub letting_more : {S : Type 0} (goes : Goes S) (session now : ℕ) (from mid to : S) (there : Bool) (reply : Option Reply)
    → Letting goes session now from mid → there ≡ true → goes mid (Drop session now) (LetGo there reply) to → Letting goes session now from to
letting_more goes session now from mid to there reply l is went =
    let went' : goes mid (Drop session now) (LetGo true reply) to = subst (λ (b : Bool). goes mid (Drop session now) (LetGo b reply) to) is went in
    record {
      replies = l.replies ++ reply ∷ [];
      chain = subst (λ (es : List Entry). Chain goes from es to) (sym (gone_then session now l.replies reply)) (chain_then goes from mid to _ _ l.chain (chain_one goes mid to (Drop session now) (LetGo true reply) went'));
    }

pub letting_ends : {S : Type 0} (goes : Goes S) (session now : ℕ) (from mid to : S) (there : Bool) (reply : Option Reply)
    → Letting goes session now from mid → there ≡ false → reply ≡ None → goes mid (Drop session now) (LetGo there reply) to → LetsGo goes session now from to
letting_ends goes session now from mid to there reply l is none went =
    let one : goes mid (Drop session now) (LetGo false reply) to = subst (λ (b : Bool). goes mid (Drop session now) (LetGo b reply) to) is went in
    let went' : goes mid (Drop session now) (LetGo false None) to = subst (λ (o : Option Reply). goes mid (Drop session now) (LetGo false o) to) none one in
    record {
      replies = l.replies;
      chain = subst (λ (es : List Entry). Chain goes from es to) (sym (drops_are session now l.replies)) (chain_then goes from mid to _ _ l.chain (chain_one goes mid to (Drop session now) (LetGo false None) went'));
    }

-- ---- the sessions, one after another

pub all_starts : {S : Type 0} (goes : Goes S) (now : ℕ) (from : S) → AllLetGo goes now 0 from from
unfolding AllLetGo
all_starts goes now from = refl

pub all_more : {S : Type 0} (goes : Goes S) (now n : ℕ) (from mid to : S) → AllLetGo goes now n from mid → LetsGo goes n now mid to → AllLetGo goes now (n + 1) from to
unfolding AllLetGo
all_more goes now n from mid to a l = let next : n + 1 ≡ suc n = omega arith in rw next (mid, a, l)

-- ---- the limits

-- a session without fids allows the largest message
pub drops_limits : (session now : ℕ) (replies : List (Option Reply)) (limits : List ℕ) (rest : List Entry)
    → limits_after limits (drops session now replies ++ rest) ≡ limits_after (slice_set limits session largest_message) rest
drops_limits session now [] limits rest = refl
drops_limits session now (r ∷ rs) limits rest = drops_limits session now rs limits rest
