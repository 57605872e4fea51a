-- How fids are let go, one after another.
use Rattle.std.proofs.Common.{◌≡◌, ℕ, Bool, true, false, List, [], ◌∷◌, ◌++◌, None, refl, sym, subst, append_assoc}
use Rattle.std.specs.declared.option.Option.{Option}
use Rattle.nine_wire.specs.declared.message.Reply.{Reply}
use Rattle.fo_world.specs.World.{Faults}
use Rattle.fo_links.specs.Clocks.{Readings, IsRead}
use Rattle.fo_talk.specs.Conversation.{Goes, Position, Entry, Event, Outcome, Drop, LetGo, let_go, later_by, SaysTime, Drops, Chain, LetsAllGo}
use Rattle.fo_talk.specs.Conversation as talk

pub chain_then : {S : Type 0} (goes : Goes S) (from mid to : Position S) (es es' : List Entry) → Chain goes from es mid → Chain goes mid es' to → Chain goes from (es ++ es') to
unfolding Chain
chain_then goes from mid to [] es' a b = rw (← a) b
chain_then goes from mid to (e ∷ es) es' a b =
    (a.0, a.1, (a.2.0, a.2.1, chain_then goes (record { clock = later_by from.clock e.event; state = a.2.0; faults = e.after }) mid to es es' a.2.2 b))

-- one event, with what it takes of the clock
pub chain_one : {S : Type 0} (goes : Goes S) (clock clock' : Readings) (s s' : S) (f f' : Faults) (event : Event) (outcome : Outcome) → SaysTime clock event → clock' ≡ later_by clock event → goes s event outcome f f' s'
    → Chain goes (record { clock = clock; state = s; faults = f }) (record { event = event; outcome = outcome; before = f; after = f' } ∷ []) (record { clock = clock'; state = s'; faults = f' })
unfolding Chain
chain_one goes clock clock' s s' f f' event outcome says left went = (refl, says, (s', went, rw left refl))

-- What was let go so far, and each had a fid.
pub record Letting {S : Type 0} (goes : Goes S) (from to : Position S) : Type 0 where
  pub gone : List Entry
  pub goes_on : (rest : List Entry) → Drops rest → Drops (gone ++ rest)
  pub chain : Chain goes from gone to

pub letting_starts : {S : Type 0} (goes : Goes S) (from : Position S) → Letting goes from from
unfolding Chain
letting_starts goes from = record { gone = []; goes_on = λ rest d. d; chain = refl }

pub letting_more : {S : Type 0} (goes : Goes S) (from : Position S) (clock clock' : Readings) (s s' : S) (f f' : Faults) (now : ℕ) (there : Bool) (reply : Option Reply)
    → Letting goes from (record { clock = clock; state = s; faults = f }) → IsRead clock clock' now → there ≡ true → goes s (Drop now) (LetGo there reply) f f' s'
    → Letting goes from (record { clock = clock'; state = s'; faults = f' })
letting_more goes from clock clock' s s' f f' now there reply l read is went =
    let e : Entry = let_go now true reply f f' in
    let goes' : goes s (Drop now) (LetGo true reply) f f' s' = subst (λ (b : Bool). goes s (Drop now) (LetGo b reply) f f' s') is went in
    record {
      gone = l.gone ++ e ∷ [];
      goes_on = λ rest d. subst (λ (es : List Entry). Drops es) (sym (append_assoc l.gone (e ∷ []) rest)) (l.goes_on (e ∷ rest) (talk.more now reply f f' rest d));
      chain = chain_then goes from _ _ l.gone (e ∷ []) l.chain (chain_one goes clock clock' s s' f f' (Drop now) (LetGo true reply) read.says read.left goes');
    }

pub letting_ends : {S : Type 0} (goes : Goes S) (from : Position S) (clock clock' : Readings) (s s' : S) (f f' : Faults) (now : ℕ) (there : Bool) (reply : Option Reply)
    → Letting goes from (record { clock = clock; state = s; faults = f }) → IsRead clock clock' now → there ≡ false → reply ≡ None → goes s (Drop now) (LetGo there reply) f f' s'
    → LetsAllGo goes from (record { clock = clock'; state = s'; faults = f' })
letting_ends goes from clock clock' s s' f f' now there reply l read is none went =
    let e : Entry = let_go now false None f f' in
    let one : goes s (Drop now) (LetGo false reply) f f' s' = subst (λ (b : Bool). goes s (Drop now) (LetGo b reply) f f' s') is went in
    let goes' : goes s (Drop now) (LetGo false None) f f' s' = subst (λ (o : Option Reply). goes s (Drop now) (LetGo false o) f f' s') none one in
    record {
      entries = l.gone ++ e ∷ [];
      drops = l.goes_on (e ∷ []) (talk.last now f f');
      chain = chain_then goes from _ _ l.gone (e ∷ []) l.chain (chain_one goes clock clock' s s' f f' (Drop now) (LetGo false None) read.says read.left goes');
    }
