-- The entries of a message.
use Rattle.std.proofs.Common.{◌≡◌, ℕ, Bool, true, false, inl, inr, List, [], ◌∷◌, ◌++◌, Ok, Err, refl, sym, ap, subst, ◌∙◌}
use Rattle.std.specs.declared.option.Option.{Option}
use Rattle.std.proofs.lemmas.List.{append-nil, append_assoc}
use Rattle.nine_wire.specs.declared.message.Request.{Request}
use Rattle.nine_wire.specs.declared.message.Request.TheVariants as request
use Rattle.nine_wire.specs.declared.message.Reply.{Reply}
use Rattle.nine_wire.specs.Message.{request_message, reply_message, spelling}
use Rattle.nine_wire.specs.Stands.{Stands}
use Rattle.fo_world.specs.World.{Faults}
use Rattle.fo_links.specs.Clocks.{Readings, IsRead}
use Rattle.fo_talk.specs.Conversation.{Goes, Position, Standing, Entry, Asked, Rest, Replied, Rested, asked, rested, Drops, LetsGo, Makes, Chain, Answers, said, spelled, only_looks, limit_with, limit_after}
use Rattle.fo_talk.specs.Conversation as talk
use Rattle.fo_talk.specs.Answering.{Clears, Asks, Answered, Adds, Stays, is_version, next_limit}
use Rattle.fo_talk.specs.declared.outbox.Stop.{Stop}
use Rattle.fo_talk.proofs.Letting.{chain_then, chain_one}

-- ---- what is let go says nothing, and leaves the limit

drops_say : {es : List Entry} → Drops es → (rest : List Entry) → said (es ++ rest) ≡ said rest
drops_say (talk.last now before after) rest = refl
drops_say (talk.more now reply before after es d) rest = drops_say d rest

drops_leave : {es : List Entry} → Drops es → (limit : ℕ) (rest : List Entry) → limit_after limit (es ++ rest) ≡ limit_after limit rest
drops_leave (talk.last now before after) limit rest = refl
drops_leave (talk.more now reply before after es d) limit rest = drops_leave d limit rest

gone_says : (r : Request) (es rest : List Entry) → LetsGo r es → said (es ++ rest) ≡ said rest
gone_says (request.Version msize version) es rest gone = drops_say gone rest
gone_says _ es rest gone = ap (λ (x : List Entry). said (x ++ rest)) gone

gone_leaves : (r : Request) (es rest : List Entry) (limit : ℕ) → LetsGo r es → limit_after limit (es ++ rest) ≡ limit_after limit rest
gone_leaves (request.Version msize version) es rest limit gone = drops_leave gone limit rest
gone_leaves _ es rest limit gone = ap (λ (x : List Entry). limit_after limit (x ++ rest)) gone

-- ---- what is let go before a message

pub clears_none : {S : Type 0} (goes : Goes S) (r : Request) (from : Position S) → is_version r ≡ false → Clears goes r from from
unfolding Chain
clears_none goes (request.Version msize version) from is = cc
clears_none goes _ from is = record { entries = []; gone = refl; chain = refl }

-- ---- a message

limit_is : (limit now tag : ℕ) (r : Request) (reply : Reply) → limit_with limit (Asked now tag r) (Replied tag reply) ≡ next_limit limit (is_version r) reply
limit_is limit now tag (request.Version msize version) reply = refl
limit_is limit now tag _ reply = refl

pub asks_of : {S : Type 0} (goes : Goes S) (from : Position S) (clock clock' : Readings) (mid s' : S) (g f' : Faults) (now tag : ℕ) (r : Request) (reply : Reply)
    → Clears goes r from (record { clock = clock; state = mid; faults = g }) → IsRead clock clock' now → goes mid (Asked now tag r) (Replied tag reply) g f' s'
    → Asks goes from tag r reply (record { clock = clock'; state = s'; faults = f' })
asks_of goes from clock clock' mid s' g f' now tag r reply cleared read went =
    let own : Entry = asked now tag r reply g f' in
    record {
      entries = cleared.entries ++ own ∷ [];
      makes = record { drops = cleared.entries; gone = cleared.gone; now = now; reply = reply; before = g; after = f'; rests = []; rests_if = refl; made_is = refl };
      chain = chain_then goes from _ _ cleared.entries (own ∷ []) cleared.chain (chain_one goes clock clock' mid s' g f' (Asked now tag r) (Replied tag reply) read.says read.left went);
      says = gone_says r cleared.entries (own ∷ []) cleared.gone ∙ append-nil (spelling tag (reply_message reply));
      limits = λ limit. gone_leaves r cleared.entries (own ∷ []) limit cleared.gone ∙ limit_is limit now tag r reply;
    }

rest_says : (es : List Entry) (before after : Faults) → said (es ++ rested before after ∷ []) ≡ said es
rest_says [] before after = refl
rest_says (e ∷ es) before after = ap (λ (bytes : List ℕ). spelled e.outcome ++ bytes) (rest_says es before after)

rest_leaves : (limit : ℕ) (es : List Entry) (before after : Faults) → limit_after limit (es ++ rested before after ∷ []) ≡ limit_after limit es
rest_leaves limit [] before after = refl
rest_leaves limit (e ∷ es) before after = rest_leaves (limit_with limit e.event e.outcome) es before after

-- the conversation stopped at it
pub answered_early : {S : Type 0} (goes : Goes S) (limit tag : ℕ) (r : Request) (reply : Reply) (from to : Position S) (replies replies' : List ℕ) (held held' : Option (List ℕ)) (why : Stop)
    → Asks goes from tag r reply to → Stays replies (spelling tag (reply_message reply)) held held' why → Answered goes (record { limit = limit; position = from }) tag r to replies replies' held held' (Err why)
answered_early goes limit tag r reply from to replies replies' held held' why asks put =
    record { entries = asks.entries; makes = asks.makes; chain = asks.chain; put = subst (λ (bytes : List ℕ). Stays replies bytes held held' why) (sym asks.says) put; limit = tt }

adds_may : (waits may : Bool) (replies said replies' : List ℕ) (held held' : Option (List ℕ)) → (waits ≡ true → may ≡ true) → Adds waits replies said replies' held held' → Adds may replies said replies' held held'
adds_may waits may replies said replies' held held' then adds = elim adds [
  | inl w ↦ inl (record { is = then w.is; more = w.more; held_stays = w.held_stays })
  | inr p ↦ inr p
]

-- its reply waits or was put out, and the machine rested
pub answered_of : {S : Type 0} (goes : Goes S) (limit tag next : ℕ) (r : Request) (reply : Reply) (from : Position S) (clock : Readings) (s s' : S) (f f' : Faults) (waits : Bool) (replies replies' : List ℕ) (held held' : Option (List ℕ))
    → Asks goes from tag r reply (record { clock = clock; state = s; faults = f }) → (waits ≡ true → only_looks r ≡ true) → Adds waits replies (spelling tag (reply_message reply)) replies' held held' → next ≡ next_limit limit (is_version r) reply → goes s Rest Rested f f' s'
    → Answered goes (record { limit = limit; position = from }) tag r (record { clock = clock; state = s'; faults = f' }) replies replies' held held' (Ok next)
answered_of goes limit tag next r reply from clock s s' f f' waits replies replies' held held' asks may put is went =
    let last : Entry = rested f f' in
    let m = asks.makes in
    let own : Entry = asked m.now tag r m.reply m.before m.after in
    let none : m.drops ++ own ∷ [] ≡ asks.entries = sym (m.made_is ∙ ap (λ (es : List Entry). m.drops ++ own ∷ es) m.rests_if) in
    record {
      entries = asks.entries ++ last ∷ [];
      makes = record {
        drops = m.drops;
        gone = m.gone;
        now = m.now;
        reply = m.reply;
        before = m.before;
        after = m.after;
        rests = last ∷ [];
        rests_if = (f, f', refl);
        made_is = ap (λ (es : List Entry). es ++ last ∷ []) (sym none) ∙ append_assoc m.drops (own ∷ []) (last ∷ []);
      };
      chain = chain_then goes from _ _ asks.entries (last ∷ []) asks.chain (chain_one goes clock clock s s' f f' Rest Rested tt refl went);
      put = subst (λ (bytes : List ℕ). Adds (only_looks r) replies bytes replies' held held') (sym (rest_says asks.entries f f' ∙ asks.says)) (adds_may waits (only_looks r) replies (spelling tag (reply_message reply)) replies' held held' may put);
      limit = is ∙ sym (rest_leaves limit asks.entries f f' ∙ asks.limits limit);
    }

-- the message stands there, and what was made of it
pub answers_of : {S : Type 0} (goes : Goes S) (from : Standing S) (bytes : List ℕ) (tag : ℕ) (r : Request) (used next : ℕ) (is_done : Bool) (to : Position S) (entries : List Entry)
    → Stands from.limit bytes tag (request_message r) used → Makes tag r is_done entries → Chain goes from.position entries to → next ≡ limit_after from.limit entries
    → Answers goes from bytes (record { tag = tag; request = r; used = used; entries = entries }) is_done (record { limit = next; position = to })
answers_of goes from bytes tag r used next is_done to entries stands makes chain limit = record { stands = stands; makes = makes; chain = chain; limit = limit }
