-- One session of a turner, as a system that answers messages.
use Rattle.std.specs.Prelude.{◌≡◌, ◌↔◌, ℕ, Bool, true, List, Result}
use Rattle.fo_world.specs.World.{Faults}
use Rattle.fo_world.specs.declared.error.FileError.{FileError}
use Rattle.fo_events.specs.of_turning.declared.flush.Flushed.{Flushed}
use Rattle.fo_events.specs.declared.event.Event.TheVariants as event
use Rattle.fo_events.specs.declared.event.Outcome.TheVariants as outcome
use Rattle.fo_events.specs.Row.{Goes, Entry, Chain, DidFlush, Flushes, Rests}
use Rattle.fo_talk.specs.Conversation.{Event, Outcome, Asked, Drop, Rest, Replied, LetGo, Rested}

-- what is done between two messages
pub record RestsThrough {S : Type 0} (goes : Goes S) (from to : S) : Type 0 where
  pub entries : List Entry
  pub rests : Rests entries
  pub chain : Chain goes from entries to

-- What an event of the conversation, and what became of it, is to the turner.
abbrev pub Happens : {S : Type 0} → Goes S → ℕ → S → Event → Outcome → S → Type 0
Happens goes session from (Asked now tag request) (Replied tag' reply) to = (tag' ≡ tag) × goes from (event.Asked session now request) (outcome.Replied reply) to
Happens goes session from (Drop now) (LetGo more reply) to = goes from (event.Drop session now) (outcome.LetGo more reply) to
Happens goes session from Rest Rested to = RestsThrough goes from to
Happens goes session from _ _ to = ⊥

-- It happens to the turner, whose counts these are, and the session stays the same.
pub record Serves {S : Type 0} (faults : S → Faults) (goes : Goes S) (session : ℕ) (from : S) (e : Event) (o : Outcome) (before after : Faults) (session' : ℕ) (to : S) : Type 0 where
  pub same : session' ≡ session
  pub before_is : before ≡ faults from
  pub after_is : after ≡ faults to
  pub happens : Happens goes session from e o to

-- A flushing turn, and whether another may do more.
pub record FlushesOnce {S : Type 0} (goes : Goes S) (from : S) (more : Bool) (to : S) : Type 0 where
  pub flushed : Result Flushed FileError
  pub goes_to : goes from event.Flush (outcome.Flushed flushed) to
  pub did : more ≡ true ↔ DidFlush flushed

-- At most four flushing turns, fewer where one is idle or fails.
pub record FlushesSome {S : Type 0} (goes : Goes S) (from to : S) : Type 0 where
  pub entries : List Entry
  pub four : Flushes 4 entries
  pub chain : Chain goes from entries to
