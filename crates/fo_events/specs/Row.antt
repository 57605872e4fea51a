-- Events one after another, and what became of each.
use Rattle.std.specs.Prelude.{◌≡◌, ◌<◌, ℕ, suc, List, [], ◌∷◌, ◌++◌, Bool, true, false, Option, None, Result, Ok, Err}
use Rattle.fo_base.specs.Cause.{Rose}
use Rattle.fo_turning.specs.declared.flush.Flushed.{Flushed}
use Rattle.fo_turning.specs.declared.flush.Flushed.TheVariants.{Idle}
use Rattle.fo_turning.specs.declared.unlink.Unlinked.{Unlinked}
use Rattle.fo_world.specs.World.{Faults}
use Rattle.fo_world.specs.declared.error.FileError.{FileError}
use Rattle.fo_world.specs.declared.error.FileError.TheVariants as error
use Rattle.nine_wire.specs.Message.{RequestFits}
use Rattle.nine_wire.specs.declared.message.Reply.{Reply}
use Rattle.fo_events.specs.declared.event.Event.{Event}
use Rattle.fo_events.specs.declared.event.Event.TheVariants.{Asked, Drop, Flush, Unlink}
use Rattle.fo_events.specs.declared.event.Outcome.{Outcome}
use Rattle.fo_events.specs.declared.event.Outcome.TheVariants as outcome

-- Which outcome an event may have, and the state that it leaves. It is a relation: a reply may be what the system says, or one of the named
-- refusals.
abbrev pub Goes : Type 0 → Type 1
Goes S = S → Event → Outcome → S → Type 0

-- the session is one of the sixteen, and the request has a spelling
abbrev pub MayHappen : Event → Type 0
MayHappen (Asked session now request) = (session < 16) × RequestFits request
MayHappen (Drop session now) = session < 16
MayHappen Flush = Unit {0}
MayHappen Unlink = Unit {0}

-- an event, and what became of it
pub record Entry : Type 0 where
  pub event : Event
  pub outcome : Outcome

-- Events happen one after another, each to what the one before it left.
unfoldable pub Chain : {S : Type 0} → Goes S → S → List Entry → S → Type 0
Chain goes from [] to = to ≡ from
Chain {S} goes from (e ∷ es) to = (mid : S) × goes from e.event e.outcome mid × Chain goes mid es to

-- a turn fails by a fault of the main device whose count rose in it, or for want of memory
abbrev pub IsTurnFault : Faults → Faults → FileError → Type 0
IsTurnFault old new error.MainRead = Rose old.main new.main
IsTurnFault old new error.MainWrite = Rose old.main new.main
IsTurnFault old new error.MainSync = Rose old.main new.main
IsTurnFault old new error.Memory = Unit {0}
IsTurnFault old new _ = ⊥

abbrev pub let_go : ℕ → ℕ → Bool → Option Reply → Entry
let_go session now more reply = record { event = Drop session now; outcome = outcome.LetGo more reply }

abbrev pub flushed : Result Flushed FileError → Entry
flushed r = record { event = Flush; outcome = outcome.Flushed r }

abbrev pub unlinked : Result Unlinked FileError → Entry
unlinked r = record { event = Unlink; outcome = outcome.Unlinked r }

-- Fids of a session are let go, one after another, until there is none; each at a moment of its own.
pub data Drops (session : ℕ) : List Entry → Type 0 where
  last : (now : ℕ) → Drops session (let_go session now false None ∷ [])
  more : (now : ℕ) → (reply : Option Reply) → (entries : List Entry) → Drops session entries → Drops session (let_go session now true reply ∷ entries)

-- the turn did something, so that another may do more
abbrev pub DidFlush : Result Flushed FileError → Type 0
DidFlush (Ok Idle) = ⊥
DidFlush (Ok f) = Unit {0}
DidFlush (Err e) = ⊥

-- Flushing turns, at most so many, of which each but the last did something; fewer only where the last one was idle or failed.
pub data Flushes : ℕ → List Entry → Type 0 where
  none : Flushes 0 []
  last : (n : ℕ) → (r : Result Flushed FileError) → (DidFlush r → ⊥) → Flushes (suc n) (flushed r ∷ [])
  more : (n : ℕ) → (r : Result Flushed FileError) → DidFlush r → (entries : List Entry) → Flushes n entries → Flushes (suc n) (flushed r ∷ entries)

-- What is done between two messages: at most four flushing turns, fewer where one is idle or fails, and then one unlinking turn.
pub record Rests (entries : List Entry) : Type 0 where
  pub flushes : List Entry
  pub four : Flushes 4 flushes
  pub unlink : Result Unlinked FileError
  pub entries_are : entries ≡ flushes ++ unlinked unlink ∷ []
