-- What a put of a slot does to the fields of a cache, step by step.
use Rattle.std.specs.Prelude.{◌≡◌, ◌+◌, ◌-◌, ℕ, Bool, true, false, List, [], length, count_by, Some}
use Rattle.std.specs.Bool.{OnTrue, OnFalse}
use Rattle.std.specs.Option.{option_map}
use Rattle.fo_image.specs.declared.types.Kind.{Kind}
use Rattle.fo_image.specs.declared.types.Pointer.{Pointer}
use Rattle.fo_buffers.specs.Held.{block_in, held_at}
use Rattle.fo_crash.specs.declared.slot.Slot.{Slot}
use Rattle.fo_crash.specs.Images.{target}
use Rattle.fo_slots.specs.Read.{PutsInto}
use Rattle.fo_facts.specs.declared.fact.Fact.{Fact}
use Rattle.fo_facts.specs.Counts.{is_made}
use Rattle.fo_facts.specs.Known.{fact_at}
use Rattle.fo_rooms.specs.of_linking.Joined.{Joins, JoinsBelow}
use Rattle.fo_raising.specs.Raised.{KeepsCounts, Marked, Raises}
use Rattle.fo_rooms.specs.of_takeout.declared.walk.Put.{Put}
use Rattle.fo_taking.specs.Taken.{TakesOut}
use Rattle.fo_mind.specs.Changes.{Refilled}
use Rattle.fo_mind.specs.Parts.{Parts, label_at, memory}

-- A slot of block `at` leads there now: what is put is apart no more, and a block that is raised over it comes in its place.
pub record Hung (at : ℕ) (to : Pointer) (raised : Bool) (old new : Parts) : Type 0 where
  pub marked : Marked at to raised old.facts new.facts
  pub counts : KeepsCounts old.facts new.facts
  pub rest : new ≡ record old { facts = new.facts }

-- After a slot was put: where its block is in the tree, just what hangs from the slot by blocks that were made comes into the tree. What
-- leaves is queued: at most as many removals as the put costs and blocks came.
pub record Follows (put : Put) (cost : ℕ) (old new : Parts) : Type 0 where
  pub joins : Joins old.held old.facts new.facts old.turns new.turns
  pub linked : (fact_at old.facts put.at).linked ≡ true → JoinsBelow old.held old.region (target put.new) old.facts new.facts old.turns new.turns
  pub stays : (fact_at old.facts put.at).linked ≡ false → (new.facts ≡ old.facts) × (new.turns ≡ old.turns)
  pub budget : ℕ
  pub budget_is : budget ≡ cost + (count_by is_made old.facts - count_by is_made new.facts)
  pub takes : TakesOut (memory old) old.region old.held old.walk new.walk put.at old.one.high put.kind put.old put.new old.removals new.removals budget
  pub room : new.room + cost ≡ old.room
  pub rest : new ≡ record old { turns = new.turns; facts = new.facts; room = new.room; removals = new.removals; walk = new.walk }

-- A slot of a held block was put, at this cost in room, while no walk was begun: into a copy of its bytes, which became the block's; then
-- into what is known of addresses; and what follows from it was done.
pub record Slotted (at i cost : ℕ) (slot : Slot) (old new : Parts) : Type 0 where
  pub was : List ℕ
  pub bytes : List ℕ
  pub raised : Bool
  pub kind : Kind
  pub fact : Fact
  pub led : Slot
  pub filled : Parts
  pub hung : Parts
  pub idle : old.walk.pairs ≡ []
  pub copied : Some was ≡ option_map block_in (held_at old.held at)
  pub is_kind : kind ≡ (label_at old.region at).kind
  pub is_fact : fact ≡ fact_at old.facts at
  pub is_led : led ≡ (memory old at).slot i
  pub raises : OnTrue raised (Raises fact kind i was)
  pub raises_not : OnFalse raised (Raises fact kind i was → ⊥)
  pub puts : PutsInto kind i slot was bytes
  pub long : length bytes ≡ 8192
  pub refilled : Refilled at bytes old filled
  pub hangs : Hung at (target slot) raised filled hung
  pub follows : Follows (record { at = at; kind = kind; i = i; old = led; new = slot }) cost hung new
