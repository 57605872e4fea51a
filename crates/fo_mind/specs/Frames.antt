-- What the steps of a call leave.
use Rattle.std.specs.Prelude.{◌≡◌, ◌≢◌, ◌≤◌, ℕ, true, false, List, length, Some, None}
use Rattle.std.specs.Option.{option_map_or}
use Rattle.fo_buffers.specs.declared.block.Buffer.{Buffer}
use Rattle.fo_buffers.specs.Held.{held_at, is_dirty}
use Rattle.fo_facts.specs.declared.fact.Fact.{Fact}
use Rattle.fo_facts.specs.Known.{fact_at}
use Rattle.fo_mind.specs.Parts.{Parts}

-- Of each address stays what calls on blocks see.
pub record SameMarks (old new : List Fact) : Type 0 where
  pub as_long : length new ≡ length old
  pub apart : (b : ℕ) → (fact_at new b).apart ≡ (fact_at old b).apart
  pub origin : (b : ℕ) → (fact_at new b).origin ≡ (fact_at old b).origin
  pub linked : (b : ℕ) → (fact_at new b).linked ≡ (fact_at old b).linked
  pub fresh : (b : ℕ) → (fact_at new b).fresh ≡ (fact_at old b).fresh
  pub sealed : (b : ℕ) → (fact_at new b).sealed ≡ (fact_at old b).sealed

-- One block may be read, and be held and pinned from then on, where it wasn't. What else is held stays. Blocks that nobody holds may be
-- forgotten, so that the device has to be asked for them again.
pub record Brings (at : ℕ) (old new : Parts) : Type 0 where
  pub others : (q : ℕ) → q ≢ at → held_at new.held q ≡ held_at old.held q
  pub bytes : (x : Buffer) → held_at old.held at ≡ Some x → (y : Buffer) × (held_at new.held at ≡ Some y) × (y.block ≡ x.block) × (y.dirty ≡ x.dirty) × (x.pinned ≡ true → y.pinned ≡ true)
  pub clean : held_at old.held at ≡ None → option_map_or is_dirty (held_at new.held at) false ≡ false
  pub marks : SameMarks old.facts new.facts
  pub faults : old.faults ≤ new.faults
  pub rest : new ≡ record old { held = new.held; facts = new.facts; pins = new.pins; faults = new.faults }
