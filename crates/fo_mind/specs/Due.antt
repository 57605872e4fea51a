-- Slots that wait, and may be cleared since their leaves are settled.
use Rattle.std.specs.Prelude.{◌≡◌, ◌+◌, ◌&&◌, ℕ, Bool, true, not, cond, List, [], ◌∷◌, Option, None, Some}
use Rattle.fo_crash.specs.Steps.{cleared}
use Rattle.fo_order.specs.Keeps.{Turns}
use Rattle.fo_order.specs.Turns.{flag_at}
use Rattle.fo_waits.specs.declared.listed.Clearing.{Clearing}
use Rattle.fo_waits.specs.Ended.{TakesOut}
use Rattle.fo_waits.specs.Listed.{ClearsAfter}
use Rattle.fo_mind.specs.Ended.{Ended}
use Rattle.fo_mind.specs.Frames.{SameMarks}
use Rattle.fo_mind.specs.Parts.{Parts, memory}
use Rattle.fo_mind.specs.Slotted.{Slotted}
use Rattle.fo_mind.specs.Turning.{is_settled}

-- a block has no turn, and what was written of it is settled
abbrev pub is_over : Turns → ℕ → Bool
is_over t leaf = not (flag_at t leaf).dirty && is_settled (flag_at t leaf).tried

-- the first slot whose leaf is settled
abbrev pub next_of : Turns → List Clearing → Option (ℕ × ℕ)
next_of t [] = None
next_of t (c ∷ cs) = cond (is_over t c.after) (Some (c.at, c.slot)) (next_of t cs)

-- This slot waits for a leaf that is settled.
abbrev pub IsDueSlot : Turns → List Clearing → ℕ → ℕ → Type 0
IsDueSlot t clears b j = (leaf : ℕ) × ClearsAfter clears b j leaf × (is_over t leaf ≡ true)

-- A slot waits no more to be cleared: the unit of room that was kept for it is free, and room is kept for the next turn of its block.
pub record Recalled (at i : ℕ) (old new : Parts) : Type 0 where
  pub out : TakesOut at i old.clears new.clears
  pub marks : SameMarks old.facts new.facts
  pub room : new.room ≡ old.room + 1
  pub rest : new ≡ record old { clears = new.clears; facts = new.facts; room = new.room }

-- A slot that waited was cleared, after the waits for it ended, with the unit of room that was kept for it.
pub record ClearedDue (at i : ℕ) (old new : Parts) : Type 0 where
  pub unwaited : Parts
  pub recalled : Parts
  pub ended : Ended at i old unwaited
  pub recalls : Recalled at i unwaited recalled
  pub slotted : Slotted at i 1 (cleared ((memory old at).slot i)) recalled new
