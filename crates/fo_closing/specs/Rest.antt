-- What closing asks of a cache: a settling and the end of all pins give it.
use Rattle.std.specs.Prelude.{◌≡◌, ◌≤◌, ℕ, false, List, [], Option, None}
use Rattle.fo_buffers.specs.Held.{Held}
use Rattle.fo_order.specs.declared.marks.Tried.TheVariants.{Settled}
use Rattle.fo_order.specs.Keeps.{Turns}
use Rattle.fo_order.specs.Turns.{flag_at}
use Rattle.fo_waits.specs.declared.listed.Clearing.{Clearing}
use Rattle.fo_mind.specs.Parts.{IsPinned, Parts}

-- No data block has a turn, and all of them are settled; nothing is pinned, no slot waits, and block 1 isn't in doubt.
pub record IsResting (first : ℕ) (turns : Turns) (held : Held) (clears : List Clearing) (doubt : Option (List ℕ)) : Type 0 where
  pub clean : (b : ℕ) → first ≤ b → (flag_at turns b).dirty ≡ false
  pub settled : (b : ℕ) → first ≤ b → (flag_at turns b).tried ≡ Settled
  pub free : (b : ℕ) → IsPinned held b → ⊥
  pub none : clears ≡ []
  pub sure : doubt ≡ None

abbrev pub AtRest : Parts → Type 0
AtRest p = IsResting p.region.first p.turns p.held p.clears p.doubt
