-- Leaves that every image has as memory has them.
use Rattle.std.specs.Prelude.{◌≡◌, ◌≢◌, ◌⊎◌, ◌<◌, ℕ, Some, None}
use Rattle.fo_crash.specs.Steps.{IsSure}
use Rattle.fo_ports.specs.State.{State}
use Rattle.fo_ports.specs.Sources.{Leaves}

-- Every image has this block as memory has it, and it hung from block 1 when all was last settled.
abbrev pub IsSettledLeaf : State → ℕ → Type 0
IsSettledLeaf s b = IsSure s.now b s.may_leave × s.sealed b

-- It is not known that every image has this block as memory has it, or it did not hang from block 1 when all was last settled.
abbrev pub IsUnsure : State → ℕ → Type 0
IsUnsure s b = (s.sure b → ⊥) ⊎ (s.sealed b → ⊥)

-- Each of the first so many leaves of a source, but one, stands in such a block.
pub record AreSureBut (s : State) (leaves : Leaves) (count but : ℕ) : Type 0 where
  pub each : (i : ℕ) → i < count → i ≢ but → (b : ℕ) × (leaves.at i ≡ Some b) × IsSettledLeaf s b

-- A leaf stands in no block, as far as the device tells, or in one that is not known to be so.
abbrev pub IsUnsureAt : State → Leaves → ℕ → Type 0
IsUnsureAt s leaves i = (s.tells → leaves.at i ≡ None) ⊎ ((b : ℕ) × s.is_block b × IsUnsure s b)
