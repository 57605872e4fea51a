-- What is waited for is in use in memory.
use Rattle.std.specs.Prelude.{◌≡◌, ◌⊎◌, ◌+◌, ◌*◌, ℕ, List}
use Rattle.fo_crash.specs.Images.{Image}
use Rattle.fo_crash.specs.Names.{IsInUse}
use Rattle.fo_cells.specs.Known.{Wait, IsWait}

-- who waits for the second entry of a pair waits for the first
abbrev pub InPairs : List Wait → Type 0
InPairs waits = (leaf on k : ℕ) → IsWait waits leaf on (2 * k + 1) → IsWait waits leaf on (2 * k)

-- Pairs of entries are waited for, of each of which the first is in use in memory.
pub record WaitsUsed (waits : List Wait) (memory : Image) : Type 0 where
  pub pairs : InPairs waits
  pub used : (leaf on k : ℕ) → IsWait waits leaf on (2 * k) → (g : ℕ) × IsInUse ((memory on).slot (2 * k)) g

-- Leaves begin to wait for such pairs.
pub record AwaitsPairs (old new : List Wait) (memory : Image) : Type 0 where
  pub pairs : (leaf on k : ℕ) → IsWait new leaf on (2 * k + 1) → IsWait old leaf on (2 * k + 1) ⊎ IsWait new leaf on (2 * k)
  pub used : (leaf on k : ℕ) → IsWait new leaf on (2 * k) → IsWait old leaf on (2 * k) ⊎ ((g : ℕ) × IsInUse ((memory on).slot (2 * k)) g)

-- nobody waits for the pair of which this slot is the first
abbrev pub NoneAwaits : List Wait → ℕ → ℕ → Type 0
NoneAwaits waits on i = (leaf k : ℕ) → i ≡ 2 * k → IsWait waits leaf on (2 * k) ⊎ IsWait waits leaf on (2 * k + 1) → ⊥
