-- What waits for the pairs of entries of a leaf.
use Rattle.std.specs.Prelude.{◌≡◌, ◌⊎◌, ◌*◌, ◌<◌, ℕ, true, List}
use Rattle.fo_crash.specs.Images.{Content}
use Rattle.fo_waits.specs.declared.listed.Clearing.{Clearing}
use Rattle.fo_waits.specs.declared.listed.Wait.{Wait}
use Rattle.fo_waits.specs.Listed.{Clears, Listed, is_active}

-- The first so many pairs of entries of leaf `on`, which holds c, are listed where the first entry is in use and waits for no clearing:
-- block `at` waits for them. Beside pairs of that leaf whose first entry is in use nothing more is listed.
pub record ListsPairs (clears : List Clearing) (c : Content) (at on count : ℕ) (old new : List Wait) : Type 0 where
  pub each : (k : ℕ) → k < count → is_active (c.slot (2 * k)) ≡ true → (Clears clears on (2 * k) → ⊥) → Listed new at on k
  pub only : (a b k : ℕ) → Listed new a b k → Listed old a b k ⊎ ((a ≡ at) × (b ≡ on) × (is_active (c.slot (2 * k)) ≡ true))
  pub still : (a b k : ℕ) → Listed old a b k → Listed new a b k
