-- What clearing a slot does to the fields of a cache.
use Rattle.std.specs.Prelude.{◌≡◌, ◌⊎◌, ℕ, true, false, Option, Some}
use Rattle.std.specs.Option.{IfSome}
use Rattle.fo_crash.specs.Steps.{cleared}
use Rattle.fo_mind.specs.Due.{is_over}
use Rattle.fo_mind.specs.Ended.{Delayed, Ended}
use Rattle.fo_mind.specs.Parts.{Parts, memory}
use Rattle.fo_mind.specs.Slotted.{Slotted}

-- A slot was cleared at once, after the waits for it ended.
pub record Removed (at i : ℕ) (old new : Parts) : Type 0 where
  pub between : Parts
  pub ended : Ended at i old between
  pub slotted : Slotted at i 1 (cleared ((memory old at).slot i)) between new

-- A slot was cleared at once, where no leaf is waited for that isn't settled; else it waits for that leaf.
abbrev pub ClearsOrWaits : ℕ → ℕ → Option ℕ → Parts → Parts → Type 0
ClearsOrWaits at i after old new = (Removed at i old new × IfSome after (λ leaf. is_over old.turns leaf ≡ true)) ⊎ ((leaf : ℕ) × Delayed at i leaf old new × (after ≡ Some leaf) × (is_over old.turns leaf ≡ false))
