-- The readings of a clock.
use Rattle.std.specs.Prelude.{◌≡◌, ℕ, ◌+◌, IfSome}
use Rattle.std.specs.declared.option.Option.{Option}
use Rattle.std.specs.Option.{option_map}

-- what a clock's readings will say, one after another, where that is told: the next one is number 0
abbrev pub Readings : Type 0
Readings = Option (ℕ → ℕ)

-- the next reading says this
abbrev pub SaysNext : Readings → ℕ → Type 0
SaysNext coming now = IfSome coming (λ at. now ≡ at 0)

-- the readings after the next one
abbrev pub later : Readings → Readings
later coming = option_map (λ (at : ℕ → ℕ) (n : ℕ). at (n + 1)) coming

-- One reading: it says what was next, and the ones after it are left.
pub record IsRead (old new : Readings) (now : ℕ) : Type 0 where
  pub says : SaysNext old now
  pub left : new ≡ later old
