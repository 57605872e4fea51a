-- A settling before a name comes to a leaf.
use Rattle.std.specs.Prelude.{◌≡◌, ◌⊎◌, ℕ, Bool, true, false}
use Rattle.fo_ports.specs.State.{State, Rests}

-- All was just settled: nothing is to be written but what is newborn, no slot waits to be cleared, and what is pinned was in place then.
pub record IsAtRest (s : State) : Type 0 where
  pub clean : (b : ℕ) → s.dirty b → s.newborn b
  pub none : (b j : ℕ) → s.clearing b j → ⊥
  pub pinned : (b : ℕ) → s.pinned b → s.newborn b ⊎ s.sealed b

-- Nothing was done where a name stands alone; else all was settled.
abbrev pub SettlesUnless : (B : Type 0) (state : B → State) (alone : Bool) (old new : B) → Type 0
SettlesUnless B state true old new = new ≡ old
SettlesUnless B state false old new = Rests (state old) (state new) × IsAtRest (state new)
