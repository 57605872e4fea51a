-- The entries of a leaf, before and after it was owned.
use Rattle.std.specs.Prelude.{◌≡◌, ◌<◌, ℕ, Option, Some, None, MatchOption}
use Rattle.fo_crash.specs.declared.slot.Slot.TheVariants.{Entry as Head}
use Rattle.fo_ports.specs.Blocks.{no_entry}
use Rattle.fo_ports.specs.State.{State}
use Rattle.fo_ports.specs.Sources.{Leaves}

-- In this block no entry was ever put.
pub record IsBlank (s : State) (c : ℕ) : Type 0 where
  pub slots : (k : ℕ) → k < 204 → (s.now c).slot k ≡ Head no_entry
  pub still : (k : ℕ) → s.clearing c k → ⊥

-- A block has the entries of another, and no more of them wait to be cleared.
pub record HasEntries (old new : State) (b c : ℕ) : Type 0 where
  pub slots : (k : ℕ) → (new.now c).slot k ≡ (old.now b).slot k
  pub order : (k : ℕ) → new.clearing c k → old.clearing b k

-- what was there, and what is there now
abbrev pub SameAt : (old new : State) (y : Option ℕ) → Option ℕ → Type 0
SameAt old new y None = MatchOption y (Unit {0}) (λ c. IsBlank new c)
SameAt old new y (Some b) = (c : ℕ) × (y ≡ Some c) × HasEntries old new b c

-- A leaf has the entries of what was there.
pub record SameEntries (old new : State) (x y : Leaves) (j : ℕ) : Type 0 where
  pub is : SameAt old new (y.at j) (x.at j)
