-- The table of buffers, and the list of pins.
use Rattle.std.specs.Prelude.{◌≡◌, ℕ, true, cond, nat_eq, List, Some}
use Rattle.std.specs.Option.{option_map}
use Rattle.std.specs.List.{Contains}
use Rattle.std.specs.HashMap.{HashMap, get}
use Rattle.fo_buffers.specs.declared.block.Buffer.{Buffer}

-- What is held of one block is changed by f.
pub record Changes {S : Type 0} (old new : HashMap ℕ Buffer S) (at : ℕ) (f : Buffer → Buffer) : Type 0 where
  pub each : (q : ℕ) → get nat_eq new q ≡ cond (nat_eq at q) (option_map f (get nat_eq old at)) (get nat_eq old q)

-- Each pinned block is among the pins.
pub record Listed {S : Type 0} (held : HashMap ℕ Buffer S) (pins : List ℕ) : Type 0 where
  pub each : (q : ℕ) (b : Buffer) → get nat_eq held q ≡ Some b → b.pinned ≡ true → Contains pins q
