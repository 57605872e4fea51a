-- What ends of waits and slots that wait do to the fields of a cache.
use Rattle.std.specs.Prelude.{◌≡◌, ◌+◌, ℕ, [], ◌∷◌, ◌++◌}
use Rattle.fo_waits.specs.Ended.{EndsFirst}
use Rattle.fo_mind.specs.Parts.{Parts}

-- Where slot i of a block is the first entry of a pair, no block waits for that pair any more.
pub record Ended (at i : ℕ) (old new : Parts) : Type 0 where
  pub ends : EndsFirst at i old.waits new.waits
  pub rest : new ≡ record old { waits = new.waits }

-- A slot waits to be cleared.
pub record Delayed (at i after : ℕ) (old new : Parts) : Type 0 where
  pub room : new.room + 1 ≡ old.room
  pub rest : new ≡ record old { room = new.room; clears = old.clears ++ (record { at = at; slot = i; after = after }) ∷ [] }
