-- Waits that end.
use Rattle.std.specs.Prelude.{◌≡◌, ◌⊎◌, ◌==◌, ◌||◌, ◌*◌, ◌<◌, ℕ, Bool, not, List, length}
use Rattle.std.specs.List.{filter}
use Rattle.fo_waits.specs.declared.listed.Wait.{Wait}
use Rattle.fo_waits.specs.declared.listed.Clearing.{Clearing}
use Rattle.fo_waits.specs.Listed.{Clears, ClearsAfter, Listed}

-- this is no wait for that pair
abbrev pub is_other : ℕ → ℕ → Wait → Bool
is_other on pair w = not (w.on == on) || not (w.pair == pair)

-- Where slot i of a block is the first entry of a pair, no block waits for that pair any more; all other waits stay.
pub record EndsFirst (on i : ℕ) (old new : List Wait) : Type 0 where
  pub still : (a o k : ℕ) → Listed old a o k → ((o ≡ on) × (i ≡ 2 * k)) ⊎ Listed new a o k
  pub only : (a o k : ℕ) → Listed new a o k → Listed old a o k
  pub over : (a k : ℕ) → i ≡ 2 * k → Listed new a on k → ⊥

-- this is no clearing of that slot
abbrev pub is_another : ℕ → ℕ → Clearing → Bool
is_another at i c = not (c.at == at) || not (c.slot == i)

-- A slot that waited to be cleared waits no more; all others do still, each for the leaves that it waited for.
pub record TakesOut (at i : ℕ) (old new : List Clearing) : Type 0 where
  pub still : (b j : ℕ) → Clears old b j → ((b ≡ at) × (j ≡ i)) ⊎ Clears new b j
  pub only : (b j : ℕ) → Clears new b j → Clears old b j
  pub leaves : (b j leaf : ℕ) → ClearsAfter old b j leaf → ((b ≡ at) × (j ≡ i)) ⊎ ClearsAfter new b j leaf
  pub same_leaves : (b j leaf : ℕ) → ClearsAfter new b j leaf → ClearsAfter old b j leaf
  pub over : Clears new at i → ⊥
  pub fewer : Clears old at i → length new < length old
