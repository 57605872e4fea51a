-- The blocks that stay in memory: those that were put last.
use Rattle.std.specs.Prelude.{◌==◌, ℕ, ◌-◌, Bool, not, List, length, drop}
use Rattle.venti_store.specs.declared.recent.Recalled.{Recalled}

-- This is no block of that place.
abbrev pub is_another : ℕ → Recalled → Bool
is_another place r = not (r.place == place)

-- the last so many
abbrev pub latest : {X : Type 0} → ℕ → List X → List X
latest most xs = drop (length xs - most) xs
