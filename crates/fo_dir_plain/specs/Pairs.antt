-- The pairs that the records of a list have.
use Rattle.std.specs.Prelude.{◌≡◌, ◌^◌, ◌<◌, ℕ, Bool, true, false, nat_eq, List}
use Rattle.std.specs.List.{list_any}
use Rattle.fo_image.specs.declared.record.Record.{Record}

abbrev pub has_pair : ℕ → Record → Bool
has_pair k r = nat_eq r.slot k

-- Each pair below this one is a record's.
pub record TakenBelow (rs : List Record) (k : ℕ) : Type 0 where
  pub each : (j : ℕ) → j < k → list_any (has_pair j) rs ≡ true

-- The least pair that no record has, below 2^20.
pub record IsLeastPair (rs : List Record) (k : ℕ) : Type 0 where
  pub within : k < 2 ^ 20
  pub free : list_any (has_pair k) rs ≡ false
  pub taken : TakenBelow rs k

-- Each pair below 2^20 is a record's.
abbrev pub IsFull : List Record → Type 0
IsFull rs = TakenBelow rs (2 ^ 20)
