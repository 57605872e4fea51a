-- Why a call may say that something of the outside failed: that object's count of faults rose in the call.
use Rattle.std.specs.Prelude.{◌≡◌, ℕ, ◌+◌, ◌-◌, ◌^◌, ◌≤◌, min, Result, OnErr}

-- the count went up; one that stands at its last value counts as one that rose
abbrev pub Rose : ℕ → ℕ → Type 0
Rose before now = min (before + 1) (2 ^ 64 - 1) ≤ now

-- The count never falls, and a failure is answered only where it rose.
pub record HasCause {T E : Type 0} (before now : ℕ) (result : Result T E) : Type 0 where
  pub later : before ≤ now
  pub failed : OnErr result (Rose before now)

-- one more, up to the last value
abbrev pub Counted : ℕ → ℕ → Type 0
Counted before now = now ≡ min (before + 1) (2 ^ 64 - 1)
