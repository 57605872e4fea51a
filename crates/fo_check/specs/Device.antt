-- Faults of the two devices.
use Rattle.std.specs.Prelude.{ℕ, ◌≤◌, Result, IfErr}
use Rattle.fo_check.specs.declared.error.CheckError.{CheckError}
use Rattle.fo_check.specs.Answer.{Blames}

-- The counts of faults never fall, a fault is answered only where its device's count rose, and `Size` only where neither did.
pub record HasCauses {T : Type 0} (main main_now arena arena_now : ℕ) (result : Result T CheckError) : Type 0 where
  pub main_later : main ≤ main_now
  pub arena_later : arena ≤ arena_now
  pub failed : IfErr result (Blames main main_now arena arena_now)
