-- Why the check of a tree may say that a block could not be read: the device's count of faults rose in the call.
use Rattle.std.specs.Prelude.{◌≡◌, ℕ, ◌≤◌, Result, IfErr}
use Rattle.fo_base.specs.Cause.{Rose}
use Rattle.fo_check_labels.specs.declared.error.TreeError.{TreeError}
use Rattle.fo_check_labels.specs.declared.error.TreeError.TheVariants.{Read as ReadFault}

-- The count of faults never falls, and a failed read is answered only where it rose.
pub record HasCauses {T : Type 0} (before now : ℕ) (result : Result T TreeError) : Type 0 where
  pub later : before ≤ now
  pub failed : IfErr result (λ e. e ≡ ReadFault → Rose before now)
