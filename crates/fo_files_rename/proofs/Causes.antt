-- Why a change is refused.
use Rattle.std.proofs.Common.{◌≡◌, ◌⊎◌, ◌+◌, ◌-◌, ◌*◌, ◌/◌, ◌^◌, ◌≤◌, ℕ, inl, inr, ⊎_elim, arith}
use Rattle.fo_base.specs.Cause.{Rose}
use Rattle.fo_ports.specs.declared.error.BlockError.{BlockError}
use Rattle.fo_ports.specs.declared.error.BlockError.TheVariants.{Full, Damaged, Fault, Arena, Memory}
use Rattle.fo_ports.specs.Causes.{Caused}
use Rattle.fo_ports.specs.State.{State, KeepsAll}

-- what a new name and a length take is no more than a change gives, or than any may take
pub most_given : (long : ℕ) → 5 * long + 31 ≤ 5 * (long - 1) + 36
most_given long = omega arith

pub most_taken : (long : ℕ) → 5 * long + 31 ≤ 6 * (long - 1) + 40 + 0 / 8192 + 0 / 2 ^ 21
most_taken long = omega arith

-- damage that was found where nothing had failed since
pub failed_here : (a b : State) → KeepsAll a b → (why : BlockError) → Caused ⊥ (λ x. b.is_block x ⊎ (x ≡ 1)) ⊥ ⊥ why → Caused ⊥ (λ x. a.is_block x ⊎ (x ≡ 1)) (Rose a.faults b.faults) (Rose a.arena_faults b.arena_faults) why
failed_here a b all Full cause = cause
failed_here a b all (Damaged x) cause = ⊎_elim (λ h. inl ((all.same_blocks x).0 h)) (λ h. inr h) cause
failed_here a b all (Fault which) cause = absurd cause
failed_here a b all (Arena which) cause = absurd cause
failed_here a b all Memory cause = tt
