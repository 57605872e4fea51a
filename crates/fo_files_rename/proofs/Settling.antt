-- What a settling leaves that is done unless a name stands alone.
use Rattle.std.proofs.Common.{◌≡◌, ◌⊎◌, ◌≤◌, ℕ, Bool, true, false, inl, inr, sym, subst, arith}
use Rattle.fo_base.specs.Cause.{Rose}
use Rattle.fo_ports.specs.declared.error.BlockError.{BlockError}
use Rattle.fo_ports.specs.declared.error.BlockError.TheVariants.{Full, Damaged, Fault, Arena, Memory}
use Rattle.fo_ports.specs.Causes.{Caused}
use Rattle.fo_ports.specs.State.{State, KeepsAll, Rests}
use Rattle.fo_world.specs.Answers.{HasCause}
use Rattle.fo_files_edit.specs.of_files_look.Told.{faults_of, file_error}
use Rattle.fo_files_edit.specs.of_files_along.Along.{HasRoom}
use Rattle.fo_files_edit.proofs.of_files_along.Refusing.{blocks_cause}
use Rattle.fo_files_spot.specs.Settles.{SettlesUnless}

pub settles_left : (B : Type 0) (state : B → State) (alone : Bool) (b c : B) → SettlesUnless B state alone b c → (c ≡ b) ⊎ Rests (state b) (state c)
settles_left B state true b c is = inl is
settles_left B state false b c is = inr is.0

same_usable : (B : Type 0) (state : B → State) (b c : B) → c ≡ b → (state b).usable ≤ (state c).usable
same_usable B state b c is = subst (λ x. (state b).usable ≤ (state x).usable) (sym is) (omega arith)

pub settles_usable : (B : Type 0) (state : B → State) (alone : Bool) (b c : B) → SettlesUnless B state alone b c → (state b).usable ≤ (state c).usable
settles_usable B state true b c is = same_usable B state b c is
settles_usable B state false b c is = is.0.usable

no_arena : (damaged : ℕ → Type 0) (fault arena : Type 0) (why : BlockError) → Caused ⊥ damaged fault ⊥ why → Caused ⊥ damaged fault arena why
no_arena damaged fault arena Full cause = cause
no_arena damaged fault arena (Damaged x) cause = cause
no_arena damaged fault arena (Fault which) cause = cause
no_arena damaged fault arena (Arena which) cause = absurd cause
no_arena damaged fault arena Memory cause = tt

-- its refusal has its cause
pub settle_cause : (a b c : State) (need : ℕ) → KeepsAll a b → (why : BlockError) → Caused ⊥ (λ x. ⊥) (Rose b.faults c.faults) ⊥ why → HasCause (faults_of a) (faults_of c) ⊥ (HasRoom c) need (file_error why)
settle_cause a b c need all why cause = blocks_cause a b c need (λ x. ⊥) all why (no_arena (λ x. ⊥) (Rose b.faults c.faults) (Rose b.arena_faults c.arena_faults) why cause)
