-- All was settled, or nothing done, before a file is made.
use Rattle.std.proofs.Common.{◌≡◌, ◌⊎◌, ◌≤◌, ℕ, Bool, true, false, inl, inr, sym, subst, ◌∙◌, arith}
use Rattle.fo_base.specs.Cause.{Rose}
use Rattle.fo_ports.specs.declared.error.BlockError.{BlockError}
use Rattle.fo_ports.specs.declared.error.BlockError.TheVariants.{Full, Damaged, Fault, Arena, Memory}
use Rattle.fo_ports.specs.Causes.{Caused}
use Rattle.fo_ports.specs.State.{State, KeepsAll, KeepsNumbers, Rests}
use Rattle.fo_world.specs.Answers.{HasCause}
use Rattle.fo_files_create_look.specs.of_files_spot.Settles.{SettlesUnless}
use Rattle.fo_files_create_look.specs.of_files_look.Told.{faults_of, file_error}
use Rattle.fo_files_create_look.specs.of_files_along.Along.{HasRoom}
use Rattle.fo_files_create_look.proofs.of_files_along.Refusing.{blocks_cause}

-- nothing was done, or all settled
pub settles_or : (B : Type 0) (state : B → State) (alone : Bool) (b c : B) → SettlesUnless B state alone b c → (c ≡ b) ⊎ Rests (state b) (state c)
settles_or B state true b c is = inl is
settles_or B state false b c is = inr is.0

-- file numbers stay
pub numbers_on : (B : Type 0) (state : B → State) (s : State) (b c : B) → Rests s (state b) → (c ≡ b) ⊎ Rests (state b) (state c) → KeepsNumbers s (state c)
numbers_on B state s b c first (inl is) = subst (λ x. KeepsNumbers s (state x)) (sym is) first.numbers
numbers_on B state s b c first (inr rests) = record {
  next = rests.numbers.next ∙ first.numbers.next;
  grants = λ h. rests.numbers.grants (first.numbers.grants h);
}

-- blocks that are usable stay so
pub usable_on : (B : Type 0) (state : B → State) (s : State) (b c : B) → s.usable ≤ (state b).usable → (c ≡ b) ⊎ Rests (state b) (state c) → s.usable ≤ (state c).usable
usable_on B state s b c more (inl is) = subst (λ x. s.usable ≤ (state x).usable) (sym is) more
usable_on B state s b c more (inr rests) = let still = rests.usable in omega (arith, more, still)

no_arena : (damaged : ℕ → Type 0) (fault arena : Type 0) (why : BlockError) → Caused ⊥ damaged fault ⊥ why → Caused ⊥ damaged fault arena why
no_arena damaged fault arena Full cause = cause
no_arena damaged fault arena (Damaged x) cause = cause
no_arena damaged fault arena (Fault which) cause = cause
no_arena damaged fault arena (Arena which) cause = absurd cause
no_arena damaged fault arena Memory cause = cause

-- a refused settling has its cause
pub settle_cause : (a b c : State) (need : ℕ) → KeepsAll a b → (why : BlockError) → Caused ⊥ (λ x. ⊥) (Rose b.faults c.faults) ⊥ why → HasCause (faults_of a) (faults_of c) ⊥ (HasRoom c) need (file_error why)
settle_cause a b c need all why cause = blocks_cause a b c need (λ x. ⊥) all why (no_arena (λ x. ⊥) (Rose b.faults c.faults) (Rose b.arena_faults c.arena_faults) why cause)
