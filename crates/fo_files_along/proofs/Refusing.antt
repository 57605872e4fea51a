-- Why a request is refused.
use Rattle.std.proofs.Common.{◌≡◌, ◌<◌, ◌≤◌, ℕ, refl, subst, arith}
use Rattle.fo_base.specs.Cause.{Rose}
use Rattle.fo_disk.specs.declared.disk.DiskFault.TheVariants.{Read, Write, Sync}
use Rattle.fo_ports.specs.declared.error.BlockError.{BlockError}
use Rattle.fo_ports.specs.declared.error.BlockError.TheVariants.{Full, Damaged, Fault, Arena, Memory}
use Rattle.fo_ports.specs.Causes.{Caused, IsFull}
use Rattle.fo_ports.specs.State.{State, KeepsAll}
use Rattle.fo_files_plan.proofs.of_looks.Looks.{rose_later}
use Rattle.fo_world.specs.declared.error.FileError.{FileError}
use Rattle.fo_world.specs.declared.error.FileError.TheVariants as error
use Rattle.fo_world.specs.Answers.{HasCause, IsBelow}
use Rattle.fo_files_look.specs.Told.{faults_of, file_error}
use Rattle.fo_files_along.specs.Along.{HasRoom, IsBlocks}

pub blocks_are : (why : BlockError) → IsBlocks (file_error why)
blocks_are Full = tt
blocks_are (Damaged x) = tt
blocks_are (Fault Read) = tt
blocks_are (Fault Write) = tt
blocks_are (Fault Sync) = tt
blocks_are (Arena Read) = tt
blocks_are (Arena Write) = tt
blocks_are (Arena Sync) = tt
blocks_are Memory = tt

-- a refusal of blocks has its cause
pub blocks_cause : (a b c : State) (need : ℕ) (damaged : ℕ → Type 0) → KeepsAll a b → (why : BlockError) → Caused ⊥ damaged (Rose b.faults c.faults) (Rose b.arena_faults c.arena_faults) why → HasCause (faults_of a) (faults_of c) ⊥ (HasRoom c) need (file_error why)
blocks_cause a b c need damaged all Full cause = absurd cause
blocks_cause a b c need damaged all (Damaged x) cause = λ h. h
blocks_cause a b c need damaged all (Fault Read) cause = rose_later a.faults b.faults c.faults all.more_faults cause
blocks_cause a b c need damaged all (Fault Write) cause = rose_later a.faults b.faults c.faults all.more_faults cause
blocks_cause a b c need damaged all (Fault Sync) cause = rose_later a.faults b.faults c.faults all.more_faults cause
blocks_cause a b c need damaged all (Arena Read) cause = rose_later a.arena_faults b.arena_faults c.arena_faults all.more_arena_faults cause
blocks_cause a b c need damaged all (Arena Write) cause = rose_later a.arena_faults b.arena_faults c.arena_faults all.more_arena_faults cause
blocks_cause a b c need damaged all (Arena Sync) cause = rose_later a.arena_faults b.arena_faults c.arena_faults all.more_arena_faults cause
blocks_cause a b c need damaged all Memory cause = tt

-- so has that of a reservation
pub reserve_cause : (a b c : State) (need asked : ℕ) (damaged : ℕ → Type 0) → asked ≡ need → KeepsAll a b → (why : BlockError) → Caused (IsFull c asked) damaged (Rose b.faults c.faults) ⊥ why → HasCause (faults_of a) (faults_of c) ⊥ (HasRoom c) need (file_error why)
reserve_cause a b c need asked damaged is all Full cause = (c.usable, (cause.1, refl), subst (λ n. c.usable < n) is cause.0)
reserve_cause a b c need asked damaged is all (Damaged x) cause = λ h. h
reserve_cause a b c need asked damaged is all (Fault Read) cause = rose_later a.faults b.faults c.faults all.more_faults cause
reserve_cause a b c need asked damaged is all (Fault Write) cause = rose_later a.faults b.faults c.faults all.more_faults cause
reserve_cause a b c need asked damaged is all (Fault Sync) cause = rose_later a.faults b.faults c.faults all.more_faults cause
reserve_cause a b c need asked damaged is all (Arena which) cause = absurd cause
reserve_cause a b c need asked damaged is all Memory cause = tt

-- and that of a look
pub look_cause : (a c : State) (need : ℕ) (e : FileError) → HasCause (faults_of a) (faults_of c) ⊥ (λ n. ⊥) 0 e → HasCause (faults_of a) (faults_of c) ⊥ (HasRoom c) need e
look_cause a c need error.MainRead cause = cause
look_cause a c need error.MainWrite cause = cause
look_cause a c need error.MainSync cause = cause
look_cause a c need error.ArenaRead cause = cause
look_cause a c need error.ArenaWrite cause = cause
look_cause a c need error.ArenaSync cause = cause
look_cause a c need (error.Damaged b) cause = cause
look_cause a c need error.Full cause = absurd cause.1
look_cause a c need error.Memory cause = tt
look_cause a c need error.TooBig cause = tt
look_cause a c need error.Exists cause = tt
look_cause a c need error.Absent cause = tt
look_cause a c need error.NotEmpty cause = tt
look_cause a c need error.TooDeep cause = tt
look_cause a c need error.NoNumbers cause = tt
look_cause a c need error.NotDir cause = tt
look_cause a c need error.IsDir cause = tt
look_cause a c need error.ReadOnly cause = tt
look_cause a c need error.Halted cause = tt
look_cause a c need error.Gone cause = tt
look_cause a c need error.DirFull cause = tt

-- a later refusal has its cause
pub cause_later : (a b c : State) (full : ℕ → Type 0) (need : ℕ) → KeepsAll a b → (e : FileError) → HasCause (faults_of b) (faults_of c) ⊥ full need e → HasCause (faults_of a) (faults_of c) ⊥ full need e
cause_later a b c full need all error.MainRead cause = rose_later a.faults b.faults c.faults all.more_faults cause
cause_later a b c full need all error.MainWrite cause = rose_later a.faults b.faults c.faults all.more_faults cause
cause_later a b c full need all error.MainSync cause = rose_later a.faults b.faults c.faults all.more_faults cause
cause_later a b c full need all error.ArenaRead cause = rose_later a.arena_faults b.arena_faults c.arena_faults all.more_arena_faults cause
cause_later a b c full need all error.ArenaWrite cause = rose_later a.arena_faults b.arena_faults c.arena_faults all.more_arena_faults cause
cause_later a b c full need all error.ArenaSync cause = rose_later a.arena_faults b.arena_faults c.arena_faults all.more_arena_faults cause
cause_later a b c full need all (error.Damaged x) cause = cause
cause_later a b c full need all error.Full cause = cause
cause_later a b c full need all error.Memory cause = cause
cause_later a b c full need all error.TooBig cause = cause
cause_later a b c full need all error.Exists cause = cause
cause_later a b c full need all error.Absent cause = cause
cause_later a b c full need all error.NotEmpty cause = cause
cause_later a b c full need all error.TooDeep cause = cause
cause_later a b c full need all error.NoNumbers cause = cause
cause_later a b c full need all error.NotDir cause = cause
cause_later a b c full need all error.IsDir cause = cause
cause_later a b c full need all error.ReadOnly cause = cause
cause_later a b c full need all error.Halted cause = cause
cause_later a b c full need all error.Gone cause = cause
cause_later a b c full need all error.DirFull cause = cause

below_more : (n need most : ℕ) → need ≤ most → n < need → n < most
below_more n need most less below = omega (arith, less, below)

-- full has its cause for a larger need, too
pub cause_more : (a c : State) (full : ℕ → Type 0) (need most : ℕ) → need ≤ most → (e : FileError) → HasCause (faults_of a) (faults_of c) ⊥ full need e → HasCause (faults_of a) (faults_of c) ⊥ full most e
cause_more a c full need most less error.Full cause = (cause.0, cause.1, below_more cause.0 need most less cause.2)
cause_more a c full need most less e cause = cause

-- so it has for what a request gives
pub full_below : (a c : State) (full : ℕ → Type 0) (need most : ℕ) → need ≤ most → (e : FileError) → HasCause (faults_of a) (faults_of c) ⊥ full need e → e ≡ error.Full → IsBelow full most
full_below a c full need most less e cause is = let h = subst (λ x. HasCause (faults_of a) (faults_of c) ⊥ full need x) is cause in (h.0, h.1, below_more h.0 need most less h.2)
