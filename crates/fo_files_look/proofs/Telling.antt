-- A look after a look, as files are told of it.
use Rattle.std.specs.Prelude.{Result, Ok, Err}
use Rattle.fo_ports.specs.State.{State, KeepsAll}
use Rattle.fo_world.specs.declared.error.FileError.{FileError}
use Rattle.fo_world.specs.declared.error.FileError.TheVariants as error
use Rattle.fo_world.specs.Answers.{HasCause, Refuses}
use Rattle.fo_files_at.proofs.of_looks.Looks.{rose_later}
use Rattle.fo_files_look.specs.Told.{faults_of}

-- the cause, said of where a call before it began
pub cause_since : (a b c : State) → KeepsAll a b → (e : FileError) → HasCause (faults_of b) (faults_of c) ⊥ (λ n. ⊥) 0 e → HasCause (faults_of a) (faults_of c) ⊥ (λ n. ⊥) 0 e
cause_since a b c all error.MainRead cause = rose_later a.faults b.faults c.faults all.more_faults cause
cause_since a b c all error.MainWrite cause = rose_later a.faults b.faults c.faults all.more_faults cause
cause_since a b c all error.MainSync cause = rose_later a.faults b.faults c.faults all.more_faults cause
cause_since a b c all error.ArenaRead cause = rose_later a.arena_faults b.arena_faults c.arena_faults all.more_arena_faults cause
cause_since a b c all error.ArenaWrite cause = rose_later a.arena_faults b.arena_faults c.arena_faults all.more_arena_faults cause
cause_since a b c all error.ArenaSync cause = rose_later a.arena_faults b.arena_faults c.arena_faults all.more_arena_faults cause
cause_since a b c all (error.Damaged x) cause = cause
cause_since a b c all error.Full cause = cause
cause_since a b c all error.TooBig cause = tt
cause_since a b c all error.Exists cause = tt
cause_since a b c all error.Absent cause = tt
cause_since a b c all error.NotEmpty cause = tt
cause_since a b c all error.TooDeep cause = tt
cause_since a b c all error.NoNumbers cause = tt
cause_since a b c all error.NotDir cause = tt
cause_since a b c all error.IsDir cause = tt
cause_since a b c all error.ReadOnly cause = tt
cause_since a b c all error.Halted cause = tt
cause_since a b c all error.Gone cause = tt
cause_since a b c all error.DirFull cause = tt
cause_since a b c all error.Memory cause = tt

-- the same of a call that may be granted
pub refuses_since : {A : Type 0} (a b c : State) → KeepsAll a b → (r : Result A FileError) → Refuses (faults_of b) (faults_of c) ⊥ (λ n. ⊥) 0 r → Refuses (faults_of a) (faults_of c) ⊥ (λ n. ⊥) 0 r
refuses_since a b c all (Ok x) cause = cause
refuses_since a b c all (Err e) cause = cause_since a b c all e cause
