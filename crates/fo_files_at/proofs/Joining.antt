-- A look after a look.
use Rattle.std.specs.Prelude.{Result, Ok, Err, IfErr}
use Rattle.fo_base.specs.Cause.{Rose}
use Rattle.fo_ports.specs.declared.error.BlockError.{BlockError}
use Rattle.fo_ports.specs.declared.error.BlockError.TheVariants.{Full, Damaged, Fault, Arena, Memory}
use Rattle.fo_ports.specs.Causes.{Caused}
use Rattle.fo_ports.specs.State.{State, KeepsAll}
use Rattle.fo_dir_read.proofs.of_looks.Looks.{rose_later}

-- the cause of a refusal, said of where a call before it began
pub caused_since : (a b c : State) → KeepsAll a b → (why : BlockError) → Caused ⊥ (λ x. b.is_block x) (Rose b.faults c.faults) ⊥ why → Caused ⊥ (λ x. a.is_block x) (Rose a.faults c.faults) ⊥ why
caused_since a b c all Full cause = cause
caused_since a b c all (Damaged x) cause = (all.same_blocks x).0 cause
caused_since a b c all (Fault which) cause = rose_later a.faults b.faults c.faults all.more_faults cause
caused_since a b c all (Arena which) cause = cause
caused_since a b c all Memory cause = cause

-- the same of a call that may be granted
pub refused_since : {A : Type 0} (a b c : State) → KeepsAll a b → (r : Result A BlockError) → IfErr r (Caused ⊥ (λ x. b.is_block x) (Rose b.faults c.faults) ⊥) → IfErr r (Caused ⊥ (λ x. a.is_block x) (Rose a.faults c.faults) ⊥)
refused_since a b c all (Ok x) cause = cause
refused_since a b c all (Err why) cause = caused_since a b c all why cause
