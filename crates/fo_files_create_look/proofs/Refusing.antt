-- Why no file is made.
use Rattle.std.proofs.Common.{◌≡◌, ℕ, Bool, true, List, ⊎_elim, sym, subst}
use Rattle.fo_disk.specs.declared.disk.DiskFault.TheVariants.{Read, Write, Sync}
use Rattle.fo_ports.specs.declared.error.BlockError.{BlockError}
use Rattle.fo_ports.specs.declared.error.BlockError.TheVariants.{Full, Damaged, Fault, Arena, Memory}
use Rattle.fo_ports.specs.Causes.{Caused}
use Rattle.fo_world.specs.declared.error.FileError.{FileError}
use Rattle.fo_world.specs.declared.error.FileError.TheVariants as error
use Rattle.fo_world.specs.declared.place.Place.{Place}
use Rattle.fo_files_along.specs.of_files_look.Told.{file_error}
use Rattle.fo_ports.specs.State.{State, KeepsAll}
use Rattle.fo_world.specs.Step.{is_active}
use Rattle.fo_files_along.specs.of_files_at.declared.file.File.{File}
use Rattle.fo_files_along.proofs.of_files_at.Ways.{way_stays}
use Rattle.fo_files_create_look.specs.Refused.{IsAt, IsLimit, IsRefused}

-- what blocks refuse of a look is no refusal by what the tree has
pub by_blocks : {B : Type 0} (state : B → State) (root : ℕ) (at : Place) (name : List ℕ) (mode : ℕ) (halted : Bool) (damaged : ℕ → Type 0) (fault arena : Type 0) (why : BlockError) → Caused ⊥ damaged fault arena why → IsRefused state root at name mode halted ⊥ ⊥ (file_error why)
by_blocks state root at name mode halted damaged fault arena Full cause = absurd cause
by_blocks state root at name mode halted damaged fault arena (Damaged x) cause = tt
by_blocks state root at name mode halted damaged fault arena (Fault Read) cause = tt
by_blocks state root at name mode halted damaged fault arena (Fault Write) cause = tt
by_blocks state root at name mode halted damaged fault arena (Fault Sync) cause = tt
by_blocks state root at name mode halted damaged fault arena (Arena Read) cause = tt
by_blocks state root at name mode halted damaged fault arena (Arena Write) cause = tt
by_blocks state root at name mode halted damaged fault arena (Arena Sync) cause = tt
by_blocks state root at name mode halted damaged fault arena Memory cause = tt

-- want of memory is free
pub by_memory : {B : Type 0} (state : B → State) (root : ℕ) (at : Place) (name : List ℕ) (mode : ℕ) (halted : Bool) (e : FileError) → e ≡ error.Memory → IsRefused state root at name mode halted ⊥ ⊥ e
by_memory state root at name mode halted e is = subst (λ x. IsRefused state root at name mode halted ⊥ ⊥ x) (sym is) tt

-- what limits refuse
pub by_limits : {B : Type 0} (state : B → State) (root : ℕ) (at : Place) (name : List ℕ) (mode : ℕ) (halted : Bool) (e : FileError) → is_active at.view ≡ true → IsLimit at mode halted e → IsRefused state root at name mode halted ⊥ ⊥ e
by_limits state root at name mode halted e active is = ⊎_elim
    (λ h. subst (λ x. IsRefused state root at name mode halted ⊥ ⊥ x) (sym h.0) (active, h.1))
    (λ h. subst (λ x. IsRefused state root at name mode halted ⊥ ⊥ x) (sym h.0) (active, h.1, h.2, h.3))
    is

-- what was found stays so over other calls
pub at_on : (s u : State) (root : ℕ) (trail : List ℕ) (dir : Bool) (file : File) → KeepsAll s u → IsAt s root trail dir file → IsAt u root trail dir file
at_on s u root trail dir file all is = record { way = is.way; found = way_stays s u root trail is.way all is.found; file_is = is.file_is; kind = is.kind }
