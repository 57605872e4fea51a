-- Why a write is refused.
use Rattle.std.proofs.Common.{ℕ, Bool, sym, subst}
use Rattle.fo_world.specs.declared.error.FileError.{FileError}
use Rattle.fo_world.specs.declared.error.FileError.TheVariants as error
use Rattle.fo_world.specs.declared.place.View.{View}
use Rattle.fo_world.specs.Answers.{HasCause}
use Rattle.fo_ports.specs.State.{State}
use Rattle.fo_files_into.specs.of_files_look.Told.{faults_of}
use Rattle.fo_files_into.specs.of_files_along.Along.{IsBlocks}
use Rattle.fo_files_request.specs.declared.found.Bar.{Bar}
use Rattle.fo_files_request.specs.declared.found.Bar.TheVariants.{Empty, ReadOnly, TooBig, Halted}
use Rattle.fo_files_request.specs.Limits.{IsBar, IsTold}
use Rattle.fo_files_request.specs.Write.{IsRefused}

-- a refusal of blocks is none by what the tree has
pub blocks_refused : (view : View) (offset n : ℕ) (halted : Bool) (dir file : Type 0) (e : FileError) → IsBlocks e → IsRefused view offset n halted dir file e
blocks_refused view offset n halted dir file error.Memory is = tt
blocks_refused view offset n halted dir file error.Full is = tt
blocks_refused view offset n halted dir file error.MainRead is = tt
blocks_refused view offset n halted dir file error.MainWrite is = tt
blocks_refused view offset n halted dir file error.MainSync is = tt
blocks_refused view offset n halted dir file error.ArenaRead is = tt
blocks_refused view offset n halted dir file error.ArenaWrite is = tt
blocks_refused view offset n halted dir file error.ArenaSync is = tt
blocks_refused view offset n halted dir file (error.Damaged b) is = tt
blocks_refused view offset n halted dir file error.TooBig is = absurd is
blocks_refused view offset n halted dir file error.Exists is = absurd is
blocks_refused view offset n halted dir file error.Absent is = absurd is
blocks_refused view offset n halted dir file error.NotEmpty is = absurd is
blocks_refused view offset n halted dir file error.TooDeep is = absurd is
blocks_refused view offset n halted dir file error.NoNumbers is = absurd is
blocks_refused view offset n halted dir file error.NotDir is = absurd is
blocks_refused view offset n halted dir file error.IsDir is = absurd is
blocks_refused view offset n halted dir file error.ReadOnly is = absurd is
blocks_refused view offset n halted dir file error.Halted is = absurd is
blocks_refused view offset n halted dir file error.Gone is = absurd is
blocks_refused view offset n halted dir file error.DirFull is = absurd is

-- what is told of a limit is so, and has its cause
pub told_refused : (view : View) (offset n : ℕ) (halted : Bool) (dir file : Type 0) (bar : Bar) (e : FileError) → file → IsBar view offset n halted bar → IsTold bar e → IsRefused view offset n halted dir file e
told_refused view offset n halted dir file Empty e found is told = absurd told
told_refused view offset n halted dir file ReadOnly e found is told = subst (λ x. IsRefused view offset n halted dir file x) (sym told) (found, is)
told_refused view offset n halted dir file TooBig e found is told = subst (λ x. IsRefused view offset n halted dir file x) (sym told) (found, is.0, is.1, is.2)
told_refused view offset n halted dir file Halted e found is told = subst (λ x. IsRefused view offset n halted dir file x) (sym told) (found, is.0, is.1, is.2, is.3)

pub told_cause : (a c : State) (full : ℕ → Type 0) (need : ℕ) (bar : Bar) (e : FileError) → IsTold bar e → HasCause (faults_of a) (faults_of c) ⊥ full need e
told_cause a c full need Empty e told = absurd told
told_cause a c full need ReadOnly e told = subst (λ x. HasCause (faults_of a) (faults_of c) ⊥ full need x) (sym told) tt
told_cause a c full need TooBig e told = subst (λ x. HasCause (faults_of a) (faults_of c) ⊥ full need x) (sym told) tt
told_cause a c full need Halted e told = subst (λ x. HasCause (faults_of a) (faults_of c) ⊥ full need x) (sym told) tt
