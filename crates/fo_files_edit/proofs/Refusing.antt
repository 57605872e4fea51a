-- Why a change is refused.
use Rattle.std.proofs.Common.{◌≡◌, ℕ, Bool, true, false, List, refl}
use Rattle.std.specs.Prelude.{not}
use Rattle.fo_ports.specs.State.{State}
use Rattle.fo_world.specs.declared.error.FileError.{FileError}
use Rattle.fo_world.specs.declared.error.FileError.TheVariants as error
use Rattle.fo_world.specs.declared.place.Change.{Change}
use Rattle.fo_world.specs.declared.place.View.{View}
use Rattle.fo_world.specs.Answers.{HasCause}
use Rattle.fo_files_into.specs.of_files_look.Told.{faults_of}
use Rattle.fo_files_into.specs.of_files_along.Along.{IsBlocks}
use Rattle.fo_files_edit.specs.Asks.{IsRefused, IsTold, IsUnfound}

-- a device is to blame
pub unfound : (e : FileError) → IsBlocks e → IsUnfound e
unfound error.Memory is = tt
unfound error.Full is = tt
unfound error.MainRead is = tt
unfound error.MainWrite is = tt
unfound error.MainSync is = tt
unfound error.ArenaRead is = tt
unfound error.ArenaWrite is = tt
unfound error.ArenaSync is = tt
unfound (error.Damaged b) is = tt
unfound error.TooBig is = absurd is
unfound error.Exists is = absurd is
unfound error.Absent is = absurd is
unfound error.NotEmpty is = absurd is
unfound error.TooDeep is = absurd is
unfound error.NoNumbers is = absurd is
unfound error.NotDir is = absurd is
unfound error.IsDir is = absurd is
unfound error.ReadOnly is = absurd is
unfound error.Halted is = absurd is
unfound error.Gone is = absurd is
unfound error.DirFull is = absurd is

pub blocks_refused : (view : View) (what : Change) (halted dir : Bool) (name : List ℕ) (e : FileError) → IsBlocks e → IsRefused view what halted dir name e
blocks_refused view what halted dir name error.Memory is = tt
blocks_refused view what halted dir name error.Full is = tt
blocks_refused view what halted dir name error.MainRead is = tt
blocks_refused view what halted dir name error.MainWrite is = tt
blocks_refused view what halted dir name error.MainSync is = tt
blocks_refused view what halted dir name error.ArenaRead is = tt
blocks_refused view what halted dir name error.ArenaWrite is = tt
blocks_refused view what halted dir name error.ArenaSync is = tt
blocks_refused view what halted dir name (error.Damaged b) is = tt
blocks_refused view what halted dir name error.TooBig is = absurd is
blocks_refused view what halted dir name error.Exists is = absurd is
blocks_refused view what halted dir name error.Absent is = absurd is
blocks_refused view what halted dir name error.NotEmpty is = absurd is
blocks_refused view what halted dir name error.TooDeep is = absurd is
blocks_refused view what halted dir name error.NoNumbers is = absurd is
blocks_refused view what halted dir name error.NotDir is = absurd is
blocks_refused view what halted dir name error.IsDir is = absurd is
blocks_refused view what halted dir name error.ReadOnly is = absurd is
blocks_refused view what halted dir name error.Halted is = absurd is
blocks_refused view what halted dir name error.Gone is = absurd is
blocks_refused view what halted dir name error.DirFull is = absurd is

-- what is asked needs no other cause
pub told_cause : (a c : State) (full : ℕ → Type 0) (need : ℕ) (e : FileError) → IsTold e → HasCause (faults_of a) (faults_of c) ⊥ full need e
told_cause a c full need error.Memory is = absurd is
told_cause a c full need error.Full is = absurd is
told_cause a c full need error.MainRead is = absurd is
told_cause a c full need error.MainWrite is = absurd is
told_cause a c full need error.MainSync is = absurd is
told_cause a c full need error.ArenaRead is = absurd is
told_cause a c full need error.ArenaWrite is = absurd is
told_cause a c full need error.ArenaSync is = absurd is
told_cause a c full need (error.Damaged b) is = absurd is
told_cause a c full need error.TooBig is = tt
told_cause a c full need error.Exists is = absurd is
told_cause a c full need error.Absent is = absurd is
told_cause a c full need error.NotEmpty is = absurd is
told_cause a c full need error.TooDeep is = absurd is
told_cause a c full need error.NoNumbers is = absurd is
told_cause a c full need error.NotDir is = absurd is
told_cause a c full need error.IsDir is = tt
told_cause a c full need error.ReadOnly is = tt
told_cause a c full need error.Halted is = tt
told_cause a c full need error.Gone is = absurd is
told_cause a c full need error.DirFull is = absurd is

-- what is denied is false, and the other way round
pub not_true : (b : Bool) → true ≡ not b → b ≡ false
not_true true e = absurd (let h : true ≡ false = e in cc)
not_true false e = refl

pub not_false : (b : Bool) → false ≡ not b → b ≡ true
not_false true e = refl
not_false false e = absurd (let h : false ≡ true = e in cc)
