-- What a change asks for, and what is refused of it.
use Rattle.std.specs.Prelude.{◌≡◌, ◌≢◌, ◌⊎◌, ◌^◌, ◌<◌, ◌≤◌, ℕ, Bool, true, false, ◌&&◌, ◌||◌, List, length, Some, None, IfSome, is_none}
use Rattle.fo_world.specs.declared.error.FileError.{FileError}
use Rattle.fo_world.specs.declared.error.FileError.TheVariants as error
use Rattle.fo_world.specs.declared.place.Change.{Change}
use Rattle.fo_world.specs.declared.place.Place.{Place}
use Rattle.fo_world.specs.declared.place.View.{View}
use Rattle.fo_world.specs.Limits.{IsName, IsUser}
use Rattle.fo_world.specs.Step.{is_active, new_name}
use Rattle.fo_ports.specs.State.{State}
use Rattle.fo_files_into.specs.of_files_at.declared.at.Way.{Way}
use Rattle.fo_files_into.specs.of_files_at.Way.{IsWay}
use Rattle.fo_files_into.specs.of_files_along.Along.{IsBlocks}
use Rattle.fo_files_edit.specs.Fields.{with_edited}

-- A change keeps within the limits, and gives no name to a root (`IsChange` of fo_world, over devices that may not be honest).
pub record MayAsk (at : Place) (what : Change) : Type 0 where
  pub name : IfSome what.name IsName
  pub gid : IfSome what.gid IsUser
  pub root : length at.trail ≡ 0 → what.name ≡ None

-- Nothing is given, or only what changes nothing: the present name, and length 0 of a directory.
abbrev pub changes_nothing : Change → List ℕ → Bool → Bool
changes_nothing what name dir = is_none what.mode && is_none what.mtime && is_none what.gid && is_none (new_name what.name name) && (is_none what.length || dir)

-- a directory has no length but 0
abbrev pub GivesLength : Change → Type 0
GivesLength what = (n : ℕ) × (what.length ≡ Some n) × (0 < n)

abbrev pub Exceeds : Change → Type 0
Exceeds what = (n : ℕ) × (what.length ≡ Some n) × (2 ^ 40 < n)

-- another name is given than this
abbrev pub GivesName : Change → List ℕ → Type 0
GivesName what name = (new : List ℕ) × (what.name ≡ Some new) × (new ≢ name)

-- Why a change of a file that was found is refused where no device is to blame: a length is given for a directory; the view; the limit; another name is
-- given, which another file may have; something is given and the system is halted. Want of memory and of room, faults and damage have their causes
-- elsewhere.
abbrev pub IsRefused : (view : View) (what : Change) (halted dir : Bool) (name : List ℕ) → FileError → Type 0
IsRefused view what halted dir name error.IsDir = (dir ≡ true) × GivesLength what
IsRefused view what halted dir name error.ReadOnly = is_active view ≡ false
IsRefused view what halted dir name error.Exists = (is_active view ≡ true) × GivesName what name
IsRefused view what halted dir name error.TooBig = (is_active view ≡ true) × Exceeds what
IsRefused view what halted dir name error.Halted = (is_active view ≡ true) × (halted ≡ true) × (changes_nothing what name dir ≡ false)
IsRefused view what halted dir name error.Gone = ⊥
IsRefused view what halted dir name error.Absent = ⊥
IsRefused view what halted dir name error.NotEmpty = ⊥
IsRefused view what halted dir name error.TooDeep = ⊥
IsRefused view what halted dir name error.NoNumbers = ⊥
IsRefused view what halted dir name error.NotDir = ⊥
IsRefused view what halted dir name error.DirFull = ⊥
IsRefused view what halted dir name _ = Unit {0}

-- a refusal by what is asked, which needs no other cause
abbrev pub IsTold : FileError → Type 0
IsTold error.IsDir = Unit {0}
IsTold error.ReadOnly = Unit {0}
IsTold error.TooBig = Unit {0}
IsTold error.Halted = Unit {0}
IsTold _ = ⊥

-- no file was found, or a device is to blame
abbrev pub IsUnfound : FileError → Type 0
IsUnfound error.Gone = Unit {0}
IsUnfound e = IsBlocks e

-- Why a change of the file at a place is refused: none was found, or a device is to blame; or one was found, of which it is refused.
abbrev pub WhyRefused : (B : Type 0) (state : B → State) (root : ℕ) (at : Place) (what : Change) (halted : Bool) → FileError → Type 0
WhyRefused B state root at what halted e = IsUnfound e ⊎ ((m : B) × (w : Way) × IsWay (state m) root at.trail w × IsRefused at.view what halted w.file.dir w.file.named.name e)

-- A file was found for which nothing that is given changes anything.
abbrev pub FoundSame : (s : State) (root : ℕ) (at : Place) (what : Change) → Type 0
FoundSame s root at what = (w : Way) × IsWay s root at.trail w × (is_active at.view ≡ true) × (changes_nothing what w.file.named.name w.file.dir ≡ true)

-- A file was found that changes: the same way, with the record after all that is given, and the name that it had.
pub record FoundOther (s : State) (root : ℕ) (at : Place) (what : Change) (halted : Bool) (who : List ℕ) (now : ℕ) (new : Way) (name : List ℕ) : Type 0 where
  pub way : Way
  pub found : IsWay s root at.trail way
  pub active : is_active at.view ≡ true
  pub other : changes_nothing what way.file.named.name way.file.dir ≡ false
  pub awake : halted ≡ false
  pub within : IfSome what.length (λ n. n ≤ 2 ^ 40)
  pub same_steps : new.steps ≡ way.steps
  pub new_is : new.file ≡ with_edited what who now way.file
  pub name_is : name ≡ way.file.named.name
  pub is_way : IsWay s root at.trail new
