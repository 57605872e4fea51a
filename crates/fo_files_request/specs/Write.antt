-- A write to a file of the active tree.
use Rattle.std.specs.Prelude.{◌≡◌, ◌⊎◌, ◌+◌, ◌^◌, ◌<◌, ◌≤◌, ℕ, Bool, true, false, List, length}
use Rattle.fo_ports.specs.State.{State, Looks, Rests}
use Rattle.fo_world.specs.declared.error.FileError.{FileError}
use Rattle.fo_world.specs.declared.error.FileError.TheVariants as error
use Rattle.fo_world.specs.declared.place.View.{View}
use Rattle.fo_world.specs.Step.{is_active}
use Rattle.fo_files_into.specs.of_files_at.declared.at.Way.{Way}
use Rattle.fo_files_into.specs.of_files_at.Way.{IsWay}
use Rattle.fo_files_into.specs.Into.{OwnsFile, Puts, LeftBy}
use Rattle.fo_files_into.specs.of_files_along.Along.{with_touched}

-- Why a write of n bytes at an offset is refused where no device is to blame, and in which order: a directory was found; or a file was, and then by the
-- view, the limit, and where the system is halted. Nothing is said of a file that is gone; want of memory and of room, faults and damage have their
-- causes elsewhere.
abbrev pub IsRefused : (view : View) (offset n : ℕ) (halted : Bool) (dir file : Type 0) → FileError → Type 0
IsRefused view offset n halted dir file error.IsDir = dir
IsRefused view offset n halted dir file error.ReadOnly = file × (is_active view ≡ false)
IsRefused view offset n halted dir file error.TooBig = file × (is_active view ≡ true) × (0 < n) × (2 ^ 40 < offset + n)
IsRefused view offset n halted dir file error.Halted = file × (is_active view ≡ true) × (0 < n) × (offset + n ≤ 2 ^ 40) × (halted ≡ true)
IsRefused view offset n halted dir file error.Exists = ⊥
IsRefused view offset n halted dir file error.Absent = ⊥
IsRefused view offset n halted dir file error.NotEmpty = ⊥
IsRefused view offset n halted dir file error.TooDeep = ⊥
IsRefused view offset n halted dir file error.NoNumbers = ⊥
IsRefused view offset n halted dir file error.NotDir = ⊥
IsRefused view offset n halted dir file error.DirFull = ⊥
IsRefused view offset n halted dir file _ = Unit {0}

-- at the end of this trail a directory was found, as the root is one; or a file that is none
abbrev pub FoundDir : (B : Type 0) (state : B → State) (root : ℕ) (trail : List ℕ) → Type 0
FoundDir B state root trail = (length trail ≡ 0) ⊎ ((m : B) × (w : Way) × IsWay (state m) root trail w × (w.file.dir ≡ true))

abbrev pub FoundFile : (B : Type 0) (state : B → State) (root : ℕ) (trail : List ℕ) → Type 0
FoundFile B state root trail = (m : B) × (w : Way) × IsWay (state m) root trail w × (w.file.dir ≡ false)

abbrev pub WhyRefused : (B : Type 0) (state : B → State) (root : ℕ) (trail : List ℕ) (view : View) (offset n : ℕ) (halted : Bool) → FileError → Type 0
WhyRefused B state root trail view offset n halted e = IsRefused view offset n halted (FoundDir B state root trail) (FoundFile B state root trail) e

-- The way was owned, and then a piece put into the file at its end, which has this record then.
pub record PutsFile (B : Type 0) (state : B → State) (old new : B) (root : ℕ) (trail : List ℕ) (way : Way) (offset n : ℕ) : Type 0 where
  pub looked : B
  pub looks : Looks (state old) (state looked)
  pub owned : B
  pub owns : OwnsFile (state looked) (state owned) root trail way
  pub spare : ℕ
  pub puts : Puts B state owned new owns.dir owns.file owns.last.leaf spare way.file.named offset n

-- The way was owned, and then a refusal left this.
pub record StaysFile (B : Type 0) (state : B → State) (old new : B) (root : ℕ) (trail : List ℕ) : Type 0 where
  pub looked : B
  pub looks : Looks (state old) (state looked)
  pub way : Way
  pub owned : B
  pub owns : OwnsFile (state looked) (state owned) root trail way
  pub spare : ℕ
  pub left : LeftBy B state owned new owns.dir owns.file owns.last.leaf spare way.file.named.name

-- so it is where all was only looked at, too
abbrev pub IsLeft : (B : Type 0) (state : B → State) (old new : B) (root : ℕ) (trail : List ℕ) → Type 0
IsLeft B state old new root trail = Looks (state old) (state new) ⊎ StaysFile B state old new root trail

-- A write was granted: the file was found, room reserved, the way owned, and the piece and the record put.
pub record Writes (B : Type 0) (state : B → State) (old new : B) (root : ℕ) (trail : List ℕ) (offset n : ℕ) (who : List ℕ) (now : ℕ) : Type 0 where
  pub looked : B
  pub looks : Looks (state old) (state looked)
  pub way : Way
  pub found : IsWay (state looked) root trail way
  pub is_file : way.file.dir ≡ false
  pub rested : B
  pub rests : Rests (state looked) (state rested)
  pub new_way : Way
  pub same_steps : new_way.steps ≡ way.steps
  pub new_is : new_way.file ≡ with_touched who now way.file
  pub puts : PutsFile B state rested new root trail new_way offset n

-- A write was refused: after a look, or a reservation, or later.
pub record Refused (B : Type 0) (state : B → State) (old new : B) (root : ℕ) (trail : List ℕ) : Type 0 where
  pub looked : B
  pub looks : Looks (state old) (state looked)
  pub rested : B
  pub rests : Looks (state looked) (state rested) ⊎ Rests (state looked) (state rested)
  pub left : IsLeft B state rested new root trail
