-- A file was made, step by step.
use Rattle.std.specs.Prelude.{◌≡◌, ◌⊎◌, ◌+◌, ◌^◌, ◌<◌, ◌≤◌, ℕ, List, [], ◌∷◌, Option}
use Rattle.fo_image.specs.declared.record.Record.{Record}
use Rattle.fo_crash.specs.Images.{SameImage}
use Rattle.fo_ports.specs.State.{State, Looks, Numbers, Rests, Stays, Uses, Calm, none}
use Rattle.fo_world.specs.declared.error.FileError.{FileError}
use Rattle.fo_world.specs.declared.error.FileError.TheVariants as error
use Rattle.fo_world.specs.declared.place.Place.{Place}
use Rattle.fo_world.specs.declared.place.Info.{Info}
use Rattle.fo_files_create_look.specs.of_files_at.declared.at.Step.{Step}
use Rattle.fo_files_create_look.specs.of_files_at.declared.at.Way.{Way}
use Rattle.fo_files_dir.specs.declared.dir.DirAt.{DirAt}
use Rattle.fo_files_new.specs.declared.pair.Leaves.{Leaves}
use Rattle.fo_files_new.specs.New.{AltersDir, IsLeafOf, IsNew}
use Rattle.fo_files_own.specs.declared.at.OwnAt.{OwnAt}
use Rattle.fo_files_own.specs.Own.{ChangesOwn, LeavesOwn, StepsTo, own_of}
use Rattle.fo_files_create_look.specs.of_files_spot.declared.spot.Spot.{Spot}
use Rattle.fo_files_create_look.specs.of_files_spot.Settles.{SettlesUnless}
use Rattle.fo_files_create_look.specs.of_files_along.Along.{GoesToDir}
use Rattle.fo_files_create_look.specs.declared.found.Found.{Found}
use Rattle.fo_files_create_look.specs.Found.{IsFound}

-- the record with its number
abbrev pub numbered : ℕ → Record → Record
numbered number r = record r { number = number }

-- what is told of a file without bytes that has this record
abbrev pub told_of : Place → Record → Info
told_of place r = record {
  place = place;
  name = r.name;
  path = r.number;
  vers = r.vers;
  mode = r.mode;
  atime = r.atime;
  mtime = r.mtime;
  length = 0;
  uid = r.uid;
  gid = r.gid;
  muid = r.muid;
}

-- the leaf of records that has the record of the file at the end of a way; 0 for the root directory
abbrev pub last_leaf : List Step → ℕ
last_leaf [] = 0
last_leaf (step ∷ []) = step.leaf
last_leaf (step ∷ other ∷ rest) = last_leaf (other ∷ rest)

-- A file number was taken; all else stays.
pub record TakesNumber (s u : State) : Type 0 where
  pub next : u.next ≡ s.next + 1
  pub same : SameImage u.now s.now
  pub stays : Stays none none s u
  pub uses : Uses 0 0 s u

-- A directory's own record was made ready, a new file put into the directory, its number taken, and last the own record put: this one.
pub record MakesNew (B : Type 0) (state : B → State) (old new : B) (dir : DirAt) (own : OwnAt) (touched : Record) (spot : Spot) (named r : Record) : Type 0 where
  pub ready : B
  pub block : ℕ
  pub readied : StepsTo B state old ready own touched.name block
  pub made : B
  pub comes : IsNew B state ready made dir spot.pair spot.leaf named r
  pub stays : (x : Leaves) × AltersDir dir (IsLeafOf x) (state ready) (state made)
  pub counted : B
  pub taken : TakesNumber (state made) (state counted)
  pub changed : ChangesOwn (state counted) (state new) own touched block
  pub calm : Calm (λ x. x ≡ block) 0 (state counted) (state new)

-- A refusal before that leaves this: the own record was not made ready; or it was, and leaves of the directory's sources were.
abbrev pub LeavesNew : (B : Type 0) (state : B → State) (old new : B) (dir : DirAt) → OwnAt → (name : List ℕ) → Type 0
LeavesNew B state old new dir own name = LeavesOwn B state old new own name ⊎ ((ready : B) × (block : ℕ) × StepsTo B state old ready own name block × AltersDir dir none (state ready) (state new))

-- The way to a directory was planned and owned, and a file made in it, with this record.
pub record MakesAlong (B : Type 0) (state : B → State) (old new : B) (root : ℕ) (trail : List ℕ) (way : Way) (spot : Spot) (named r : Record) : Type 0 where
  pub looked : B
  pub looks : Looks (state old) (state looked)
  pub owned : B
  pub dir : DirAt
  pub above : Option DirAt
  pub along : GoesToDir (state looked) (state owned) root trail way dir above
  pub spare : ℕ
  pub makes : MakesNew B state owned new dir (own_of dir above (last_leaf way.steps.items) spare) way.file.named spot named r

-- A refusal on the way, or after it, leaves this.
pub record LeavesWay (B : Type 0) (state : B → State) (old new : B) (root : ℕ) (trail : List ℕ) : Type 0 where
  pub looked : B
  pub looks : Looks (state old) (state looked)
  pub owned : B
  pub way : Way
  pub dir : DirAt
  pub above : Option DirAt
  pub along : GoesToDir (state looked) (state owned) root trail way dir above
  pub spare : ℕ
  pub left : LeavesNew B state owned new dir (own_of dir above (last_leaf way.steps.items) spare) way.file.named.name

abbrev pub LeavesAlong : (B : Type 0) (state : B → State) (old new : B) (root : ℕ) (trail : List ℕ) → Type 0
LeavesAlong B state old new root trail = Looks (state old) (state new) ⊎ LeavesWay B state old new root trail

-- A number was granted, room reserved, or that was tried, and all settled, or that was tried; then the rest was refused, or never begun.
pub record LeavesAfter (B : Type 0) (state : B → State) (old new : B) (root : ℕ) (trail : List ℕ) : Type 0 where
  pub granted : B
  pub numbers : Numbers (state old) (state granted)
  pub rested : B
  pub rests : Looks (state granted) (state rested) ⊎ Rests (state granted) (state rested)
  pub settled : B
  pub settles : (settled ≡ rested) ⊎ Rests (state rested) (state settled)
  pub left : LeavesAlong B state settled new root trail

-- What a refusal leaves: all was only looked at, or it came later.
abbrev pub IsLeft : (B : Type 0) (state : B → State) (old new : B) (root : ℕ) (trail : List ℕ) → Type 0
IsLeft B state old new root trail = Looks (state old) (state new) ⊎ ((looked : B) × Looks (state old) (state looked) × LeavesAfter B state looked new root trail)

-- A number was granted, room reserved, all settled where the name doesn't stand alone, and a file with this record and the number made in the
-- directory that was found.
pub record MakesFound (B : Type 0) (state : B → State) (old new : B) (root : ℕ) (trail : List ℕ) (found : Found) : Type 0 where
  pub granted : B
  pub numbers : Numbers (state old) (state granted)
  pub rested : B
  pub rests : Rests (state granted) (state rested)
  pub settled : B
  pub settles : SettlesUnless B state found.spot.alone rested settled
  pub r : Record
  pub makes : MakesAlong B state settled new root trail found.way found.spot (numbered (state old).next found.named) r

-- A file was made in the directory at the end of a trail: what it needs was found, and then it was.
pub record Creates (B : Type 0) (state : B → State) (old new : B) (root : ℕ) (trail : List ℕ) (named : Record) : Type 0 where
  pub looked : B
  pub looks : Looks (state old) (state looked)
  pub found : Found
  pub is_found : IsFound (state looked) root trail named found
  pub makes : MakesFound B state looked new root trail found

-- A refusal once all was looked at: no number is left, or one is, and blocks refuse; all of them may, but for room.
abbrev pub IsLate : (next : ℕ) → FileError → Type 0
IsLate next error.NoNumbers = 2 ^ 30 ≤ next
IsLate next error.Full = next < 2 ^ 30
IsLate next error.Memory = Unit {0}
IsLate next error.MainRead = Unit {0}
IsLate next error.MainWrite = Unit {0}
IsLate next error.MainSync = Unit {0}
IsLate next error.ArenaRead = Unit {0}
IsLate next error.ArenaWrite = Unit {0}
IsLate next error.ArenaSync = Unit {0}
IsLate next (error.Damaged b) = Unit {0}
IsLate next _ = ⊥
