-- A file is taken out of its directory.
use Rattle.std.specs.Prelude.{◌≡◌, ◌⊎◌, ◌-◌, ℕ, Bool, true, false, List, length, get_or, Option}
use Rattle.fo_image.specs.declared.record.Record.{Record}
use Rattle.fo_image.specs.Record.{RecordHolds, RootRecordHolds}
use Rattle.fo_ports.specs.State.{State, Calm, Looks, Rests}
use Rattle.fo_world.specs.declared.error.FileError.{FileError}
use Rattle.fo_world.specs.declared.error.FileError.TheVariants as error
use Rattle.fo_world.specs.declared.place.View.{View}
use Rattle.fo_world.specs.Step.{is_active}
use Rattle.fo_files_along.specs.of_files_at.declared.at.Step.{Step}
use Rattle.fo_files_along.specs.of_files_at.declared.at.Way.{Way}
use Rattle.fo_files_along.specs.of_files_at.Way.{IsWay}
use Rattle.fo_files_dir.specs.declared.dir.DirAt.{DirAt}
use Rattle.fo_files_dir.specs.declared.dir.FileAt.{FileAt}
use Rattle.fo_files_own.specs.of_files_leaf.Leaf.{Readied}
use Rattle.fo_files_own.specs.of_files_record.Stays.{Rewrites, no_slot}
use Rattle.fo_files_own.specs.of_files_record.Takes.{TakesOut}
use Rattle.fo_files_own.specs.of_files_change.Records.{AltersRecords, records_of}
use Rattle.fo_files_along.specs.Along.{GoesAlong, touched}
use Rattle.fo_files_own.specs.declared.at.OwnAt.{OwnAt}
use Rattle.fo_files_own.specs.declared.at.ReadyOwn.{ReadyOwn}
use Rattle.fo_files_own.specs.Own.{ChangesOwn, HasReady, LeavesOwn, StepsTo, own_of}
use Rattle.fo_files_take.specs.declared.look.Found.{Found}

-- Why a removal is refused where no device is to blame, in this order: by the view, of a directory, and where the system is halted. A file that is
-- gone, want of memory and of room, faults and damage have their causes elsewhere.
abbrev pub IsRefused : (view : View) (halted : Bool) (dir : Type 0) → FileError → Type 0
IsRefused view halted dir error.ReadOnly = is_active view ≡ false
IsRefused view halted dir error.NotEmpty = (is_active view ≡ true) × dir
IsRefused view halted dir error.Halted = (is_active view ≡ true) × (halted ≡ true)
IsRefused view halted dir error.IsDir = ⊥
IsRefused view halted dir error.NotDir = ⊥
IsRefused view halted dir error.Exists = ⊥
IsRefused view halted dir error.Absent = ⊥
IsRefused view halted dir error.TooBig = ⊥
IsRefused view halted dir error.TooDeep = ⊥
IsRefused view halted dir error.NoNumbers = ⊥
IsRefused view halted dir error.DirFull = ⊥
IsRefused view halted dir _ = Unit {0}

-- What was found for a removal: the way to a file, the record that its directory has after this user changed it at a moment, which may stand where
-- that directory's does.
pub record IsFound (s : State) (root : ℕ) (trail : List ℕ) (who : List ℕ) (now : ℕ) (f : Found) : Type 0 where
  pub way : IsWay s root trail f.way
  pub last : Step
  pub last_is : last ≡ get_or f.way.steps.items (length trail - 1) last
  pub own_is : f.own ≡ touched who now last.dir.named
  pub holds : RecordHolds f.own
  pub of_root : length trail ≡ 1 → RootRecordHolds f.own

-- The directory's own record was made ready; then a file's record went out of leaf `i` of its records, with its pair; and then the own record was put.
pub record TakesFrom (B : Type 0) (state : B → State) (old new : B) (dir : DirAt) (own : OwnAt) (changed : Record) (entries i pair : ℕ) (name : List ℕ) (is_dir : Bool) : Type 0 where
  pub made : ReadyOwn
  pub ready : B
  pub steps : StepsTo B state old ready own changed.name made.at
  pub has : HasReady (state ready) own changed made
  pub looked : B
  pub owned : B
  pub settled : B
  pub taken : B
  pub leaf : ℕ
  pub readied : Readied (state ready) (state looked) (state owned) (records_of dir i) leaf
  pub alters : AltersRecords dir (state ready) (state owned)
  pub takes : TakesOut (state owned) (state settled) (state taken) leaf entries pair name is_dir
  pub own_is : ChangesOwn (state taken) (state new) own changed made.at
  pub calm : Calm (λ b. b ≡ made.at) 0 (state taken) (state new)

-- A refusal left this: before the own record was ready; or then, with no record of the directory other than it was, though all may have been settled.
abbrev pub LeavesFrom : (B : Type 0) (state : B → State) (old new : B) (dir : DirAt) (own : OwnAt) (name : List ℕ) → Type 0
LeavesFrom B state old new dir own name =
    LeavesOwn B state old new own name
    ⊎ ((block : ℕ) × (ready m : B) × StepsTo B state old ready own name block × AltersRecords dir (state ready) (state m) × Rewrites (λ b. ⊥) no_slot (state m) (state new))

-- The way to a file was owned: `dir` is its directory, and `own` where that one's record stands; the file's pair is in leaf `file.at` of the entries.
pub record OwnsBoth (s u : State) (root : ℕ) (trail : List ℕ) (way : Way) : Type 0 where
  pub dir : DirAt
  pub file : FileAt
  pub above : Option DirAt
  pub along : GoesAlong s u root trail way dir file above
  pub last : Step
  pub last_is : last ≡ get_or way.steps.items (length trail - 1) last
  pub leaf : ℕ
  pub spare : ℕ

-- where the record of the directory stands then
abbrev pub own_there : {s u : State} {root : ℕ} {trail : List ℕ} {way : Way} → OwnsBoth s u root trail way → OwnAt
own_there x = own_of x.dir x.above x.leaf x.spare

-- The way was owned, and then the file at its end taken out of its directory, which says that this user changed it at a moment.
pub record TakesFile (B : Type 0) (state : B → State) (old new : B) (root : ℕ) (trail : List ℕ) (way : Way) (who : List ℕ) (now : ℕ) : Type 0 where
  pub looked : B
  pub looks : Looks (state old) (state looked)
  pub owned : B
  pub owns : OwnsBoth (state looked) (state owned) root trail way
  pub takes : TakesFrom B state owned new owns.dir (own_there owns) (touched who now owns.last.dir.named) owns.file.at owns.last.leaf way.file.named.slot way.file.named.name way.file.dir

-- The way was owned, and then a refusal left this.
pub record StaysFile (B : Type 0) (state : B → State) (old new : B) (root : ℕ) (trail : List ℕ) : Type 0 where
  pub looked : B
  pub looks : Looks (state old) (state looked)
  pub way : Way
  pub owned : B
  pub owns : OwnsBoth (state looked) (state owned) root trail way
  pub left : LeavesFrom B state owned new owns.dir (own_there owns) owns.last.dir.named.name

-- so it is where all was only looked at, too
abbrev pub IsLeft : (B : Type 0) (state : B → State) (old new : B) (root : ℕ) (trail : List ℕ) → Type 0
IsLeft B state old new root trail = Looks (state old) (state new) ⊎ StaysFile B state old new root trail

-- A removal was granted: the file was found, room reserved, the way owned, and the file taken out.
pub record Removes (B : Type 0) (state : B → State) (old new : B) (root : ℕ) (trail : List ℕ) (who : List ℕ) (now : ℕ) : Type 0 where
  pub looked : B
  pub looks : Looks (state old) (state looked)
  pub way : Way
  pub found : IsWay (state looked) root trail way
  pub rested : B
  pub rests : Rests (state looked) (state rested)
  pub takes : TakesFile B state rested new root trail way who now

-- A removal was refused: after a look, or a reservation, or later.
pub record Refused (B : Type 0) (state : B → State) (old new : B) (root : ℕ) (trail : List ℕ) : Type 0 where
  pub looked : B
  pub looks : Looks (state old) (state looked)
  pub rested : B
  pub rests : Looks (state looked) (state rested) ⊎ Rests (state looked) (state rested)
  pub left : IsLeft B state rested new root trail
