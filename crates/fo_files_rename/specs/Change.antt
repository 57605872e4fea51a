-- A file was changed: all that is given of it.
use Rattle.std.specs.Prelude.{◌≡◌, ◌⊎◌, ◌<◌, ℕ, Bool, true, false, List, [], length, Option, None, is_some}
use Rattle.fo_image.specs.declared.record.Record.{Record}
use Rattle.fo_ports.specs.State.{State, Looks, Rests}
use Rattle.fo_world.specs.declared.place.Change.{Change}
use Rattle.fo_world.specs.declared.place.Place.{Place}
use Rattle.fo_world.specs.Step.{new_name}
use Rattle.fo_files_edit.specs.of_files_at.declared.at.Way.{Way}
use Rattle.fo_files_edit.specs.Asks.{FoundSame, FoundOther}
use Rattle.fo_files_edit.specs.Edit.{EditsFile, IsLeft, EditsRoot, RootLeft}
use Rattle.fo_files_spot.specs.Settles.{SettlesUnless}
use Rattle.fo_files_rename.specs.Rename.{IsOwnOf, LeavesAlong, RenamesAlong}

-- the length that a file is given; a directory has none
abbrev pub given_of : Bool → Option ℕ → Option ℕ
given_of true given = None
given_of false given = given

-- Room was reserved, or that was tried, and the root directory changed.
pub record ChangesRoot (B : Type 0) (state : B → State) (old new : B) (root : ℕ) (trail : List ℕ) (way : Way) : Type 0 where
  pub none : trail ≡ []
  pub rested : B
  pub rests : Rests (state old) (state rested)
  pub edits : EditsRoot B state rested new root way

-- Room was reserved, and a file changed that keeps its name.
pub record ChangesBelow (B : Type 0) (state : B → State) (old new : B) (root : ℕ) (trail : List ℕ) (way : Way) (name : List ℕ) (what : Change) : Type 0 where
  pub some : 0 < length trail
  pub same : is_some (new_name what.name name) ≡ false
  pub rested : B
  pub rests : Rests (state old) (state rested)
  pub edits : EditsFile B state rested new root trail way name (given_of way.file.dir what.length)

-- The directory's own record was looked at, and whether the new name stands alone in the leaf that has the record; room was reserved, all settled where
-- it doesn't, and a file changed that gets a new name; its directory has this record of its own then.
pub record OwnsName (B : Type 0) (state : B → State) (old new : B) (root : ℕ) (trail : List ℕ) (way : Way) (name : List ℕ) (given : Option ℕ) (who : List ℕ) (now : ℕ) : Type 0 where
  pub looked : B
  pub looks : Looks (state old) (state looked)
  pub own : Record
  pub own_is : IsOwnOf way.steps.items who now own
  pub rested : B
  pub rests : Rests (state looked) (state rested)
  pub alone : Bool
  pub settled : B
  pub settles : SettlesUnless B state alone rested settled
  pub renames : RenamesAlong B state settled new root trail way name own given

pub record ChangesName (B : Type 0) (state : B → State) (old new : B) (root : ℕ) (trail : List ℕ) (way : Way) (name : List ℕ) (what : Change) (who : List ℕ) (now : ℕ) : Type 0 where
  pub some : 0 < length trail
  pub other : is_some (new_name what.name name) ≡ true
  pub owns : OwnsName B state old new root trail way name (given_of way.file.dir what.length) who now

abbrev pub ChangesFound : (B : Type 0) (state : B → State) (old new : B) (root : ℕ) (trail : List ℕ) → Way → List ℕ → Change → List ℕ → ℕ → Type 0
ChangesFound B state old new root trail way name what who now =
    ChangesRoot B state old new root trail way
    ⊎ (ChangesBelow B state old new root trail way name what
    ⊎ ChangesName B state old new root trail way name what who now)

-- What a refusal of such a change leaves.
pub record LeavesRoot (B : Type 0) (state : B → State) (old new : B) (root : ℕ) (way : Way) : Type 0 where
  pub rested : B
  pub rests : Rests (state old) (state rested)
  pub left : RootLeft B state rested new root way

pub record LeavesBelow (B : Type 0) (state : B → State) (old new : B) (root : ℕ) (trail : List ℕ) (way : Way) (name : List ℕ) (given : Option ℕ) : Type 0 where
  pub rested : B
  pub rests : Rests (state old) (state rested)
  pub left : IsLeft B state rested new root trail way name given

pub record LeavesName (B : Type 0) (state : B → State) (old new : B) (root : ℕ) (trail : List ℕ) (way : Way) (name : List ℕ) (given : Option ℕ) : Type 0 where
  pub looked : B
  pub looks : Looks (state old) (state looked)
  pub own_name : List ℕ
  pub rested : B
  pub rests : Rests (state looked) (state rested)
  pub settled : B
  pub settles : (settled ≡ rested) ⊎ Rests (state rested) (state settled)
  pub left : LeavesAlong B state settled new root trail way name own_name given

-- so it is where all was only looked at, too
abbrev pub LeavesFound : (B : Type 0) (state : B → State) (old new : B) (root : ℕ) (trail : List ℕ) → Way → List ℕ → Change → Type 0
LeavesFound B state old new root trail way name what =
    Looks (state old) (state new)
    ⊎ (LeavesRoot B state old new root way
    ⊎ (LeavesBelow B state old new root trail way name (given_of way.file.dir what.length)
    ⊎ LeavesName B state old new root trail way name (given_of way.file.dir what.length)))

-- A file was found for which something changes, and changed.
pub record ChangesFile (B : Type 0) (state : B → State) (old new : B) (root : ℕ) (at : Place) (what : Change) (halted : Bool) (who : List ℕ) (now : ℕ) : Type 0 where
  pub looked : B
  pub looks : Looks (state old) (state looked)
  pub way : Way
  pub name : List ℕ
  pub found : FoundOther (state looked) root at what halted who now way name
  pub changes : ChangesFound B state looked new root at.trail way name what who now

-- One was found for which nothing changes, and all was only looked at.
pub record KeepsFile (B : Type 0) (state : B → State) (old new : B) (root : ℕ) (at : Place) (what : Change) : Type 0 where
  pub looks : Looks (state old) (state new)
  pub same : FoundSame (state new) root at what

-- A file was found for which something changes, and then a refusal left this.
pub record LeavesFile (B : Type 0) (state : B → State) (old new : B) (root : ℕ) (at : Place) (what : Change) (halted : Bool) (who : List ℕ) (now : ℕ) : Type 0 where
  pub looked : B
  pub looks : Looks (state old) (state looked)
  pub way : Way
  pub name : List ℕ
  pub found : FoundOther (state looked) root at what halted who now way name
  pub left : LeavesFound B state looked new root at.trail way name what
