-- Laws of the file step: what a call leaves alone, that file numbers stay distinct and below the next one, and that worlds stay within the limits.
use Rattle.std.specs.Prelude.{◌≡◌, ℕ, ◌+◌, ◌≤◌, List, [], ◌∷◌, Bool, true, false, nat_eq, Option, IfSome, Ok, if◌then◌else◌}
use Rattle.fo_world.specs.declared.tree.Node.{Node}
use Rattle.fo_world.specs.declared.tree.Body.{Body}
use Rattle.fo_world.specs.declared.tree.Body.TheVariants.{File, Dir}
use Rattle.fo_world.specs.declared.place.Place.{Place}
use Rattle.fo_world.specs.declared.place.Info.{Info}
use Rattle.fo_world.specs.declared.place.Change.{Change}
use Rattle.fo_world.specs.Names.{Names, no_names, file, folder}
use Rattle.fo_world.specs.Tree.{along, change_along}
use Rattle.fo_world.specs.World.{World}
use Rattle.fo_world.specs.Limits.{IsName, IsUser}
use Rattle.fo_world.specs.Fits.{WorldFits, InfoFits}
use Rattle.fo_world.specs.Step.{info, find, parent, next_name, write, create, remove, change}

-- ---- how often a number is given

abbrev pub here : ℕ → ℕ → ℕ
here k number = if nat_eq number k then 1 else 0

-- how many files and directories have the number, at all depths
abbrev pub times : ℕ → Names → ℕ
times k no_names = 0
times k (file name stat bytes rest) = here k stat.number + times k rest
times k (folder name stat inside rest) = here k stat.number + times k inside + times k rest

abbrev pub times_in : ℕ → Body → ℕ
times_in k (File bytes) = 0
times_in k (Dir names) = times k names

abbrev pub times_at : ℕ → Node → ℕ
times_at k node = here k node.number + times_in k node.body

-- Each number below the next one is given at most once in a tree, and no other is.
pub record IsNumbered (next : ℕ) (root : Node) : Type 0 where
  pub once : (k : ℕ) → times_at k root ≤ 1
  pub below : (k : ℕ) → next ≤ k → times_at k root ≡ 0

-- All but the active tree and the next number stays, and numbers stay distinct and below the next one.
pub record Goes (old new : World) : Type 0 where
  pub low : new.low ≡ old.low
  pub high : new.high ≡ old.high
  pub snaps : new.snaps ≡ old.snaps
  pub archives : new.archives ≡ old.archives
  pub pending : new.pending ≡ old.pending
  pub halted : new.halted ≡ old.halted
  pub exclusive : new.exclusive ≡ old.exclusive
  pub next : old.next ≤ new.next
  pub numbered : IsNumbered old.next old.active.root → IsNumbered new.next new.active.root

-- two trails part: at some step they take different numbers
abbrev pub part : List ℕ → List ℕ → Bool
part [] s = false
part (k ∷ ks) [] = false
part (k ∷ ks) (j ∷ js) = if nat_eq j k then part ks js else true

-- ---- the laws

abbrev pub WriteGoes : Type 0
WriteGoes = (whole : Bool) (largest : ℕ) (w : World) (at : Place) (offset : ℕ) (bytes who : List ℕ) (now : ℕ) (w' : World) → write whole largest w at offset bytes who now ≡ Ok (tt, w') → Goes w w'

abbrev pub CreateGoes : Type 0
CreateGoes = (whole : Bool) (w : World) (at : Place) (name : List ℕ) (mode : ℕ) (who uid gid : List ℕ) (now : ℕ) (i : Info) (w' : World) → create whole w at name mode who uid gid now ≡ Ok (i, w') → Goes w w'

abbrev pub RemoveGoes : Type 0
RemoveGoes = (whole : Bool) (w : World) (at : Place) (who : List ℕ) (now : ℕ) (w' : World) → remove whole w at who now ≡ Ok (tt, w') → Goes w w'

abbrev pub ChangeGoes : Type 0
ChangeGoes = (whole : Bool) (largest : ℕ) (w : World) (at : Place) (what : Change) (who : List ℕ) (now : ℕ) (w' : World) → change whole largest w at what who now ≡ Ok (tt, w') → Goes w w'

-- A change of the file at one trail leaves the files at each trail that parts from it.
abbrev pub OthersStay : Type 0
OthersStay = (trail s : List ℕ) (f : Node → Node) → ((m : Node) → (f m).number ≡ m.number) → part trail s ≡ true → (name : List ℕ) (node : Node) → along s (name, change_along trail f node) ≡ along s (name, node)

-- What is told of a file of a world within the limits fits a stat record.
abbrev pub InfoIsFit : Type 0
InfoIsFit = (whole : Bool) (w : World) (at : Place) (i : Info) (w' : World) → WorldFits w → info whole w at ≡ Ok (i, w') → InfoFits i

abbrev pub FindIsFit : Type 0
FindIsFit = (whole : Bool) (w : World) (at : Place) (name : List ℕ) (i : Info) (w' : World) → WorldFits w → find whole w at name ≡ Ok (i, w') → InfoFits i

abbrev pub ParentIsFit : Type 0
ParentIsFit = (whole : Bool) (w : World) (at : Place) (i : Info) (w' : World) → WorldFits w → parent whole w at ≡ Ok (i, w') → InfoFits i

abbrev pub NextIsFit : Type 0
NextIsFit = (whole : Bool) (w : World) (at : Place) (after : Option (List ℕ)) (o : Option Info) (w' : World) → WorldFits w → next_name whole w at after ≡ Ok (o, w') → IfSome o InfoFits

-- A world within the limits stays so.
abbrev pub WriteFits : Type 0
WriteFits = (whole : Bool) (largest : ℕ) (w : World) (at : Place) (offset : ℕ) (bytes who : List ℕ) (now : ℕ) (w' : World) → IsUser who → WorldFits w → write whole largest w at offset bytes who now ≡ Ok (tt, w') → WorldFits w'

pub record MadeFits (i : Info) (w : World) : Type 0 where
  pub told : InfoFits i
  pub world : WorldFits w

abbrev pub CreateFits : Type 0
CreateFits = (whole : Bool) (w : World) (at : Place) (name : List ℕ) (mode : ℕ) (who uid gid : List ℕ) (now : ℕ) (i : Info) (w' : World) → IsName name → IsUser who → IsUser uid → IsUser gid → WorldFits w → create whole w at name mode who uid gid now ≡ Ok (i, w') → MadeFits i w'

abbrev pub RemoveFits : Type 0
RemoveFits = (whole : Bool) (w : World) (at : Place) (who : List ℕ) (now : ℕ) (w' : World) → IsUser who → WorldFits w → remove whole w at who now ≡ Ok (tt, w') → WorldFits w'

abbrev pub ChangeFits : Type 0
ChangeFits = (whole : Bool) (largest : ℕ) (w : World) (at : Place) (what : Change) (who : List ℕ) (now : ℕ) (w' : World) → IfSome what.name IsName → IfSome what.gid IsUser → IsUser who → WorldFits w → change whole largest w at what who now ≡ Ok (tt, w') → WorldFits w'
