-- Where names lead (walk(5) of the Plan 9 manual).
use Rattle.std.specs.Prelude.{ℕ, List, [], ◌∷◌, length, Bool, not, ◌==◌, ◌&&◌, ◌||◌, Some, None, Result, Ok, Err, if◌then◌else◌, codes}
use Rattle.std.specs.Str.{bytes_eq}
use Rattle.nine_fields.specs.declared.qid.Qid.{Qid}
use Rattle.fo_world.specs.declared.place.Info.{Info}
use Rattle.fo_world.specs.declared.error.FileError.TheVariants as error
use Rattle.fo_world.specs.World.{World}
use Rattle.fo_users.specs.declared.right.Right.TheVariants.{Execute}
use Rattle.nine_files.specs.declared.walking.Walked.{Walked}
use Rattle.nine_fids.specs.declared.refusal.Refusal.{Refusal}
use Rattle.nine_fids.specs.declared.refusal.Refusal.TheVariants as refusal
use Rattle.fo_world.specs.Chain.{refuse_if}
use Rattle.nine_fids.specs.Told.{Files, parent_at, named_at, is_dir, qid_of}
use Rattle.fo_users.specs.declared.table.User.{User}
use Rattle.fo_users.specs.Rights.{may}
use Rattle.nine_fids.specs.Rights.{table_of}

-- `.` and the empty name stand for no file
abbrev pub stands_for_none : List ℕ → Bool
stands_for_none name = bytes_eq name [] || bytes_eq name (codes ".")

-- `..` stands for the directory above
abbrev pub is_up : List ℕ → Bool
is_up name = bytes_eq name (codes "..")

-- what a name leads to from a file, for a user of a table; `..` leads to the directory above
unfoldable pub next_by : List User → Files → World → List ℕ → Info → List ℕ → Result Info Refusal
next_by table e w user i name =
    refuse_if (not (is_dir i.mode)) (refusal.File error.NotDir) (
    refuse_if (not (may table user i Execute)) refusal.PermissionDenied (
    if is_up name then parent_at e w i.place
    else refuse_if (stands_for_none name) (refusal.File error.Absent) (named_at e w i.place name)))

-- how far a walk comes, by one file more
abbrev pub passed : Qid → Walked → Walked
passed qid w = record w { qids = qid ∷ w.qids }

-- a walk goes on from the next file, or stops where there is none
abbrev pub from_next : (Info → Walked) → Info → Result Info Refusal → Walked
from_next go i (Ok j) = passed (qid_of j) (go j)
from_next go i (Err r) = record { qids = []; last = i.place; stopped = Some r }

-- a walk by names: the qids of the files on the way, the last place, and why it stopped before the end
unfoldable pub walked_by : List User → Files → World → List ℕ → List (List ℕ) → Info → Walked
walked_by table e w user [] i = record { qids = []; last = i.place; stopped = None }
walked_by table e w user (name ∷ names) i = from_next (walked_by table e w user names) i (next_by table e w user i name)

-- by one name, and whatever the table the user may go through the first directory
abbrev pub is_free : List ℕ → List (List ℕ) → Info → Bool
is_free user names i = length names == 1 && may [] user i Execute

-- by the table of the active tree
abbrev pub walked : Files → World → List ℕ → List (List ℕ) → Info → Walked
walked e w user names i = walked_by (table_of e w) e w user names i
