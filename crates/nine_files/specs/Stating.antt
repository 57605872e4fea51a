-- What a stat record changes of a file (stat(5) of the Plan 9 manual).
use Rattle.std.specs.Prelude.{ℕ, ◌-◌, ◌^◌, List, [], length, Bool, true, false, not, ◌&&◌, ◌||◌, ◌==◌, Option, Some, None, is_some, is_none, Result, Ok, if◌then◌else◌}
use Rattle.std.specs.Str.{bytes_eq}
use Rattle.nine_stat.specs.declared.stat.Stat.{Stat}
use Rattle.fo_world.specs.declared.place.Change.{Change}
use Rattle.fo_world.specs.declared.place.Info.{Info}
use Rattle.fo_world.specs.World.{World}
use Rattle.fo_users.specs.Table.{is_known}
use Rattle.fo_users.specs.declared.right.Right.TheVariants.{Write}
use Rattle.nine_fids.specs.declared.fid.Fid.{Fid}
use Rattle.nine_fids.specs.declared.refusal.Refusal.{Refusal}
use Rattle.nine_fids.specs.declared.refusal.Refusal.TheVariants as refusal
use Rattle.fo_world.specs.Chain.{refuse_if}
use Rattle.nine_fids.specs.Told.{Files, is_dir, qid_of}
use Rattle.fo_users.specs.declared.table.User.{User}
use Rattle.fo_users.specs.Rights.{may}
use Rattle.nine_fids.specs.Rights.{table_of, owns, may_give, may_write_above_by}
use Rattle.nine_files.specs.Opening.{is_bad_name}

-- ---- Twstat

-- a number that is all ones, and an empty string, touch nothing
abbrev pub given : ℕ → ℕ → Option ℕ
given width n = if n == 2 ^ width - 1 then None else Some n

-- the same of a text
abbrev pub given_text : List ℕ → Option (List ℕ)
given_text text = if bytes_eq text [] then None else Some text

-- what a stat record asks to be changed of a file
abbrev pub change_of : Stat → Change
change_of s = record { mode = given 32 s.mode; mtime = given 32 s.mtime; length = given 64 s.length; name = given_text s.name; gid = given_text s.gid }

-- a number or a text that is given is another one than this
abbrev pub differs : Option ℕ → ℕ → Bool
differs None now = false
differs (Some n) now = not (n == now)

-- the same of a text
abbrev pub text_differs : Option (List ℕ) → List ℕ → Bool
text_differs None now = false
text_differs (Some text) now = not (bytes_eq text now)

-- a field that can't be changed is given; the time of the last access is never looked at
abbrev pub touches_fixed : Stat → Bool
touches_fixed s = is_some (given 16 s.kind) || is_some (given 32 s.dev) || is_some (given 8 s.qid.kind) || is_some (given 32 s.qid.vers) || is_some (given 64 s.qid.path) || is_some (given_text s.uid) || is_some (given_text s.muid)

-- a field that can be changed is given
abbrev pub touches : Change → Bool
touches c = is_some c.mode || is_some c.mtime || is_some c.length || is_some c.name || is_some c.gid

-- a field that can't be changed is given another value than the present one
abbrev pub changes_fixed : Stat → Info → Bool
changes_fixed s i =
    differs (given 16 s.kind) 0 || differs (given 32 s.dev) 0
    || differs (given 8 s.qid.kind) (qid_of i).kind || differs (given 32 s.qid.vers) i.vers || differs (given 64 s.qid.path) i.path
    || text_differs (given_text s.uid) i.uid || text_differs (given_text s.muid) i.muid

-- DMDIR would come or go
abbrev pub changes_kind : Option ℕ → ℕ → Bool
changes_kind None mode = false
changes_kind (Some new) mode = if is_dir new then not (is_dir mode) else is_dir mode

-- a directory would get a length
abbrev pub lengthens : Option ℕ → ℕ → Bool
lengthens length mode = is_dir mode && differs length 0

-- a group that the table lacks
abbrev pub is_strange : List User → Option (List ℕ) → Bool
is_strange table None = false
is_strange table (Some gid) = not (is_known table gid)

-- a name is given that no file may have
abbrev pub names_badly : Option (List ℕ) → Bool
names_badly None = false
names_badly (Some name) = is_bad_name name

-- a name may be given, and not to a root
unfoldable pub allowed_name : Fid → Option (List ℕ) → Result (Unit {0}) Refusal
allowed_name f name =
    refuse_if (names_badly name) refusal.BadName (
    refuse_if (is_some name && (length f.place.trail == 0)) refusal.RenamesRoot (Ok tt))

-- the rights that the changes need, but that of a name
abbrev pub may_regroup : List User → List ℕ → Info → Option (List ℕ) → Bool
may_regroup table user i None = true
may_regroup table user i (Some gid) = may_give table user i gid

-- To write for a length, to own the file for a mode or a time, and to give it to a group.
abbrev pub may_change : List User → List ℕ → Info → Change → Bool
may_change table user i c =
    (is_none c.length || may table user i Write) && ((is_none c.mode && is_none c.mtime) || owns table user i) && may_regroup table user i c.gid

-- The same by a table, and a name needs the right to write in the directory.
unfoldable pub changing_rights_by : List User → Files → World → Fid → Info → Change → Result (Unit {0}) Refusal
changing_rights_by table e w f i c =
    refuse_if (not (may_change table f.user i c)) refusal.PermissionDenied (if is_some c.name then may_write_above_by table e w f else Ok tt)

-- by the table of the active tree
abbrev pub changing_rights : Files → World → Fid → Info → Change → Result (Unit {0}) Refusal
changing_rights e w f i c = changing_rights_by (table_of e w) e w f i c
