-- Who may do what, by the table of users that the active tree has at /adm/users (users(6) of the Plan 9 manual).
use Rattle.std.specs.Prelude.{ℕ, ◌^◌, List, Bool, not, ◌&&◌, ◌||◌, nat_lt, Option, Some, None, unwrap_or, option_and_then, Result, Ok, Err, if◌then◌else◌, codes}
use Rattle.std.specs.Str.{bytes_eq}
use Rattle.fo_world.specs.declared.place.Info.{Info}
use Rattle.fo_world.specs.declared.place.Place.{Place}
use Rattle.fo_world.specs.declared.place.View.TheVariants.{Active}
use Rattle.fo_world.specs.World.{World}
use Rattle.fo_world.specs.Step as step
use Rattle.fo_users.specs.declared.table.User.{User}
use Rattle.fo_users.specs.declared.right.Right.TheVariants.{Write}
use Rattle.fo_users.specs.Found.{table_in}
use Rattle.fo_users.specs.Table.{standard_table, is_known}
use Rattle.fo_users.specs.Rights.{may, is_leader, is_member}
use Rattle.nine_fids.specs.declared.fid.Fid.{Fid}
use Rattle.nine_fids.specs.declared.refusal.Refusal.{Refusal}
use Rattle.nine_fids.specs.declared.refusal.Refusal.TheVariants as refusal
use Rattle.fo_world.specs.Chain.{and_then, refuse_if}
use Rattle.nine_fids.specs.Told.{Files, parent_at, named_at, bytes_at}

-- ---- the table

-- the value, where there is one
abbrev pub found : {A : Type 0} → Result A Refusal → Option A
found (Ok x) = Some x
found (Err r) = None

-- the file with a name in a directory
unfoldable pub found_at : Files → World → Place → List ℕ → Option Info
found_at e w at name = found (named_at e w at name)

-- the bytes of a file of at most 65536 bytes
unfoldable pub small_file : Files → World → Info → Option (List ℕ)
small_file e w i = if nat_lt (2 ^ 16) i.length then None else found (bytes_at e w i.place 0 i.length)

-- the bytes of /adm/users in the active tree, where that is such a file
unfoldable pub users_file : Files → World → Option (List ℕ)
users_file e w =
    option_and_then (λ dir. option_and_then (small_file e w) (found_at e w dir.place (codes "users"))) (found_at e w (step.root_at Active) (codes "adm"))

-- the table that they spell, or else the standard one
unfoldable pub table_of : Files → World → List User
table_of e w = unwrap_or (option_and_then table_in (users_file e w)) standard_table

-- ---- by a table

-- a user that the table lacks is `none`
unfoldable pub user_of : List User → List ℕ → List ℕ
user_of table name = if is_known table name then name else codes "none"

-- he owns the file, or leads its group
unfoldable pub owns : List User → List ℕ → Info → Bool
owns table user i = bytes_eq user i.uid || is_leader table user i.gid

-- he owns the file and is a member of the group that it shall have, or leads both groups
unfoldable pub may_give : List User → List ℕ → Info → List ℕ → Bool
may_give table user i gid = (bytes_eq user i.uid && is_member table user gid) || (is_leader table user i.gid && is_leader table user gid)

-- the right by a table to write in the directory that holds a fid's file
unfoldable pub may_write_above_by : List User → Files → World → Fid → Result (Unit {0}) Refusal
may_write_above_by table e w f =
    and_then (parent_at e w f.place) (λ dir. refuse_if (not (may table f.user dir Write)) refusal.PermissionDenied (Ok tt))

-- by the table of the active tree
abbrev pub may_write_above : Files → World → Fid → Result (Unit {0}) Refusal
may_write_above e w f = may_write_above_by (table_of e w) e w f
