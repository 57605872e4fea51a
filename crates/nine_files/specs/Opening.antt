-- Files opened and made (open(5) of the Plan 9 manual).
use Rattle.std.specs.Prelude.{ℕ, ◌+◌, ◌%◌, ◌^◌, List, [], length, Bool, not, ◌&&◌, ◌||◌, ◌==◌, nat_lt, Option, Some, None, Result, Ok, if◌then◌else◌, codes}
use Rattle.std.specs.Int.Bits.{bit_and, bit_or}
use Rattle.std.specs.List.{list_any}
use Rattle.std.specs.Str.{bytes_eq}
use Rattle.fo_world.specs.declared.place.Change.{Change}
use Rattle.fo_world.specs.declared.place.Info.{Info}
use Rattle.fo_world.specs.declared.error.FileError.TheVariants as error
use Rattle.fo_world.specs.World.{World}
use Rattle.fo_world.specs.Step as step
use Rattle.fo_users.specs.declared.right.Right.TheVariants.{Read as ToRead, Write as ToWrite, Execute as ToExecute}
use Rattle.nine_fids.specs.declared.fid.Fid.{Fid}
use Rattle.nine_fids.specs.declared.fid.Opened.{Opened}
use Rattle.nine_fids.specs.declared.mode.Access.{Access}
use Rattle.nine_fids.specs.declared.mode.Access.TheVariants.{Read, Write, ReadWrite, Execute}
use Rattle.nine_fids.specs.declared.mode.Mode.{Mode}
use Rattle.nine_fids.specs.declared.refusal.Refusal.{Refusal}
use Rattle.nine_fids.specs.declared.refusal.Refusal.TheVariants as refusal
use Rattle.fo_world.specs.Chain.{and_then, refuse_if}
use Rattle.std.specs.Option.{ok_or}
use Rattle.nine_fids.specs.Refusing.{changed}
use Rattle.nine_fids.specs.Told.{Files, is_dir, appends}
use Rattle.fo_users.specs.declared.table.User.{User}
use Rattle.fo_users.specs.Rights.{may}
use Rattle.nine_fids.specs.Modes.{mode_of, changes, is_more}
use Rattle.nine_fids.specs.Rights.{table_of, may_write_above_by}

-- ---- rights

-- a user's right to access a file so
abbrev pub may_access : List User → List ℕ → Info → Access → Bool
may_access table user i Read = may table user i ToRead
may_access table user i Write = may table user i ToWrite
may_access table user i ReadWrite = may table user i ToRead && may table user i ToWrite
may_access table user i Execute = may table user i ToExecute

-- the rights of its access, and to write it for OTRUNC
abbrev pub may_open : List User → List ℕ → Info → Mode → Bool
may_open table user i m = may_access table user i m.access && (not m.truncate || may table user i ToWrite)

-- the rights by a table to open a file so, and for ORCLOSE to write in its directory
unfoldable pub opening_rights_by : List User → Files → World → Fid → Info → Mode → Result (Unit {0}) Refusal
opening_rights_by table e w f i m =
    refuse_if (not (may_open table f.user i m)) refusal.PermissionDenied (if m.remove then may_write_above_by table e w f else Ok tt)

-- The rights are there whatever the table, and none to the directory is wanted.
abbrev pub is_free : List ℕ → Info → Mode → Bool
is_free user i m = not m.remove && may_open [] user i m

-- by the table of the active tree
abbrev pub opening_rights : Files → World → Fid → Info → Mode → Result (Unit {0}) Refusal
opening_rights e w f i m = opening_rights_by (table_of e w) e w f i m

-- ---- Topen

-- how it is then open: a directory is read from its first name on
abbrev pub opened_so : Mode → Bool → Option Opened
opened_so m held = Some (record { access = m.access; remove = m.remove; exclusive = held; offset = 0; last = None })

-- length 0, and no other change
abbrev pub emptied : Change
emptied = record { mode = None; mtime = None; length = Some 0; name = None; gid = None }

-- OTRUNC makes a file empty that is not empty and has no DMAPPEND
abbrev pub cuts : Info → Mode → Bool
cuts i m = m.truncate && not (appends i.mode) && nat_lt 0 i.length

-- what is told of a file that was made empty
abbrev pub cut_info : Info → Info
cut_info i = record i { vers = (i.vers + 1) % 2 ^ 32; length = 0 }

-- the file and the world after OTRUNC, if it was asked for
unfoldable pub truncated : Files → World → Fid → Info → Mode → ℕ → Result (Info × World) Refusal
truncated e w f i m now =
    if cuts i m then and_then (changed (step.change e.whole e.largest w f.place emptied f.user now)) (λ p. Ok (cut_info i, p.1))
    else Ok (i, w)

-- the blocks that OTRUNC needs: those of emptying the file where it makes one empty, and else none
abbrev pub cut_need : Files → World → Fid → Info → Mode → ℕ
cut_need e w f i m = if cuts i m then step.change_need e.whole w f.place emptied else 0

-- the most of them, whatever the world
abbrev pub most_cut : Fid → Info → Mode → ℕ
most_cut f i m = if cuts i m then step.most_need f.place else 0

-- the mode that a byte says, where the file's view and its kind allow it
unfoldable pub allowed_mode : Fid → Info → ℕ → Result Mode Refusal
allowed_mode f i mode =
    and_then (ok_or (mode_of mode) refusal.BadOpenMode) (λ m.
    refuse_if (not (step.is_active f.place.view) && changes m) (refusal.File error.ReadOnly) (
    refuse_if (is_dir i.mode && is_more m) (refusal.File error.IsDir) (Ok m)))

-- ---- Tcreate

-- empty, `.`, `..`, with a `/`, or of more than 255 bytes
abbrev pub is_bad_name : List ℕ → Bool
is_bad_name name = bytes_eq name [] || bytes_eq name (codes ".") || bytes_eq name (codes "..") || list_any (λ b. b == 47) name || nat_lt 255 (length name)

-- A new file has of 0666 only what its directory has, and a new directory of 0777. Of the other bits are kept 0111, DMAPPEND,
-- DMEXCL and DMTMP, and for a directory DMDIR and DMTMP.
abbrev pub new_mode : ℕ → ℕ → ℕ
new_mode perm above =
    if is_dir perm then bit_and perm (bit_or 2214592512 (bit_and above 511))
    else bit_and perm (bit_or 1677721673 (bit_and above 438))

-- the mode that a byte says, where the directory and the name allow a new file
unfoldable pub allowed_new : Fid → Info → List ℕ → ℕ → ℕ → Result Mode Refusal
allowed_new f above name perm mode =
    refuse_if (not (is_dir above.mode)) (refusal.File error.NotDir) (
    refuse_if (not (step.is_active f.place.view)) (refusal.File error.ReadOnly) (
    refuse_if (is_bad_name name) refusal.BadName (
    and_then (ok_or (mode_of mode) refusal.BadOpenMode) (λ m.
    refuse_if (is_dir perm && is_more m) refusal.BadOpenMode (Ok m)))))
