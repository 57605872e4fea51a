-- Calls that open, make and change files, in parts.
use Rattle.std.specs.Prelude.{ℕ, List, Bool, not, ◌&&◌, ◌||◌, Result, Ok, Err}
use Rattle.nine_fields.specs.declared.qid.Qid.{Qid}
use Rattle.fo_world.specs.declared.place.Info.{Info}
use Rattle.fo_world.specs.declared.place.Change.{Change}
use Rattle.fo_world.specs.declared.error.FileError.TheVariants as error
use Rattle.fo_world.specs.World.{World}
use Rattle.fo_world.specs.Step as step
use Rattle.fo_users.specs.declared.right.Right.TheVariants.{Write as ToWrite}
use Rattle.fo_users.specs.Rights.{may}
use Rattle.fo_users.specs.declared.table.User.{User}
use Rattle.nine_fids.specs.declared.fid.Fid.{Fid}
use Rattle.nine_fids.specs.declared.mode.Mode.{Mode}
use Rattle.nine_fids.specs.declared.refusal.Refusal.{Refusal}
use Rattle.nine_fids.specs.declared.refusal.Refusal.TheVariants as refusal
use Rattle.fo_world.specs.Chain.{and_then, refuse_if}
use Rattle.nine_fids.specs.Refusing.{changed}
use Rattle.nine_fids.specs.Fids.{number_at, is_listed, is_open}
use Rattle.nine_fids.specs.Told.{Files, info_at, is_exclusive, qid_of}
use Rattle.nine_fids.specs.Rights.{table_of}
use Rattle.nine_files.specs.Opening.{allowed_mode, allowed_new, opening_rights}
use Rattle.nine_files.specs.Stating.{allowed_name, changes_kind, changing_rights, is_strange, lengthens}

-- a file for exclusive use that is open
abbrev pub is_held : Fid → Info → List ℕ → Bool
is_held f i exclusive = is_exclusive i.mode && is_listed (number_at f.place) exclusive

-- the file of a fid and the mode in which it may be opened
unfoldable pub admitted : Files → World → Fid → List ℕ → ℕ → Result (Info × Mode) Refusal
admitted e w f exclusive mode =
    refuse_if (is_open f) refusal.FidIsOpen (
    and_then (info_at e w f.place) (λ i.
    and_then (allowed_mode f i mode) (λ m.
    and_then (opening_rights e w f i m) (λ _.
    refuse_if (is_held f i exclusive) refusal.ExclusivelyOpen (Ok (i, m))))))

-- the directory of a fid and the mode in which a new file may be made in it
unfoldable pub admitted_new : Files → World → Fid → List ℕ → ℕ → ℕ → Result (Info × Mode) Refusal
admitted_new e w f name perm mode =
    refuse_if (is_open f) refusal.FidIsOpen (
    and_then (info_at e w f.place) (λ above.
    and_then (allowed_new f above name perm mode) (λ m.
    refuse_if (not (may (table_of e w) f.user above ToWrite)) refusal.PermissionDenied (Ok (above, m)))))

-- the qid of the file that is told
abbrev pub told_qid : Result (Info × World) Refusal → Result (Qid × World) Refusal
told_qid (Ok p) = Ok (qid_of p.0, p.1)
told_qid (Err r) = Err r

-- whether a change is bad, where a field that can't be changed is or is not
abbrev pub is_bad_by : List User → Bool → Change → Info → Bool
is_bad_by table fixed c i = fixed || changes_kind c.mode i.mode || lengthens c.length i.mode || is_strange table c.gid

-- The same by the table of users of the active tree.
abbrev pub is_bad : Files → World → Bool → Change → Info → Bool
is_bad e w fixed c i = is_bad_by (table_of e w) fixed c i

-- a change that is allowed
unfoldable pub allowed_change : Files → World → Fid → Bool → Change → Info → Result (Unit {0}) Refusal
allowed_change e w f fixed c i =
    refuse_if (not (step.is_active f.place.view)) (refusal.File error.ReadOnly) (
    refuse_if (is_bad e w fixed c i) refusal.BadStat (
    and_then (allowed_name f c.name) (λ _. changing_rights e w f i c)))

-- the world after all changes of a file
unfoldable pub changed_by : Files → World → ℕ → Fid → Bool → Change → Info → Result World Refusal
changed_by e w now f fixed c i =
    and_then (allowed_change e w f fixed c i) (λ _.
    and_then (changed (step.change e.whole e.largest w f.place c f.user now)) (λ p. Ok p.1))
