-- What the checks of rights, and a step of a walk, tell, case by case.
use Rattle.std.proofs.Common.{◌≡◌, ℕ, List, true, false, Ok, Err, refl}
use Rattle.std.specs.Prelude.{is_some}
use Rattle.fo_world.specs.declared.error.FileError.TheVariants as error
use Rattle.fo_world.specs.declared.place.Info.{Info}
use Rattle.fo_world.specs.declared.place.Change.{Change}
use Rattle.fo_world.specs.World.{World}
use Rattle.fo_users.specs.declared.table.User.{User}
use Rattle.fo_users.specs.Rights.{may}
use Rattle.fo_users.specs.declared.right.Right.TheVariants.{Execute}
use Rattle.nine_fids.specs.declared.fid.Fid.{Fid}
use Rattle.nine_fids.specs.declared.mode.Mode.{Mode}
use Rattle.nine_fids.specs.declared.refusal.Refusal.TheVariants as refusal
use Rattle.nine_fids.specs.Told.{Files, parent_at, named_at, is_dir}
use Rattle.nine_fids.specs.Rights.{may_write_above_by}
use Rattle.nine_files.specs.Opening.{may_open, opening_rights_by}
use Rattle.nine_files.specs.Stating.{changing_rights_by, may_change}
use Rattle.nine_files.specs.Walking.{is_up, next_by, stands_for_none}

-- ---- rights to open

module _ (table : List User) (e : Files) (w : World) (f : Fid) (i : Info) (m : Mode) where
  pub opening_denied : may_open table f.user i m ≡ false → opening_rights_by table e w f i m ≡ Err refusal.PermissionDenied
  unfolding opening_rights_by
  opening_denied h = rw h refl

  pub opening_plain : may_open table f.user i m ≡ true → m.remove ≡ false → opening_rights_by table e w f i m ≡ Ok tt
  unfolding opening_rights_by
  opening_plain h k = rw (h, k) refl

  pub opening_above : may_open table f.user i m ≡ true → m.remove ≡ true → opening_rights_by table e w f i m ≡ may_write_above_by table e w f
  unfolding opening_rights_by
  opening_above h k = rw (h, k) refl

-- ---- rights to change

module _ (table : List User) (e : Files) (w : World) (f : Fid) (i : Info) (c : Change) where
  pub changing_denied : may_change table f.user i c ≡ false → changing_rights_by table e w f i c ≡ Err refusal.PermissionDenied
  unfolding changing_rights_by
  changing_denied h = rw h refl

  pub changing_plain : may_change table f.user i c ≡ true → is_some c.name ≡ false → changing_rights_by table e w f i c ≡ Ok tt
  unfolding changing_rights_by
  changing_plain h k = rw (h, k) refl

  pub changing_above : may_change table f.user i c ≡ true → is_some c.name ≡ true → changing_rights_by table e w f i c ≡ may_write_above_by table e w f
  unfolding changing_rights_by
  changing_above h k = rw (h, k) refl

-- ---- where a name leads

module _ (table : List User) (e : Files) (w : World) (user : List ℕ) (i : Info) (name : List ℕ) where
  pub next_no_dir : is_dir i.mode ≡ false → next_by table e w user i name ≡ Err (refusal.File error.NotDir)
  unfolding next_by
  next_no_dir h = rw h refl

  pub next_denied : is_dir i.mode ≡ true → may table user i Execute ≡ false → next_by table e w user i name ≡ Err refusal.PermissionDenied
  unfolding next_by
  next_denied h k = rw (h, k) refl

  pub next_up : is_dir i.mode ≡ true → may table user i Execute ≡ true → is_up name ≡ true → next_by table e w user i name ≡ parent_at e w i.place
  unfolding next_by
  next_up h k u = rw (h, k, u) refl

  pub next_absent : is_dir i.mode ≡ true → may table user i Execute ≡ true → is_up name ≡ false → stands_for_none name ≡ true → next_by table e w user i name ≡ Err (refusal.File error.Absent)
  unfolding next_by
  next_absent h k u n = rw (h, k, u, n) refl

  pub next_named : is_dir i.mode ≡ true → may table user i Execute ≡ true → is_up name ≡ false → stands_for_none name ≡ false → next_by table e w user i name ≡ named_at e w i.place name
  unfolding next_by
  next_named h k u n = rw (h, k, u, n) refl
