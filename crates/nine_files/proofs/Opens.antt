-- Files that may be opened and made, and OTRUNC, step by step.
use Rattle.std.proofs.Common.{◌≡◌, ℕ, List, true, false, not, Result, Ok, Err, refl}
use Rattle.std.specs.Prelude.{◌&&◌}
use Rattle.fo_world.specs.declared.place.Info.{Info}
use Rattle.fo_world.specs.declared.error.FileError.{FileError}
use Rattle.fo_world.specs.declared.error.FileError.TheVariants as error
use Rattle.fo_world.specs.World.{World}
use Rattle.fo_world.specs.Step as step
use Rattle.fo_users.specs.Rights.{may}
use Rattle.fo_users.specs.declared.right.Right.TheVariants.{Write}
use Rattle.nine_fids.specs.declared.fid.Fid.{Fid}
use Rattle.nine_fids.specs.declared.mode.Mode.{Mode}
use Rattle.nine_fids.specs.declared.refusal.Refusal.{Refusal}
use Rattle.nine_fids.specs.declared.refusal.Refusal.TheVariants as refusal
use Rattle.fo_world.specs.Chain.{and_then, refuse_if}
use Rattle.std.specs.Option.{ok_or}
use Rattle.nine_fids.specs.Refusing.{changed}
use Rattle.nine_fids.specs.Fids.{is_open}
use Rattle.nine_fids.specs.Modes.{mode_of, changes, is_more}
use Rattle.nine_fids.specs.Told.{Files, info_at, is_dir, qid_of}
use Rattle.nine_fids.specs.Rights.{table_of}
use Rattle.nine_files.specs.Granting.{admitted, admitted_new, is_held, told_qid}
use Rattle.nine_files.specs.Opening.{allowed_mode, allowed_new, cut_info, cut_need, cuts, emptied, is_bad_name, most_cut, opening_rights, truncated}
use Rattle.nine_files.proofs.Links.{IsPlain, refuse_plain, some_plain, then_plain}

-- ---- the file that may be opened

module _ (e : Files) (w : World) (f : Fid) (x : List ℕ) (mode : ℕ) where
  pub admitted_open : is_open f ≡ true → admitted e w f x mode ≡ Err refusal.FidIsOpen
  unfolding admitted
  admitted_open h = rw h refl

  pub admitted_no_info : (r : Refusal) → is_open f ≡ false → info_at e w f.place ≡ Err r → admitted e w f x mode ≡ Err r
  unfolding admitted
  admitted_no_info r h k = rw (h, k) refl

  pub admitted_no_mode : (i : Info) (r : Refusal) → is_open f ≡ false → info_at e w f.place ≡ Ok i → allowed_mode f i mode ≡ Err r → admitted e w f x mode ≡ Err r
  unfolding admitted
  admitted_no_mode i r h k l = rw (h, k, l) refl

  pub admitted_no_right : (i : Info) (m : Mode) (r : Refusal) → is_open f ≡ false → info_at e w f.place ≡ Ok i → allowed_mode f i mode ≡ Ok m → opening_rights e w f i m ≡ Err r → admitted e w f x mode ≡ Err r
  unfolding admitted
  admitted_no_right i m r h k l o = rw (h, k, l, o) refl

  pub admitted_there : (i : Info) (m : Mode) → is_open f ≡ false → info_at e w f.place ≡ Ok i → allowed_mode f i mode ≡ Ok m → opening_rights e w f i m ≡ Ok tt → admitted e w f x mode ≡ refuse_if (is_held f i x) refusal.ExclusivelyOpen (Ok (i, m))
  unfolding admitted
  admitted_there i m h k l o = rw (h, k, l, o) refl

-- ---- the directory in which a file may be made

module _ (e : Files) (w : World) (f : Fid) (name : List ℕ) (perm mode : ℕ) where
  pub new_open : is_open f ≡ true → admitted_new e w f name perm mode ≡ Err refusal.FidIsOpen
  unfolding admitted_new
  new_open h = rw h refl

  pub new_no_info : (r : Refusal) → is_open f ≡ false → info_at e w f.place ≡ Err r → admitted_new e w f name perm mode ≡ Err r
  unfolding admitted_new
  new_no_info r h k = rw (h, k) refl

  pub new_no_mode : (i : Info) (r : Refusal) → is_open f ≡ false → info_at e w f.place ≡ Ok i → allowed_new f i name perm mode ≡ Err r → admitted_new e w f name perm mode ≡ Err r
  unfolding admitted_new
  new_no_mode i r h k l = rw (h, k, l) refl

  pub new_there : (i : Info) (m : Mode) → is_open f ≡ false → info_at e w f.place ≡ Ok i → allowed_new f i name perm mode ≡ Ok m → admitted_new e w f name perm mode ≡ refuse_if (not (may (table_of e w) f.user i Write)) refusal.PermissionDenied (Ok (i, m))
  unfolding admitted_new
  new_there i m h k l = rw (h, k, l) refl

-- ---- OTRUNC

pub cut_not : (e : Files) (w : World) (f : Fid) (i : Info) (m : Mode) (now : ℕ) → cuts i m ≡ false → told_qid (truncated e w f i m now) ≡ Ok (qid_of i, w)
unfolding truncated
cut_not e w f i m now h = rw h refl

cut_given : (t : Result (Unit {0} × World) FileError) (i : Info) → (let on : Result (Info × World) Refusal = and_then (changed t) (λ p. Ok (i, p.1)) in told_qid on) ≡ and_then (changed t) (λ p. Ok (qid_of i, p.1))
cut_given (Ok p) i = refl
cut_given (Err x) i = refl

pub cut_told : (e : Files) (w : World) (f : Fid) (i : Info) (m : Mode) (now : ℕ) → cuts i m ≡ true → told_qid (truncated e w f i m now) ≡ and_then (changed (step.change e.whole e.largest w f.place emptied f.user now)) (λ p. Ok (qid_of (cut_info i), p.1))
unfolding truncated
cut_told e w f i m now h = rw h (cut_given (step.change e.whole e.largest w f.place emptied f.user now) (cut_info i))

pub no_cut_need : (e : Files) (w : World) (f : Fid) (i : Info) (m : Mode) → cuts i m ≡ false → cut_need e w f i m ≡ 0
no_cut_need e w f i m h = rw h refl

pub cut_needs : (e : Files) (w : World) (f : Fid) (i : Info) (m : Mode) → cuts i m ≡ true → step.change_need e.whole w f.place emptied ≡ cut_need e w f i m
cut_needs e w f i m h = rw h refl

pub cut_most : (f : Fid) (i : Info) (m : Mode) → cuts i m ≡ true → step.most_need f.place ≡ most_cut f i m
cut_most f i m h = rw h refl

-- ---- what refuses a mode is no failure

pub mode_plain : (f : Fid) (i : Info) (mode : ℕ) → IsPlain (allowed_mode f i mode)
unfolding allowed_mode
mode_plain f i mode =
    then_plain (ok_or (mode_of mode) refusal.BadOpenMode) _ (some_plain (mode_of mode) refusal.BadOpenMode refl) (λ m.
    refuse_plain (not (step.is_active f.place.view) && changes m) (refusal.File error.ReadOnly) (refuse_if (is_dir i.mode && is_more m) (refusal.File error.IsDir) (Ok m)) refl
    (refuse_plain (is_dir i.mode && is_more m) (refusal.File error.IsDir) (Ok m) refl tt))

pub new_plain : (f : Fid) (i : Info) (name : List ℕ) (perm mode : ℕ) → IsPlain (allowed_new f i name perm mode)
unfolding allowed_new
new_plain f i name perm mode =
    let last : Mode → Result Mode Refusal = λ m. refuse_if (is_dir perm && is_more m) refusal.BadOpenMode (Ok m) in
    let third : Result Mode Refusal = and_then (ok_or (mode_of mode) refusal.BadOpenMode) last in
    let second : Result Mode Refusal = refuse_if (is_bad_name name) refusal.BadName third in
    refuse_plain (not (is_dir i.mode)) (refusal.File error.NotDir) (refuse_if (not (step.is_active f.place.view)) (refusal.File error.ReadOnly) second) refl
    (refuse_plain (not (step.is_active f.place.view)) (refusal.File error.ReadOnly) second refl
    (refuse_plain (is_bad_name name) refusal.BadName third refl
    (then_plain (ok_or (mode_of mode) refusal.BadOpenMode) last (some_plain (mode_of mode) refusal.BadOpenMode refl) (λ m.
    refuse_plain (is_dir perm && is_more m) refusal.BadOpenMode (Ok m) refl tt))))
