-- Changes of a file, step by step.
use Rattle.std.proofs.Common.{◌≡◌, ℕ, ◌≤◌, List, [], ◌∷◌, length, Bool, true, false, not, Option, Some, None, Result, Ok, Err, refl, sym, ap, ◌∙◌, arith}
use Rattle.std.specs.Prelude.{◌&&◌, ◌||◌, ◌==◌, nat_lt, is_some, if◌then◌else◌, codes, IfSome, IfOk}
use Rattle.std.specs.Str.{bytes_eq}
use Rattle.std.specs.List.{list_all, list_any}
use Rattle.std.proofs.lemmas.Bool.Decides.{nat_tests}
use Rattle.nine_fields.specs.Field.{TextFits}
use Rattle.fo_world.specs.declared.tree.Node.{Node}
use Rattle.fo_world.specs.declared.place.Info.{Info}
use Rattle.fo_world.specs.declared.place.Place.{Place}
use Rattle.fo_world.specs.declared.place.Change.{Change}
use Rattle.fo_world.specs.declared.error.FileError.{FileError}
use Rattle.fo_world.specs.declared.error.FileError.TheVariants as error
use Rattle.fo_world.specs.World.{World}
use Rattle.fo_world.specs.Limits.{IsName, IsUser, IsChange}
use Rattle.fo_world.specs.Step as step
use Rattle.fo_users.specs.declared.table.User.{User}
use Rattle.fo_users.specs.Table.{is_line, is_known}
use Rattle.nine_fids.specs.declared.fid.Fid.{Fid}
use Rattle.nine_fids.specs.declared.refusal.Refusal.{Refusal}
use Rattle.nine_fids.specs.declared.refusal.Refusal.TheVariants as refusal
use Rattle.fo_world.specs.Chain.{and_then, refuse_if}
use Rattle.nine_fids.specs.Refusing.{changed, looked}
use Rattle.nine_fids.specs.Told.{Files, info_at, is_dir}
use Rattle.nine_fids.specs.Rights.{table_of}
use Rattle.nine_fids.proofs.Userly.{known_name}
use Rattle.nine_files.specs.Granting.{allowed_change, changed_by, is_bad, is_bad_by}
use Rattle.nine_files.specs.Opening.{is_bad_name}
use Rattle.nine_files.specs.Stating.{allowed_name, changes_kind, changing_rights, is_strange, lengthens, names_badly}
use Rattle.nine_files.proofs.Links.{IsPlain, refuse_ok, refuse_plain, then_ok_parts}

-- ---- a change that is allowed

module _ (e : Files) (w : World) (f : Fid) (fixed : Bool) (c : Change) (i : Info) where
  pub change_elsewhere : step.is_active f.place.view ≡ false → allowed_change e w f fixed c i ≡ Err (refusal.File error.ReadOnly)
  unfolding allowed_change
  change_elsewhere h = rw h refl

  pub change_bad : step.is_active f.place.view ≡ true → is_bad e w fixed c i ≡ true → allowed_change e w f fixed c i ≡ Err refusal.BadStat
  unfolding allowed_change
  change_bad h k = rw (h, k) refl

  pub change_unnamed : (r : Refusal) → step.is_active f.place.view ≡ true → is_bad e w fixed c i ≡ false → allowed_name f c.name ≡ Err r → allowed_change e w f fixed c i ≡ Err r
  unfolding allowed_change
  change_unnamed r h k l = rw (h, k, l) refl

  pub change_last : step.is_active f.place.view ≡ true → is_bad e w fixed c i ≡ false → allowed_name f c.name ≡ Ok tt → allowed_change e w f fixed c i ≡ changing_rights e w f i c
  unfolding allowed_change
  change_last h k l = rw (h, k, l) refl

  pub change_good : allowed_change e w f fixed c i ≡ Ok tt → (is_bad e w fixed c i ≡ false) × (allowed_name f c.name ≡ Ok tt)
  unfolding allowed_change
  change_good h =
      let first = refuse_ok (not (step.is_active f.place.view)) (refusal.File error.ReadOnly) (refuse_if (is_bad e w fixed c i) refusal.BadStat (and_then (allowed_name f c.name) (λ _. changing_rights e w f i c))) tt h in
      let second = refuse_ok (is_bad e w fixed c i) refusal.BadStat (and_then (allowed_name f c.name) (λ _. changing_rights e w f i c)) tt first.1 in
      (second.0, (then_ok_parts (allowed_name f c.name) (λ _. changing_rights e w f i c) tt second.1).1)

-- the parts of what is not bad
no_second : (a b c d : Bool) → (a || b || c || d) ≡ false → b ≡ false
no_second true b c d h = absurd cc
no_second false true c d h = absurd cc
no_second false false c d h = refl

no_fourth : (a b c d : Bool) → (a || b || c || d) ≡ false → d ≡ false
no_fourth true b c d h = absurd cc
no_fourth false true c d h = absurd cc
no_fourth false false true d h = absurd cc
no_fourth false false false d h = h

-- ---- what is asked of a change

same_kind : (a b : Bool) → (if a then not b else b) ≡ false → a ≡ b
same_kind true true h = refl
same_kind true false h = absurd cc
same_kind false true h = absurd cc
same_kind false false h = refl

kind_at : (mode : Option ℕ) (i : Info) (g : List ℕ × Node) → i.mode ≡ g.1.mode → changes_kind mode i.mode ≡ false → IfSome mode (λ m. step.is_dir_mode m ≡ step.is_dir_mode g.1.mode)
kind_at None i g same h = tt
kind_at (Some m) i g same h = same_kind (is_dir m) (is_dir i.mode) h ∙ ap is_dir same

kind_reached : (r : Result (List ℕ × Node) FileError) (w : World) (at : Place) (mode : Option ℕ) (i : Info) → looked (and_then r (λ f. Ok (step.info_of at f, w))) ≡ Ok i → changes_kind mode i.mode ≡ false → IfOk r (λ g. IfSome mode (λ m. step.is_dir_mode m ≡ step.is_dir_mode g.1.mode))
kind_reached (Ok g) w at mode i is h =
    let same : step.info_of at g ≡ i = cc in
    kind_at mode i g (sym (ap (λ (j : Info). j.mode) same)) h
kind_reached (Err x) w at mode i is h = tt

kind_stays : (e : Files) (w : World) (at : Place) (mode : Option ℕ) (i : Info) → info_at e w at ≡ Ok i → changes_kind mode i.mode ≡ false → IfOk (step.reached e.whole w at) (λ g. IfSome mode (λ m. step.is_dir_mode m ≡ step.is_dir_mode g.1.mode))
unfolding info_at
kind_stays e w at mode i is h = kind_reached (step.reached e.whole w at) w at mode i is h

no_fifth : (a b c d e : Bool) → (a || b || c || d || e) ≡ false → e ≡ false
no_fifth true b c d e h = absurd cc
no_fifth false true c d e h = absurd cc
no_fifth false false true d e h = absurd cc
no_fifth false false false true e h = absurd cc
no_fifth false false false false e h = h

at_most : (n : ℕ) → nat_lt 255 n ≡ false → n ≤ 255
at_most n h = grind (arith, nat_tests)

short_name : (name : List ℕ) → is_bad_name name ≡ false → (1 ≤ length name) × (length name ≤ 255)
short_name [] h = absurd cc
short_name (b ∷ bs) h = (omega arith, at_most (length (b ∷ bs)) (no_fifth (bytes_eq (b ∷ bs) []) (bytes_eq (b ∷ bs) (codes ".")) (bytes_eq (b ∷ bs) (codes "..")) (list_any (λ x. x == 47) (b ∷ bs)) (nat_lt 255 (length (b ∷ bs))) h))

pub good_name : (name : List ℕ) → is_bad_name name ≡ false → TextFits name → IsName name
good_name name h fits = let p = short_name name h in record { some = p.0; short = p.1; text = fits.1 }

name_good : (name : Option (List ℕ)) → names_badly name ≡ false → IfSome name TextFits → IfSome name IsName
name_good None h fits = tt
name_good (Some name) h fits = good_name name h fits

no_root : (name : Option (List ℕ)) (n : ℕ) → (is_some name && (n == 0)) ≡ false → n ≡ 0 → name ≡ None
no_root None n h is = refl
no_root (Some name) n h is = absurd (grind (arith, nat_tests))

name_allowed : (f : Fid) (name : Option (List ℕ)) → allowed_name f name ≡ Ok tt → (names_badly name ≡ false) × ((is_some name && (length f.place.trail == 0)) ≡ false)
unfolding allowed_name
name_allowed f name h =
    let first = refuse_ok (names_badly name) refusal.BadName (refuse_if (is_some name && (length f.place.trail == 0)) refusal.RenamesRoot (Ok tt)) tt h in
    (first.0, (refuse_ok (is_some name && (length f.place.trail == 0)) refusal.RenamesRoot (Ok tt) tt first.1).0)

pub known_group : (table : List User) (gid : Option (List ℕ)) → list_all is_line table ≡ true → is_strange table gid ≡ false → IfSome gid IsUser
known_group table None lines h = tt
known_group table (Some gid) lines h = known_name table gid lines (is_true (is_known table gid) h)
  where
    is_true : (b : Bool) → not b ≡ false → b ≡ true
    is_true true k = refl
    is_true false k = absurd cc

-- what is asked of its mode
pub kind_good : (e : Files) (w : World) (f : Fid) (fixed : Bool) (c : Change) (i : Info) → allowed_change e w f fixed c i ≡ Ok tt → info_at e w f.place ≡ Ok i → IfOk (step.reached e.whole w f.place) (λ g. IfSome c.mode (λ m. step.is_dir_mode m ≡ step.is_dir_mode g.1.mode))
kind_good e w f fixed c i good there =
    let parts = change_good e w f fixed c i good in
    kind_stays e w f.place c.mode i there (no_second fixed (changes_kind c.mode i.mode) (lengthens c.length i.mode) (is_strange (table_of e w) c.gid) parts.0)

-- over any devices, but what is asked of its mode
pub is_change : (honest : Type 0) (whole : Bool) (w : World) (f : Fid) (c : Change) → allowed_name f c.name ≡ Ok tt → IfSome c.name TextFits → IfSome c.gid IsUser
    → (honest → IfOk (step.reached whole w f.place) (λ g. IfSome c.mode (λ m. step.is_dir_mode m ≡ step.is_dir_mode g.1.mode))) → IsChange honest whole w f.place c
is_change honest whole w f c good text group kind =
    let named = name_allowed f c.name good in
    record {
      name = name_good c.name named.0 text;
      gid = group;
      root = λ is. no_root c.name (length f.place.trail) named.1 is;
      kind = kind;
    }

pub unnamed_plain : (f : Fid) (name : Option (List ℕ)) → IsPlain (allowed_name f name)
unfolding allowed_name
unnamed_plain f name =
    refuse_plain (names_badly name) refusal.BadName (refuse_if (is_some name && (length f.place.trail == 0)) refusal.RenamesRoot (Ok tt)) refl
    (refuse_plain (is_some name && (length f.place.trail == 0)) refusal.RenamesRoot (Ok tt) refl tt)

pub if_ok_any : {A E : Type 0} (r : Result A E) (P : Type 0) → P → IfOk r (λ _. P)
if_ok_any (Ok x) P p = p
if_ok_any (Err e) P p = tt

pub group_after : (r : Result (Unit {0}) Refusal) (table : List User) (fixed : Bool) (c : Change) (i : Info) → list_all is_line table ≡ true → is_bad_by table fixed c i ≡ false → IfOk r (λ _. IfSome c.gid IsUser)
group_after r table fixed c i lines good = if_ok_any r (IfSome c.gid IsUser) (known_group table c.gid lines (no_fourth fixed (changes_kind c.mode i.mode) (lengthens c.length i.mode) (is_strange table c.gid) good))

-- ---- a change that is made

module _ (e : Files) (w : World) (now : ℕ) (f : Fid) (fixed : Bool) (c : Change) (i : Info) where
  pub changed_refused : (r : Refusal) → allowed_change e w f fixed c i ≡ Err r → changed_by e w now f fixed c i ≡ Err r
  unfolding changed_by
  changed_refused r h = rw h refl

  pub changed_told : allowed_change e w f fixed c i ≡ Ok tt → changed_by e w now f fixed c i ≡ and_then (changed (step.change e.whole e.largest w f.place c f.user now)) (λ p. Ok p.1)
  unfolding changed_by
  changed_told h = rw h refl
