-- Each change of a file of an archive is refused.
use Rattle.std.proofs.Common.{◌≡◌, ◌∙◌, inl, ℕ, Bool, true, false, not, List, nat_lt, Option, Some, None, Result, Ok, Err, refl, ap, if◌then◌else◌}
use Rattle.std.specs.Prelude.{◌&&◌}
use Rattle.fo_world.specs.declared.tree.Node.{Node}
use Rattle.fo_world.specs.declared.tree.Body.{Body}
use Rattle.fo_world.specs.declared.tree.Body.TheVariants.{File, Dir}
use Rattle.fo_world.specs.declared.place.Place.{Place}
use Rattle.fo_world.specs.declared.place.Change.{Change}
use Rattle.fo_world.specs.declared.place.View.{View}
use Rattle.fo_world.specs.declared.place.View.TheVariants.{Archive}
use Rattle.fo_world.specs.declared.error.FileError.{FileError}
use Rattle.fo_world.specs.declared.error.FileError.TheVariants as error
use Rattle.fo_world.specs.Names.{Names}
use Rattle.fo_world.specs.World.{World}
use Rattle.fo_world.specs.Chain.{and_then, refuse_if}
use Rattle.fo_world.specs.Tree.{is_dir}
use Rattle.fo_world.specs.Step.{reached, as_dir, as_file, is_active, gives_length, write, create, remove, change}
use Rattle.fo_vac_walk.specs.Walk.{Holding}
use Rattle.fo_vac_files.specs.declared.opened.Opened.{Opened}
use Rattle.fo_vac_files.specs.Causes.{IsRefusal, IsSaid, LookBlames, HasLookCauses}
use Rattle.fo_vac_files.specs.Told.{KindIs}
use Rattle.fo_vac_files.proofs.Saying.{said_on}
use Rattle.fo_vacread.specs.Refused.{HasRefusal, refused_by, refusal_of_dir}

-- by the kind of the file
by_kind : {B : Type 0} (h : Holding) (o : Opened) (where_to : Result (List ℕ × Node) FileError) (more : List ℕ × Node → Result B FileError) (of_dir of_file : FileError) → IsRefusal of_dir → IsRefusal of_file
    → ((n : List ℕ × Node) → is_dir n.1.body ≡ true → more n ≡ Err of_dir) → ((n : List ℕ × Node) → is_dir n.1.body ≡ false → more n ≡ Err of_file)
    → (r : Result Bool FileError) → KindIs h o where_to r → IsSaid h o (and_then where_to more) (refused_by of_dir of_file r)
by_kind h o where_to more of_dir of_file one two dirs files (Ok true) k = inl (one, ap (λ r. and_then r more) k.is ∙ dirs k.node k.kind)
by_kind h o where_to more of_dir of_file one two dirs files (Ok false) k = inl (two, ap (λ r. and_then r more) k.is ∙ files k.node k.kind)
by_kind h o where_to more of_dir of_file one two dirs files (Err e) k = said_on h o where_to more e k

frozen : {B : Type 0} (e : ℕ) (v : View) (more : Result B FileError) → v ≡ Archive e → refuse_if (not (is_active v)) error.ReadOnly more ≡ Err error.ReadOnly
frozen e v more is = ap (λ (u : View). refuse_if (not (is_active u)) error.ReadOnly more) is

untrue : false ≡ true → ⊥
untrue e = cc

unfalse : true ≡ false → ⊥
unfalse e = cc

dir_as_file : {B : Type 0} (b : Body) (more : List ℕ → Result B FileError) → is_dir b ≡ true → and_then (as_file b) more ≡ Err error.IsDir
dir_as_file (File bytes) more is = absurd (untrue is)
dir_as_file (Dir names) more is = refl

file_as_file : {B : Type 0} (b : Body) (more : List ℕ → Result B FileError) (e : FileError) → is_dir b ≡ false → ((bytes : List ℕ) → more bytes ≡ Err e) → and_then (as_file b) more ≡ Err e
file_as_file (File bytes) more e is all = all bytes
file_as_file (Dir names) more e is all = absurd (unfalse is)

file_as_dir : {B : Type 0} (b : Body) (more : Names → Result B FileError) → is_dir b ≡ false → and_then (as_dir b) more ≡ Err error.NotDir
file_as_dir (File bytes) more is = refl
file_as_dir (Dir names) more is = absurd (unfalse is)

dir_as_dir : {B : Type 0} (b : Body) (more : Names → Result B FileError) (e : FileError) → is_dir b ≡ true → ((names : Names) → more names ≡ Err e) → and_then (as_dir b) more ≡ Err e
dir_as_dir (File bytes) more e is all = absurd (untrue is)
dir_as_dir (Dir names) more e is all = all names

pub write_refused : (h : Holding) (o : Opened) (ep largest : ℕ) (w : World) (at : Place) (offset : ℕ) (bytes who : List ℕ) (now : ℕ) (r : Result Bool FileError) → at.view ≡ Archive ep → KindIs h o (reached false w at) r
    → IsSaid h o (write false largest w at offset bytes who now) (refused_by error.IsDir error.ReadOnly r)
unfolding write
write_refused h o ep largest w at offset bytes who now r is k =
    by_kind h o (reached false w at) _ error.IsDir error.ReadOnly tt tt (λ n dir. dir_as_file n.1.body _ dir) (λ n file. file_as_file n.1.body _ error.ReadOnly file (λ old. frozen ep at.view _ is)) r k

pub create_refused : (h : Holding) (o : Opened) (ep : ℕ) (w : World) (at : Place) (name : List ℕ) (mode : ℕ) (who uid gid : List ℕ) (now : ℕ) (r : Result Bool FileError) → at.view ≡ Archive ep → KindIs h o (reached false w at) r
    → IsSaid h o (create false w at name mode who uid gid now) (refused_by error.ReadOnly error.NotDir r)
unfolding create
create_refused h o ep w at name mode who uid gid now r is k =
    by_kind h o (reached false w at) _ error.ReadOnly error.NotDir tt tt (λ n dir. dir_as_dir n.1.body _ error.ReadOnly dir (λ names. frozen ep at.view _ is)) (λ n file. file_as_dir n.1.body _ file) r k

pub remove_refused : (h : Holding) (o : Opened) (ep : ℕ) (w : World) (at : Place) (who : List ℕ) (now : ℕ) (r : Result Bool FileError) → at.view ≡ Archive ep → KindIs h o (reached false w at) r
    → IsSaid h o (remove false w at who now) (refused_by error.ReadOnly error.ReadOnly r)
unfolding remove
remove_refused h o ep w at who now r is k =
    by_kind h o (reached false w at) _ error.ReadOnly error.ReadOnly tt tt (λ n dir. frozen ep at.view _ is) (λ n file. frozen ep at.view _ is) r k

-- a length that is given
length_refused : {B : Type 0} (len : Option ℕ) (b : Body) (more : Result B FileError) → is_dir b ≡ true → more ≡ Err error.ReadOnly → refuse_if (gives_length len b) error.IsDir more ≡ Err (refusal_of_dir len)
length_refused None b more dir rest = rest
length_refused (Some n) b more dir rest = ap (λ d. refuse_if (d && nat_lt 0 n) error.IsDir more) dir ∙ by (nat_lt 0 n)
  where
    by : (some : Bool) → refuse_if some error.IsDir more ≡ Err (if some then error.IsDir else error.ReadOnly)
    by true = refl
    by false = rest

length_passed : {B : Type 0} (len : Option ℕ) (b : Body) (more : Result B FileError) → is_dir b ≡ false → more ≡ Err error.ReadOnly → refuse_if (gives_length len b) error.IsDir more ≡ Err error.ReadOnly
length_passed None b more file rest = rest
length_passed (Some n) b more file rest = ap (λ d. refuse_if (d && nat_lt 0 n) error.IsDir more) file ∙ rest

dir_refusal : (len : Option ℕ) → IsRefusal (refusal_of_dir len)
dir_refusal None = tt
dir_refusal (Some n) = by (nat_lt 0 n)
  where
    by : (some : Bool) → IsRefusal (if some then error.IsDir else error.ReadOnly)
    by true = tt
    by false = tt

pub change_refused : (h : Holding) (o : Opened) (ep largest : ℕ) (w : World) (at : Place) (what : Change) (who : List ℕ) (now : ℕ) (r : Result Bool FileError) → at.view ≡ Archive ep → KindIs h o (reached false w at) r
    → IsSaid h o (change false largest w at what who now) (refused_by (refusal_of_dir what.length) error.ReadOnly r)
unfolding change
change_refused h o ep largest w at what who now r is k =
    by_kind h o (reached false w at) _ (refusal_of_dir what.length) error.ReadOnly (dir_refusal what.length) tt
    (λ n dir. length_refused what.length n.1.body _ dir (frozen ep at.view _ is)) (λ n file. length_passed what.length n.1.body _ file (frozen ep at.view _ is)) r k

-- ---- causes

pub refused_cause : (before now : ℕ) (of_dir of_file : FileError) (r : Result Bool FileError) → LookBlames before now of_dir → LookBlames before now of_file → HasLookCauses before now r → HasRefusal before now (refused_by of_dir of_file r)
refused_cause before now of_dir of_file (Ok true) one two c = record { later = c.later; blames = one }
refused_cause before now of_dir of_file (Ok false) one two c = record { later = c.later; blames = two }
refused_cause before now of_dir of_file (Err e) one two c = record { later = c.later; blames = c.failed }

pub length_blames : (before now : ℕ) (len : Option ℕ) → LookBlames before now (refusal_of_dir len)
length_blames before now None = tt
length_blames before now (Some n) = by (nat_lt 0 n)
  where
    by : (some : Bool) → LookBlames before now (if some then error.IsDir else error.ReadOnly)
    by true = tt
    by false = tt
