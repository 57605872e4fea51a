-- What the file step says of views other than the active tree, in a world with no snapshot and no archive.
use Rattle.std.proofs.Common.{◌≡◌, refl, sym, ap, ◌∙◌, ℕ, zero, suc, arith, Bool, true, false, List, [], ◌∷◌}
use Rattle.std.proofs.lemmas.Bool.{ne_eqb}
use Rattle.std.specs.Prelude.{◌&&◌, nat_eq, nat_lt, length, cond, Option, Some, None, Result, Ok, Err, IfErr}
use Rattle.fo_world.specs.declared.error.FileError.{FileError}
use Rattle.fo_world.specs.declared.error.FileError.TheVariants as error
use Rattle.fo_world.specs.declared.place.Change.{Change}
use Rattle.fo_world.specs.declared.place.Place.{Place}
use Rattle.fo_world.specs.declared.place.View.{View}
use Rattle.fo_world.specs.declared.place.View.TheVariants.{Active, Snap, Archive, Dated}
use Rattle.fo_world.specs.declared.tree.Body.TheVariants.{Dir}
use Rattle.fo_world.specs.declared.tree.Node.{Node}
use Rattle.fo_world.specs.Chain.{and_then, refuse_if}
use Rattle.fo_world.specs.Dated.{taken_of, dated_node, slash}
use Rattle.fo_world.specs.Fits.{InfoFits}
use Rattle.fo_world.specs.Names.{no_names}
use Rattle.fo_world.specs.Step.{reached, reached_from, root_name, root_of, above, by_view, entries_of, gives_length, info, info_of, find, parent, next_name, read, write, create, remove, change, is_active, HasEpoch}
use Rattle.fo_world.specs.World.{World, Faults}
use Rattle.fo_world.specs.Answers.{HasCause, Refuses}
use Rattle.fo_world.proofs.Texts.{name-slash, user-adm}
use Rattle.fo_files_views.specs.Aside.{HasNone, IsOwn, is_years, is_dated_root, refused_at, unchanged}

apart : {A : Type 0} → false ≡ true → A
apart e = absurd cc

none_taken : (w : World) (archive : Bool) → HasNone w → taken_of archive w ≡ []
none_taken w true none = rw none.archives refl
none_taken w false none = rw none.snaps refl

-- the root of the dated directories
abbrev pub dated_root : List ℕ × Node
dated_root = (slash, dated_node 0 0)

abbrev told_at : Bool → Result (List ℕ × Node) FileError
told_at root = cond root (Ok dated_root) (Err error.Gone)

not_zero : (n : ℕ) → nat_eq (suc n) 0 ≡ false
not_zero n = ne_eqb (suc n) 0 (λ e. absurd (omega (arith, e)))

some_number : (k : ℕ) (ks : List ℕ) → nat_eq (length (k ∷ ks)) 0 ≡ false
some_number k ks = ne_eqb (length (k ∷ ks)) 0 (λ e. absurd (omega (arith, e)))

dated_along : (w : World) (archive : Bool) (year monthday : ℕ) (trail : List ℕ) → HasNone w → reached_from (root_name true w (Dated archive year monthday)) (root_of w (Dated archive year monthday)) trail ≡ told_at (is_dated_root (record { view = Dated archive year monthday; trail = trail }))
dated_along w archive zero zero [] none = refl
dated_along w archive zero zero (k ∷ ks) none = rw (some_number k ks) refl
dated_along w archive zero (suc m) trail none = rw (none_taken w archive none, not_zero m) refl
dated_along w archive (suc y) m trail none = rw (none_taken w archive none, not_zero y) refl

along_view : (w : World) (view : View) (trail : List ℕ) → HasNone w → is_active view ≡ false → reached_from (root_name true w view) (root_of w view) trail ≡ told_at (is_dated_root (record { view = view; trail = trail }))
along_view w Active trail none aside = apart (sym aside)
along_view w (Snap e) trail none aside = rw none.snaps refl
along_view w (Archive e) trail none aside = rw none.archives refl
along_view w (Dated archive year monthday) trail none aside = dated_along w archive year monthday trail none

-- what is reached beside the active tree
pub reached_aside : (w : World) (at : Place) → HasNone w → is_active at.view ≡ false → reached true w at ≡ told_at (is_dated_root at)
reached_aside w at none aside = along_view w at.view at.trail none aside

-- nothing is there but the root
pub is_gone : (w : World) (at : Place) → HasNone w → is_active at.view ≡ false → is_dated_root at ≡ false → reached true w at ≡ Err error.Gone
is_gone w at none aside root = reached_aside w at none aside ∙ ap told_at root

pub is_root : (w : World) (at : Place) → HasNone w → is_active at.view ≡ false → is_dated_root at ≡ true → reached true w at ≡ Ok dated_root
is_root w at none aside root = reached_aside w at none aside ∙ ap told_at root

-- a call that goes on where something is reached
abbrev Then : Type 0 → Type 0
Then A = List ℕ × Node → Result A FileError

-- it is refused so at the root, and elsewhere nothing is there
refused : {A : Type 0} (w : World) (at : Place) (f : Then A) (e : FileError) → HasNone w → is_active at.view ≡ false → (is_dated_root at ≡ true → f dated_root ≡ Err e) → and_then (reached true w at) f ≡ Err (refused_at at e)
refused {A = A} w at f e none aside goes = rw (reached_aside w at none aside) (by_root (is_dated_root at) goes)
  where
    by_root : (root : Bool) → (root ≡ true → f dated_root ≡ Err e) → and_then (told_at root) f ≡ Err (cond root e error.Gone)
    by_root true goes = goes refl
    by_root false goes = refl

-- ---- the root

-- a view with dated names alone
by_years : {A : Type 0} (view : View) (tree : A) (dated : Bool → ℕ → ℕ → A) (x : A) → is_years view ≡ true → ((archive : Bool) (year monthday : ℕ) → dated archive year monthday ≡ x) → by_view view tree dated ≡ x
by_years Active tree dated x years same = apart years
by_years (Snap e) tree dated x years same = apart years
by_years (Archive e) tree dated x years same = apart years
by_years (Dated archive year monthday) tree dated x years same = same archive year monthday

years_of : (years empty : Bool) → years && empty ≡ true → years ≡ true
years_of true empty both = refl
years_of false empty both = both

pub epoch_of_root : (at : Place) → is_dated_root at ≡ true → HasEpoch at.view
epoch_of_root at root = by_case at.view (years_of (is_years at.view) (nat_eq (length at.trail) 0) root)
  where
    by_case : (view : View) → is_years view ≡ true → HasEpoch view
    by_case Active years = tt
    by_case (Snap e) years = apart years
    by_case (Archive e) years = apart years
    by_case (Dated archive year monthday) years = tt

above_of : (w : World) (view : View) (trail : List ℕ) → is_dated_root (record { view = view; trail = trail }) ≡ true → above true w (record { view = view; trail = trail }) ≡ record { view = view; trail = trail }
above_of w Active trail root = apart root
above_of w (Snap e) trail root = apart root
above_of w (Archive e) trail root = apart root
above_of w (Dated archive zero zero) [] root = refl
above_of w (Dated archive zero zero) (k ∷ ks) root = apart (sym (some_number k ks) ∙ root)
above_of w (Dated archive zero (suc m)) trail root = apart (sym (ap (λ b. b && nat_eq (length trail) 0) (not_zero m)) ∙ root)
above_of w (Dated archive (suc y) m) trail root = apart (sym (ap (λ b. (b && nat_eq m 0) && nat_eq (length trail) 0) (not_zero y)) ∙ root)

none_listed : (w : World) (archive : Bool) (year monthday : ℕ) → HasNone w → entries_of w archive year monthday ≡ []
none_listed w archive year monthday none = rw (none_taken w archive none) refl

-- ---- the calls that look

pub info_root : (w : World) (at : Place) → HasNone w → is_active at.view ≡ false → is_dated_root at ≡ true → info true w at ≡ Ok (info_of at dated_root, w)
info_root w at none aside root = ap (λ r. and_then r (λ f. Ok (info_of at f, w))) (is_root w at none aside root)

pub info_gone : (w : World) (at : Place) → HasNone w → is_active at.view ≡ false → is_dated_root at ≡ false → info true w at ≡ Err error.Gone
info_gone w at none aside root = ap (λ r. and_then r (λ f. Ok (info_of at f, w))) (is_gone w at none aside root)

pub parent_root : (w : World) (at : Place) → HasNone w → is_active at.view ≡ false → is_dated_root at ≡ true → parent true w at ≡ Ok (info_of at dated_root, w)
unfolding parent
parent_root w at none aside root =
    ap (λ r. and_then r (λ (f : List ℕ × Node). info true w (above true w at))) (is_root w at none aside root)
    ∙ (ap (λ p. info true w p) (above_of w at.view at.trail root) ∙ info_root w at none aside root)

pub parent_gone : (w : World) (at : Place) → HasNone w → is_active at.view ≡ false → is_dated_root at ≡ false → parent true w at ≡ Err error.Gone
unfolding parent
parent_gone w at none aside root = ap (λ r. and_then r (λ (f : List ℕ × Node). info true w (above true w at))) (is_gone w at none aside root)

pub find_refused : (w : World) (at : Place) (name : List ℕ) → HasNone w → is_active at.view ≡ false → find true w at name ≡ Err (refused_at at error.Absent)
unfolding find
find_refused w at name none aside = refused w at _ error.Absent none aside (λ root. by_years at.view _ _ (Err error.Absent) (years_of (is_years at.view) (nat_eq (length at.trail) 0) root) (λ archive year monthday. rw (none_listed w archive year monthday none) refl))

pub next_root : (w : World) (at : Place) (after : Option (List ℕ)) → HasNone w → is_active at.view ≡ false → is_dated_root at ≡ true → next_name true w at after ≡ Ok (None, w)
unfolding next_name
next_root w at after none aside root =
    rw (is_root w at none aside root) (by_years at.view _ _ (Ok (None, w)) (years_of (is_years at.view) (nat_eq (length at.trail) 0) root) (λ archive year monthday. rw (none_listed w archive year monthday none) refl))

pub next_gone : (w : World) (at : Place) (after : Option (List ℕ)) → HasNone w → is_active at.view ≡ false → is_dated_root at ≡ false → next_name true w at after ≡ Err error.Gone
unfolding next_name
next_gone w at after none aside root = rw (is_gone w at none aside root) refl

pub read_refused : (w : World) (at : Place) (offset count : ℕ) → HasNone w → is_active at.view ≡ false → read true w at offset count ≡ Err (refused_at at error.IsDir)
unfolding read
read_refused w at offset count none aside = refused w at _ error.IsDir none aside (λ root. refl)

-- ---- the calls that change

pub write_refused : (w : World) (at : Place) (largest offset : ℕ) (bytes who : List ℕ) (now : ℕ) → HasNone w → is_active at.view ≡ false → write true largest w at offset bytes who now ≡ Err (refused_at at error.IsDir)
unfolding write
write_refused w at largest offset bytes who now none aside = refused w at _ error.IsDir none aside (λ root. refl)

pub create_refused : (w : World) (at : Place) (name : List ℕ) (mode : ℕ) (who uid gid : List ℕ) (now : ℕ) → HasNone w → is_active at.view ≡ false → create true w at name mode who uid gid now ≡ Err (refused_at at error.ReadOnly)
unfolding create
create_refused w at name mode who uid gid now none aside = refused w at _ error.ReadOnly none aside (λ root. rw aside refl)

pub remove_refused : (w : World) (at : Place) (who : List ℕ) (now : ℕ) → HasNone w → is_active at.view ≡ false → remove true w at who now ≡ Err (refused_at at error.ReadOnly)
unfolding remove
remove_refused w at who now none aside = refused w at _ error.ReadOnly none aside (λ root. rw aside refl)

unchanged_by : {A : Type 0} (given : Option ℕ) (r : Result A FileError) → r ≡ Err error.ReadOnly → refuse_if (gives_length given (Dir no_names)) error.IsDir r ≡ Err (unchanged given)
unchanged_by None r is = is
unchanged_by {A = A} (Some n) r is = by_test (nat_lt 0 n)
  where
    by_test : (test : Bool) → refuse_if test error.IsDir r ≡ Err (cond test error.IsDir error.ReadOnly)
    by_test true = refl
    by_test false = is

pub change_refused : (w : World) (at : Place) (largest : ℕ) (what : Change) (who : List ℕ) (now : ℕ) → HasNone w → is_active at.view ≡ false → change true largest w at what who now ≡ Err (refused_at at (unchanged what.length))
unfolding change
change_refused w at largest what who now none aside = refused w at _ (unchanged what.length) none aside (λ root. unchanged_by what.length _ (rw aside refl))

-- ---- what is told fits

pub root_fits : (at : Place) → InfoFits (info_of at dated_root)
root_fits at = record { name = name-slash; uid = user-adm; gid = user-adm; muid = user-adm }

-- no device and no room is to blame for the refusal of a change
pub own_unchanged : (at : Place) (given : Option ℕ) → IsOwn (refused_at at (unchanged given))
own_unchanged at given = by_root (is_dated_root at) (unchanged given) (own given)
  where
    by_test : (test : Bool) → IsOwn (cond test error.IsDir error.ReadOnly)
    by_test true = tt
    by_test false = tt

    own : (given : Option ℕ) → IsOwn (unchanged given)
    own None = tt
    own (Some n) = by_test (nat_lt 0 n)

    by_root : (root : Bool) (e : FileError) → IsOwn e → IsOwn (cond root e error.Gone)
    by_root true e h = h
    by_root false e h = tt

-- ---- causes

pub own_cause : (before after : Faults) (honest : Type 0) (room : ℕ → Type 0) (most : ℕ) (e : FileError) → IsOwn e → HasCause before after honest room most e
own_cause before after honest room most error.Full own = absurd own
own_cause before after honest room most error.MainRead own = absurd own
own_cause before after honest room most error.MainWrite own = absurd own
own_cause before after honest room most error.MainSync own = absurd own
own_cause before after honest room most error.ArenaRead own = absurd own
own_cause before after honest room most error.ArenaWrite own = absurd own
own_cause before after honest room most error.ArenaSync own = absurd own
own_cause before after honest room most (error.Damaged b) own = absurd own
own_cause before after honest room most error.TooBig own = tt
own_cause before after honest room most error.Exists own = tt
own_cause before after honest room most error.Absent own = tt
own_cause before after honest room most error.NotEmpty own = tt
own_cause before after honest room most error.TooDeep own = tt
own_cause before after honest room most error.NoNumbers own = tt
own_cause before after honest room most error.NotDir own = tt
own_cause before after honest room most error.IsDir own = tt
own_cause before after honest room most error.ReadOnly own = tt
own_cause before after honest room most error.Halted own = tt
own_cause before after honest room most error.Gone own = tt
own_cause before after honest room most error.DirFull own = tt
own_cause before after honest room most error.Memory own = tt

pub owns_refused : {A : Type 0} (before after : Faults) (honest : Type 0) (room : ℕ → Type 0) (most : ℕ) (r : Result A FileError) → IfErr r IsOwn → Refuses before after honest room most r
owns_refused before after honest room most (Ok x) own = tt
owns_refused before after honest room most (Err e) own = own_cause before after honest room most e own
