-- A call that looks leaves the world, and what it tells is no failure.
use Rattle.std.proofs.Common.{◌≡◌, ℕ, List, Bool, false, Option, Some, None, Result, Ok, Err, refl, ap, subst}
use Rattle.std.specs.Prelude.{option_and_then, IfErr, MatchResult}
use Rattle.std.specs.Option.{ok_or}
use Rattle.fo_world.specs.declared.tree.Node.{Node}
use Rattle.fo_world.specs.declared.tree.Body.{Body}
use Rattle.fo_world.specs.declared.tree.Body.TheVariants.{File, Dir}
use Rattle.fo_world.specs.declared.place.View.{View}
use Rattle.fo_world.specs.declared.place.View.TheVariants.{Active, Snap, Archive, Dated}
use Rattle.fo_world.specs.declared.place.Place.{Place}
use Rattle.fo_world.specs.declared.error.FileError.{FileError}
use Rattle.fo_world.specs.declared.error.FileError.TheVariants as error
use Rattle.fo_world.specs.Tree.{along, named}
use Rattle.fo_world.specs.World.{World}
use Rattle.fo_world.specs.Chain.{and_then}
use Rattle.fo_world.specs.Step.{reached, root_name, root_of, as_dir, as_file, by_view, root_at, above, entry_named, entries_of, next_above, least_above, file_found, view_found, next_found, next_view_found, info_of, info, find, parent, next_name, read}
use Rattle.nine_fids.specs.declared.refusal.Refusal.TheVariants as refusal
use Rattle.nine_fids.specs.Refusing.{looked, is_failure}
use Rattle.nine_fids.specs.Told.{Files, named_at, bytes_at}

-- it is none of the failures
abbrev pub IsPlain : FileError → Type 0
IsPlain e = is_failure (refusal.File e) ≡ false

abbrev pub Stays : {A : Type 0} → World → Result (A × World) FileError → Type 0
Stays w r = MatchResult r (λ p. p.1 ≡ w) IsPlain

then : {A B : Type 0} (w : World) (r : Result A FileError) (f : A → Result (B × World) FileError) → IfErr r IsPlain → ((x : A) → Stays w (f x)) → Stays w (and_then r f)
then w (Ok x) f h g = g x
then w (Err e) f h g = h

plain : {A : Type 0} (w : World) (r : Result (A × World) FileError) → Stays w r → IfErr r IsPlain
plain w (Ok p) h = tt
plain w (Err e) h = h

gone : {A : Type 0} (o : Option A) → IfErr (ok_or o error.Gone) IsPlain
gone (Some x) = tt
gone None = refl

reached_plain : (whole : Bool) (w : World) (at : Place) → IfErr (reached whole w at) IsPlain
reached_plain whole w at = gone (option_and_then (λ node. along at.trail (root_name whole w at.view, node)) (root_of w at.view))

dir_plain : (b : Body) → IfErr (as_dir b) IsPlain
dir_plain (File bytes) = refl
dir_plain (Dir names) = tt

file_plain : (b : Body) → IfErr (as_file b) IsPlain
file_plain (File bytes) = tt
file_plain (Dir names) = refl

view_stays : {A : Type 0} (w : World) (view : View) (tree : Result (A × World) FileError) (dated : Bool → ℕ → ℕ → Result (A × World) FileError) → Stays w tree → ((a : Bool) (y m : ℕ) → Stays w (dated a y m)) → Stays w (by_view view tree dated)
view_stays w Active tree dated t d = t
view_stays w (Snap e) tree dated t d = t
view_stays w (Archive e) tree dated t d = t
view_stays w (Dated a y m) tree dated t d = d a y m

pub info_stays : (whole : Bool) (w : World) (at : Place) → Stays w (info whole w at)
info_stays whole w at = then w (reached whole w at) (λ f. Ok (info_of at f, w)) (reached_plain whole w at) (λ f. refl)

file_found_stays : (w : World) (at : Place) (o : Option (List ℕ × Node)) → Stays w (file_found w at o)
file_found_stays w at None = refl
file_found_stays w at (Some g) = refl

view_found_stays : (whole : Bool) (w : World) (o : Option View) → Stays w (view_found whole w o)
view_found_stays whole w None = refl
view_found_stays whole w (Some view) = info_stays whole w (root_at view)

pub find_stays : (whole : Bool) (w : World) (at : Place) (name : List ℕ) → Stays w (find whole w at name)
unfolding find
find_stays whole w at name =
    then w (reached whole w at) _ (reached_plain whole w at) (λ f.
    then w (as_dir f.1.body) _ (dir_plain f.1.body) (λ names.
    view_stays w at.view (file_found w at (named name names)) (λ a y m. view_found whole w (entry_named name (entries_of w a y m)))
    (file_found_stays w at (named name names)) (λ a y m. view_found_stays whole w (entry_named name (entries_of w a y m)))))

pub parent_stays : (whole : Bool) (w : World) (at : Place) → Stays w (parent whole w at)
unfolding parent
parent_stays whole w at = then w (reached whole w at) _ (reached_plain whole w at) (λ f. info_stays whole w (above whole w at))

next_found_stays : (w : World) (at : Place) (o : Option (List ℕ × Node)) → Stays w (next_found w at o)
next_found_stays w at None = refl
next_found_stays w at (Some g) = refl

next_view_stays : (whole : Bool) (w : World) (o : Option View) → Stays w (next_view_found whole w o)
next_view_stays whole w None = refl
next_view_stays whole w (Some view) = then w (info whole w (root_at view)) _ (plain w (info whole w (root_at view)) (info_stays whole w (root_at view))) (λ i. refl)

pub next_name_stays : (whole : Bool) (w : World) (at : Place) (after : Option (List ℕ)) → Stays w (next_name whole w at after)
unfolding next_name
next_name_stays whole w at after =
    then w (reached whole w at) _ (reached_plain whole w at) (λ f.
    then w (as_dir f.1.body) _ (dir_plain f.1.body) (λ names.
    view_stays w at.view (next_found w at (next_above after names)) (λ a y m. next_view_found whole w (least_above after (entries_of w a y m)))
    (next_found_stays w at (next_above after names)) (λ a y m. next_view_stays whole w (least_above after (entries_of w a y m)))))

pub read_stays : (whole : Bool) (w : World) (at : Place) (offset count : ℕ) → Stays w (read whole w at offset count)
unfolding read
read_stays whole w at offset count =
    then w (reached whole w at) _ (reached_plain whole w at) (λ f.
    then w (as_file f.1.body) _ (file_plain f.1.body) (λ bytes. refl))

-- ---- what a call on files says

-- what it gives, and the world that it leaves
pub seen : {A : Type 0} (told : Result (A × World) FileError) (w w' : World) (x : A) → Stays w told → told ≡ Ok (x, w') → (looked told ≡ Ok x) × (w' ≡ w)
seen told w w' x stays is =
    let P : Result (_ × World) FileError → Type 0 = λ r. Stays w r in
    (ap looked is, subst P is stays)

-- a refusal that is told is no failure
pub told_plain : {A : Type 0} (told : Result (A × World) FileError) (w : World) → Stays w told → IfErr (looked told) (λ r. is_failure r ≡ false)
told_plain (Ok p) w h = tt
told_plain (Err e) w h = h

pub named_plain : (e : Files) (w : World) (at : Place) (name : List ℕ) → IfErr (named_at e w at name) (λ r. is_failure r ≡ false)
unfolding named_at
named_plain e w at name = told_plain (find e.whole w at name) w (find_stays e.whole w at name)

pub bytes_plain : (e : Files) (w : World) (at : Place) (offset count : ℕ) → IfErr (bytes_at e w at offset count) (λ r. is_failure r ≡ false)
unfolding bytes_at
bytes_plain e w at offset count = told_plain (read e.whole w at offset count) w (read_stays e.whole w at offset count)
