-- What is asked of a file that was found.
use Rattle.std.proofs.Common.{◌≡◌, ◌+◌, ◌*◌, ◌≤◌, ℕ, Bool, true, false, List, [], ◌∷◌, length, Option, refl, sym, ap, subst, ◌∙◌, arith}
use Rattle.std.specs.Prelude.{IfSome, is_some, Result, Ok, Err, IfErr, OnOk, OnErr}
use Rattle.fo_world.specs.declared.place.Place.{Place}
use Rattle.fo_world.specs.Step.{depth_of, give, most_need, new_name}
use Rattle.fo_files_rename.specs.Change.{given_of}
use Rattle.fo_files_rename.proofs.Causes.{most_given, most_taken}

given_within : (P : ℕ → Type 0) (dir : Bool) (given : Option ℕ) → IfSome given P → IfSome (given_of dir given) P
given_within P true given is = tt
given_within P false given is = is

pub length_within : (P : ℕ → Type 0) (dir : Bool) (given g : Option ℕ) → g ≡ given_of dir given → IfSome given P → IfSome g P
length_within P dir given g same is = subst (λ x. IfSome x P) (sym same) (given_within P dir given is)

-- a test of the name that a file has
pub renamed : (b t : Bool) (given : Option (List ℕ)) (old name : List ℕ) → b ≡ is_some (new_name given old) → old ≡ name → b ≡ t → is_some (new_name given name) ≡ t
renamed b t given old name is same e = sym (is ∙ ap (λ n. is_some (new_name given n)) same) ∙ e

empty : (xs : List ℕ) (n : ℕ) → n ≡ length xs → n ≡ 0 → xs ≡ []
empty [] n count none = refl
empty (x ∷ xs) n count none = absurd (omega (arith, count, none))

-- the trail of the root directory
pub no_trail : (xs ys : List ℕ) (n : ℕ) → xs ≡ ys → n ≡ length xs → n ≡ 0 → ys ≡ []
no_trail xs ys n same count none = sym same ∙ empty xs n count none

pub give_of : (xs : List ℕ) (at : Place) → xs ≡ at.trail → 5 * length xs + 31 ≤ give (depth_of at)
give_of xs at same = subst (λ t. 5 * length t + 31 ≤ give (depth_of at)) (sym same) (most_given (length at.trail))

pub most_of : (xs : List ℕ) (at : Place) → xs ≡ at.trail → 5 * length xs + 31 ≤ most_need at
most_of xs at same = subst (λ t. 5 * length t + 31 ≤ most_need at) (sym same) (most_taken (length at.trail))

pub some_give : (at : Place) → 0 ≤ give (depth_of at)
some_give at = omega arith

pub some_need : (at : Place) → 0 ≤ most_need at
some_need at = omega arith

-- ---- what a call answers

pub map_ok : {T E : Type 0} (r : Result T E) (P Q : Type 0) → (P → Q) → OnOk r P → OnOk r Q
map_ok (Ok x) P Q f h = f h
map_ok (Err e) P Q f h = tt

pub map_err : {T E : Type 0} (r : Result T E) (P Q : Type 0) → (P → Q) → OnErr r P → OnErr r Q
map_err (Ok x) P Q f h = tt
map_err (Err e) P Q f h = f h

pub map_why : {T E : Type 0} (r : Result T E) (P Q : E → Type 0) → ((e : E) → P e → Q e) → IfErr r P → IfErr r Q
map_why (Ok x) P Q f h = tt
map_why (Err e) P Q f h = f e h

pub always_ok : {T E : Type 0} (r : Result T E) (P : Type 0) → P → OnOk r P
always_ok (Ok x) P h = h
always_ok (Err e) P h = tt
