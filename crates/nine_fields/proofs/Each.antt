-- What holds of each element.
use Rattle.std.proofs.Common.{◌≡◌, ℕ, ◌+◌, ◌<◌, List, [], ◌∷◌, ◌++◌, length, take, get_or, sym, subst}
use Rattle.std.specs.List.{AllByRecursion}
use Rattle.std.proofs.lemmas.List.{take_more}

all_and : {A : Type 0} (P : A → Type 0) (xs : List A) (x : A) → AllByRecursion P xs → P x → AllByRecursion P (xs ++ x ∷ [])
all_and P [] x all p = (p, tt)
all_and P (y ∷ ys) x all p = (all.0, all_and P ys x all.1 p)

-- it holds of one element more
pub all_more : {A : Type 0} (P : A → Type 0) (xs : List A) (i : ℕ) (x : A) → i < length xs → AllByRecursion P (take i xs) → P (get_or xs i x) → AllByRecursion P (take (i + 1) xs)
all_more P xs i x lt all p = subst (AllByRecursion P) (sym (take_more xs i x lt)) (all_and P (take i xs) (get_or xs i x) all p)
