-- How often slots are left, in lists of steps that are joined and parted.
use Rattle.std.proofs.Common.{◌≡◌, ◌≢◌, ⊎_elim, ℕ, ◌+◌, ◌≤◌, true, false, List, [], ◌∷◌, ◌++◌, append_assoc, refl, sym, ap, ◌∙◌, subst, arith}
use Rattle.std.specs.Prelude.{nat_eq}
use Rattle.std.proofs.lemmas.Bool.{cases_eq}
use Rattle.fo_disk.specs.Disk.{Block}
use Rattle.fo_image.specs.declared.types.Label.{Label}
use Rattle.fo_crash.specs.Images.{Image}
use Rattle.fo_check_tree.specs.declared.walk.Folder.{Folder}
use Rattle.fo_check_tree.specs.declared.walk.Step.{Step}
use Rattle.fo_check_tree.specs.Walking.{IsStepOf, one, Fits, tops, all_tops}

-- ---- one slot

eq_same : (a : ℕ) → nat_eq a a ≡ true
eq_same a = grind arith

eq_other : (a b : ℕ) → a ≢ b → nat_eq a b ≡ false
eq_other a b apart = grind (arith, apart)

pub one_here : (at i : ℕ) → one at i at i ≡ 1
one_here at i = rw (eq_same at, eq_same i) refl

pub one_block : (at i b j : ℕ) → b ≢ at → one at i b j ≡ 0
one_block at i b j apart = rw (eq_other b at apart) refl

pub one_slot : (at i b j : ℕ) → j ≢ i → one at i b j ≡ 0
one_slot at i b j apart = ⊎_elim
    (λ (same : b ≡ at). rw (same, eq_same at, eq_other j i apart) refl)
    (λ (other : b ≢ at). one_block at i b j other)
    (cases_eq b at)

pub one_is : (at i b j : ℕ) → 1 ≤ one at i b j → (b ≡ at) × (j ≡ i)
one_is at i b j some = ⊎_elim
    (λ (same : b ≡ at). ⊎_elim (λ (here : j ≡ i). (same, here)) (λ (apart : j ≢ i). absurd (omega (arith, some, one_slot at i b j apart))) (cases_eq j i))
    (λ (other : b ≢ at). absurd (omega (arith, some, one_block at i b j other)))
    (cases_eq b at)

pub one_most : (at i b j : ℕ) → one at i b j ≤ 1
one_most at i b j = ⊎_elim
    (λ (same : b ≡ at). ⊎_elim
    (λ (here : j ≡ i). subst (λ (c : ℕ). one at i c j ≤ 1) (sym same) (subst (λ (m : ℕ). one at i at m ≤ 1) (sym here) (omega (arith, one_here at i))))
    (λ (apart : j ≢ i). omega (arith, one_slot at i b j apart)) (cases_eq j i))
    (λ (other : b ≢ at). omega (arith, one_block at i b j other))
    (cases_eq b at)

-- ---- lists of steps

pub record Parts (device : List Block) (image : Image) (xs ys : List Step) (n : ℕ → ℕ → ℕ) : Type 0 where
  pub first : ℕ → ℕ → ℕ
  pub second : ℕ → ℕ → ℕ
  pub first_fits : Fits device image xs first
  pub second_fits : Fits device image ys second
  pub sum : (b j : ℕ) → n b j ≡ first b j + second b j

pub record One (device : List Block) (image : Image) (step : Step) (n : ℕ → ℕ → ℕ) : Type 0 where
  pub at : ℕ
  pub label : Label
  pub slot : ℕ
  pub is : IsStepOf device image at label slot step
  pub count : (b j : ℕ) → n b j ≡ one at slot b j

module _ (device : List Block) (image : Image) where
  pub fits_nothing : Fits device image [] (λ b j. 0)
  fits_nothing = record { each = λ b j. refl }

  pub fits_same : (steps : List Step) (n m : ℕ → ℕ → ℕ) → ((b j : ℕ) → m b j ≡ n b j) → Fits device image steps n → Fits device image steps m
  fits_same [] n m same fits = record { each = λ b j. same b j ∙ fits.each b j }
  fits_same (step ∷ steps) n m same fits = record { at = fits.at; label = fits.label; slot = fits.slot; is = fits.is; others = fits.others; rest = fits.rest; sum = λ b j. same b j ∙ fits.sum b j }

  pub fits_join : (xs ys : List Step) (n m : ℕ → ℕ → ℕ) → Fits device image xs n → Fits device image ys m → Fits device image (xs ++ ys) (λ b j. n b j + m b j)
  fits_join [] ys n m first second = fits_same ys m (λ b j. n b j + m b j) (λ b j. omega (arith, first.each b j)) second
  fits_join (step ∷ xs) ys n m first second = record {
    at = first.at;
    label = first.label;
    slot = first.slot;
    is = first.is;
    others = λ b j. first.others b j + m b j;
    rest = fits_join xs ys first.others m first.rest second;
    sum = λ b j. omega (arith, first.sum b j);
  }

  pub fits_part : (xs ys : List Step) (n : ℕ → ℕ → ℕ) → Fits device image (xs ++ ys) n → Parts device image xs ys n
  fits_part [] ys n fits = record { first = λ b j. 0; second = n; first_fits = record { each = λ b j. refl }; second_fits = fits; sum = λ b j. omega arith }
  fits_part (step ∷ xs) ys n fits =
      let p = fits_part xs ys fits.others fits.rest in
      record {
        first = λ b j. one fits.at fits.slot b j + p.first b j;
        second = p.second;
        first_fits = record { at = fits.at; label = fits.label; slot = fits.slot; is = fits.is; others = p.first; rest = p.first_fits; sum = λ b j. refl };
        second_fits = p.second_fits;
        sum = λ b j. omega (arith, fits.sum b j, p.sum b j);
      }

  pub fits_one : (step : Step) (at : ℕ) (l : Label) (i : ℕ) → IsStepOf device image at l i step → Fits device image (step ∷ []) (one at i)
  fits_one step at l i is = record { at = at; label = l; slot = i; is = is; others = λ b j. 0; rest = record { each = λ b j. refl }; sum = λ b j. omega arith }

  pub fits_single : (step : Step) (n : ℕ → ℕ → ℕ) → Fits device image (step ∷ []) n → One device image step n
  fits_single step n fits = record { at = fits.at; label = fits.label; slot = fits.slot; is = fits.is; count = λ b j. omega (arith, fits.sum b j, fits.rest.each b j) }

-- ---- folders

pub all_tops_join : (xs ys : List Folder) → all_tops (xs ++ ys) ≡ all_tops xs ++ all_tops ys
all_tops_join [] ys = refl
all_tops_join (f ∷ xs) ys = ap (λ (s : List Step). tops f ++ s) (all_tops_join xs ys) ∙ sym (append_assoc (tops f) (all_tops xs) (all_tops ys))
