-- Buffers after a write.
use Rattle.std.proofs.Common.{◌≡◌, ◌≢◌, ⊎_elim, ℕ, zero, suc, ◌<◌, Bool, true, false, cond, ◌&&◌, nat_eq, List, [], ◌∷◌, map, length, get_or, set, refl, sym, ◌∙◌, ap, arith, get_or-set_other, get_or-set_same}
use Rattle.std.proofs.lemmas.Bool.{cases_eq}
use Rattle.std.proofs.lemmas.List.{length-map, map-set}
use Rattle.std.proofs.lemmas.Grind.{common_steps}
use Rattle.fo_cells.specs.declared.buffers.Buffer.{Buffer}
use Rattle.fo_cells.specs.Device.{Mind, wrote}
use Rattle.std.specs.Prelude.{not}
use Rattle.std.specs.List.{list_all, Contains}
use Rattle.fo_cells.specs.Buffers.{mind_of, note, bytes_in, newborn_in, complete_in, is_newborn}
use Rattle.fo_cells.proofs.Standing.{among_cases}

nat_eq_here : (a b : ℕ) → a ≡ b → nat_eq a b ≡ true
nat_eq_here a b e = grind (arith, common_steps)

nat_eq_other : (a b : ℕ) → a ≢ b → nat_eq a b ≡ false
nat_eq_other a b ne = grind (arith, common_steps)

-- an item that is put back
set_back : {X : Type 0} (xs : List X) (i : ℕ) (d : X) → set xs i (get_or xs i d) ≡ xs
set_back [] i d = refl
set_back (x ∷ xs) zero d = refl
set_back (x ∷ xs) (suc i) d = ap (λ ys. x ∷ ys) (set_back xs i d)

-- functions that are equal at each place
at_each : {A : Type 0} {f g : ℕ → A} → ((b : ℕ) → f b ≡ g b) → f ≡ g
at_each h = λ i. λ b. h b i

-- a field that stays as it is in the item that is replaced
same_field : {Y : Type 0} (f : Buffer → Y) (d : Y) (xs : List Buffer) (at : ℕ) (y : Buffer) → f y ≡ get_or (map f xs) at d → map f (set xs at y) ≡ map f xs
same_field f d xs at y e = map-set f xs at y ∙ ap (λ z. set (map f xs) at z) e ∙ set_back (map f xs) at d

pub flushed : (rest : Mind) (all : List Buffer) (at : ℕ) (y : Buffer) (ok : Bool) → at < length all → bytes_in y ≡ get_or (map bytes_in all) at [] → newborn_in y ≡ get_or (map newborn_in all) at false → complete_in y ≡ ok → mind_of (note at ok rest) (set all at y) ≡ wrote at ok true (mind_of rest all)
flushed rest all at y ok lt bytes newborn complete = λ i. record (wrote at ok true (mind_of rest all)) {
  memory = λ b. rest.read b (get_or (same_field bytes_in [] all at y bytes i) b []);
  newborn = λ b. get_or (same_field newborn_in false all at y newborn i) b false;
  complete = at_each flags i;
}
  where
    and_true : (v : Bool) → (v && true) ≡ v
    and_true true = refl
    and_true false = refl

    flags : (b : ℕ) → get_or (map complete_in (set all at y)) b false ≡ cond (nat_eq b at) (ok && true) (get_or (map complete_in all) b false)
    flags b = ap (λ zs. get_or zs b false) (map-set complete_in all at y) ∙ ⊎_elim
        (λ e. ap (λ k. get_or (set (map complete_in all) at (complete_in y)) k false) e ∙ get_or-set_same (map complete_in all) at (complete_in y) false (omega (arith, lt, length-map all complete_in)) ∙ complete ∙ sym (and_true ok) ∙ ap (λ v. cond v (ok && true) (get_or (map complete_in all) b false)) (sym (nat_eq_here b at e)))
        (λ ne. get_or-set_other (map complete_in all) at b (complete_in y) false ne ∙ ap (λ v. cond v (ok && true) (get_or (map complete_in all) b false)) (sym (nat_eq_other b at ne)))
        (cases_eq b at)

-- what was tested of each target
pub all_grown : (all : List Buffer) (targets : List ℕ) → list_all (λ t. not (is_newborn all t)) targets ≡ true → (t : ℕ) → Contains targets t → is_newborn all t ≡ false
all_grown all [] e t (k, lt, is) = absurd (omega arith)
all_grown all (x ∷ xs) e t h = ⊎_elim
    (λ first. flip (is_newborn all t) (ap (λ y. not (is_newborn all y)) (sym first) ∙ both_left (not (is_newborn all x)) (list_all (λ t. not (is_newborn all t)) xs) e))
    (λ more. all_grown all xs (both_right (not (is_newborn all x)) (list_all (λ t. not (is_newborn all t)) xs) e) t more)
    (among_cases x xs t h)
  where
    flip : (b : Bool) → not b ≡ true → b ≡ false
    flip true e = absurd (cc)
    flip false e = refl

    both_left : (a b : Bool) → (a && b) ≡ true → a ≡ true
    both_left true b e = refl
    both_left false b e = absurd (cc)

    both_right : (a b : Bool) → (a && b) ≡ true → b ≡ true
    both_right true b e = e
    both_right false b e = absurd (cc)
