-- Slots that wait, in their list.
use Rattle.std.proofs.Common.{◌≡◌, ◌↔◌, ◌⊎◌, inl, inr, ⊎_elim, ◌&&◌, ◌||◌, ℕ, Bool, true, false, eqb, eq-eqb, eqb-true, List, [], ◌∷◌, refl}
use Rattle.std.specs.List.{list_any}
use Rattle.fo_waits.specs.declared.listed.Clearing.{Clearing}
use Rattle.fo_waits.specs.Listed.{Clears}

clash : {A : Type 0} → false ≡ true → A
clash e = cc

or_and : {A B R : Type 0} (a b r : Bool) → (a ≡ true ↔ A) → (b ≡ true ↔ B) → (r ≡ true ↔ R) → ((a && b) || r) ≡ true ↔ ((A × B) ⊎ R)
or_and true true r x y z = (λ _. inl (x.0 refl, y.0 refl), λ _. refl)
or_and true false r x y z = (λ e. inr (z.0 e), λ h. ⊎_elim (λ p. clash (y.1 p.1)) (λ q. z.1 q) h)
or_and false b r x y z = (λ e. inr (z.0 e), λ h. ⊎_elim (λ p. clash (x.1 p.0)) (λ q. z.1 q) h)

pub any_clears : (at i : ℕ) (cs : List Clearing) → list_any (λ (c : Clearing). eqb c.at at && eqb c.slot i) cs ≡ true ↔ Clears cs at i
any_clears at i [] = (λ e. clash e, λ h. absurd h)
any_clears at i (c ∷ cs) = or_and (eqb c.at at) (eqb c.slot i) (list_any (λ (c : Clearing). eqb c.at at && eqb c.slot i) cs) (eqb-true c.at at, eq-eqb c.at at) (eqb-true c.slot i, eq-eqb c.slot i) (any_clears at i cs)
