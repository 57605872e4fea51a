-- Whether slots of a block wait.
use Rattle.std.proofs.Common.{◌≡◌, inl, inr, ⊎_elim, ℕ, ◌||◌, ◌==◌, Bool, true, false, List, [], ◌∷◌, refl, sym, ap, ◌∙◌}
use Rattle.std.specs.Cmp.{nat_eq_equiv}
use Rattle.std.specs.List.{list_any}
use Rattle.std.proofs.Common.{eqb-true}
use Rattle.fo_waits.specs.declared.listed.Clearing.{Clearing}
use Rattle.fo_waits.specs.Listed.{Clears}

never : {A : Type 0} → false ≡ true → A
never e = cc

pub none_clears : (at : ℕ) (clears : List Clearing) → list_any (λ (c : Clearing). c.at == at) clears ≡ false → (j : ℕ) → Clears clears at j → ⊥
none_clears at [] e j l = l
none_clears at (c ∷ cs) e j l =
    let p = parts_false (c.at == at) (list_any (λ (c : Clearing). c.at == at) cs) e in
    ⊎_elim (λ is. never (sym p.0 ∙ ap (λ n. n == at) is.0 ∙ nat_eq_equiv.refl at)) (λ later. none_clears at cs p.1 j later) l
  where
    parts_false : (a b : Bool) → (a || b) ≡ false → (a ≡ false) × (b ≡ false)
    parts_false false b e = (refl, e)
    parts_false true b e = never (sym e)

pub some_clears : (at : ℕ) (clears : List Clearing) → list_any (λ (c : Clearing). c.at == at) clears ≡ true → ((j : ℕ) → Clears clears at j → ⊥) → ⊥
some_clears at [] e none = never e
some_clears at (c ∷ cs) e none = by (c.at == at) refl (λ later. some_clears at cs later (λ j l. none j (inr l)))
  where
    by : (b : Bool) → (c.at == at) ≡ b → (list_any (λ (c : Clearing). c.at == at) cs ≡ true → ⊥) → ⊥
    by true is rest = none c.slot (inl (eqb-true c.at at is, refl))
    by false is rest = rest (sym (ap (λ (b : Bool). b || list_any (λ (c : Clearing). c.at == at) cs) is) ∙ e)
