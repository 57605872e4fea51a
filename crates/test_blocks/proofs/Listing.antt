-- Waits in a list.
use Rattle.std.proofs.Common.{◌≡◌, ◌⊎◌, inl, inr, ⊎_elim, ℕ, ◌+◌, ◌*◌, Bool, true, false, cond, List, [], ◌∷◌, ◌++◌, eqb, eq-eqb, refl, sym, ◌∙◌, subst, arith}
use Rattle.std.specs.Prelude.{not, ◌||◌}
use Rattle.std.specs.List.{filter}
use Rattle.std.proofs.lemmas.Bool.{cases_eq, eqb-true}
use Rattle.fo_image.specs.declared.types.Kind.{Kind}
use Rattle.fo_slots.specs.Read.{read}
use Rattle.test_blocks.specs.declared.silent.Wait.{Wait}
use Rattle.test_blocks.specs.Silent.{AddsPairs, Listed, is_active, is_other}

pub listed_more : (ws : List Wait) (w : Wait) (a on k : ℕ) → Listed ws a on k → Listed (ws ++ w ∷ []) a on k
listed_more [] w a on k h = absurd h
listed_more (v ∷ ws) w a on k h = ⊎_elim (λ here. inl here) (λ rest. inr (listed_more ws w a on k rest)) h

pub listed_last : (ws : List Wait) (w : Wait) → Listed (ws ++ w ∷ []) w.at w.on w.pair
listed_last [] w = inl (refl, refl, refl)
listed_last (v ∷ ws) w = inr (listed_last ws w)

pub listed_split : (ws : List Wait) (w : Wait) (a on k : ℕ) → Listed (ws ++ w ∷ []) a on k → Listed ws a on k ⊎ ((w.at ≡ a) × (w.on ≡ on) × (w.pair ≡ k))
listed_split [] w a on k h = ⊎_elim (λ here. inr here) (λ rest. absurd rest) h
listed_split (v ∷ ws) w a on k h = ⊎_elim (λ here. inl (inl here)) (λ rest. ⊎_elim (λ old. inl (inr old)) (λ new. inr new) (listed_split ws w a on k rest)) h

bool_cases : (b : Bool) → (b ≡ true) ⊎ (b ≡ false)
bool_cases true = inl refl
bool_cases false = inr refl

module _ (test : Wait → Bool) (on pair : ℕ) where
  pub still : ((w : Wait) → test w ≡ false → (w.on ≡ on) × (w.pair ≡ pair)) → (ws : List Wait) (a o k : ℕ) → Listed ws a o k → ((o ≡ on) × (k ≡ pair)) ⊎ Listed (filter test ws) a o k
  still dropped [] a o k h = absurd h
  still dropped (w ∷ ws) a o k h = ⊎_elim
      (λ (stays : test w ≡ true). rw stays (⊎_elim (λ here. inr (inl here)) (λ rest. ⊎_elim (λ p. inl p) (λ l. inr (inr l)) (still dropped ws a o k rest)) h))
      (λ (goes : test w ≡ false). rw goes (⊎_elim (λ here. let d = dropped w goes in inl (sym here.1 ∙ d.0, sym here.2 ∙ d.1)) (λ rest. still dropped ws a o k rest) h))
      (bool_cases (test w))

  pub only : ((w : Wait) → test w ≡ true → (w.on ≡ on) × (w.pair ≡ pair) → ⊥) → (ws : List Wait) (a o k : ℕ) → Listed (filter test ws) a o k → Listed ws a o k × (((o ≡ on) × (k ≡ pair)) → ⊥)
  only kept [] a o k h = absurd h
  only kept (w ∷ ws) a o k h = ⊎_elim
      (λ (stays : test w ≡ true).
      let l : Listed (w ∷ filter test ws) a o k = subst (λ t. Listed (cond t (w ∷ filter test ws) (filter test ws)) a o k) stays h in
      ⊎_elim
      (λ here. (inl here, λ same. kept w stays (here.1 ∙ same.0, here.2 ∙ same.1)))
      (λ rest. let r = only kept ws a o k rest in (inr r.0, r.1))
      l)
      (λ (goes : test w ≡ false). let r = only kept ws a o k (subst (λ t. Listed (cond t (w ∷ filter test ws) (filter test ws)) a o k) goes h) in (inr r.0, r.1))
      (bool_cases (test w))

-- the test that ends the waits for a pair
pub kept : (on pair : ℕ) (w : Wait) → is_other on pair w ≡ true → (w.on ≡ on) × (w.pair ≡ pair) → ⊥
kept on pair w stays same =
    let one : eqb w.on on ≡ true = eq-eqb w.on on same.0 in
    let two : eqb w.pair pair ≡ true = eq-eqb w.pair pair same.1 in
    let goes : is_other on pair w ≡ false = rw (one, two) refl in
    let both : true ≡ false = sym stays ∙ goes in
    cc

split : (a b : Bool) → (not a || not b) ≡ false → (a ≡ true) × (b ≡ true)
split true true h = (refl, refl)
split true false h = absurd (cc)
split false b h = absurd (cc)

pub dropped : (on pair : ℕ) (w : Wait) → is_other on pair w ≡ false → (w.on ≡ on) × (w.pair ≡ pair)
dropped on pair w goes = let both = split (eqb w.on on) (eqb w.pair pair) goes in (eqb-true w.on on both.0, eqb-true w.pair pair both.1)

-- one more pair
pub pairs_more : (at on : ℕ) (kind : Kind) (bytes : List ℕ) (n : ℕ) (first old new : List Wait) (w : Wait) (used : Bool) → AddsPairs at on kind bytes n first old → w.at ≡ at → w.on ≡ on → w.pair ≡ n → used ≡ is_active ((read kind bytes).slot (2 * n))
    → ((a o k : ℕ) → Listed old a o k → Listed new a o k) → (used ≡ true → Listed new w.at w.on w.pair) → ((a o k : ℕ) → Listed new a o k → Listed old a o k ⊎ ((w.at ≡ a) × (w.on ≡ o) × (w.pair ≡ k) × (used ≡ true)))
    → AddsPairs at on kind bytes (n + 1) first new
pairs_more at on kind bytes n first old new w used adds e f g is still here only = record {
  still = λ a o k h. still a o k (adds.still a o k h);
  each = λ k lt active. ⊎_elim
      (λ same.
      let now : used ≡ true = is ∙ subst (λ m. is_active ((read kind bytes).slot (2 * m)) ≡ true) same active in
      subst (λ m. Listed new at on m) (sym same) (subst (λ m. Listed new at on m) g (subst (λ m. Listed new at m w.pair) f (subst (λ m. Listed new m w.on w.pair) e (here now)))))
      (λ ne. still at on k (adds.each k (omega (arith, lt, ne)) active))
      (cases_eq k n);
  only = λ a o k h. ⊎_elim
      (λ was. adds.only a o k was)
      (λ now. inr (sym e ∙ now.0, sym f ∙ now.1, subst (λ m. is_active ((read kind bytes).slot (2 * m)) ≡ true) (sym g ∙ now.2) (sym is ∙ now.3)))
      (only a o k h);
}

pub pairs_none : (at on : ℕ) (kind : Kind) (bytes : List ℕ) (ws : List Wait) → AddsPairs at on kind bytes 0 ws ws
pairs_none at on kind bytes ws = record { still = λ a o k h. h; each = λ k lt h. absurd (omega (arith, lt)); only = λ a o k h. inl h }
