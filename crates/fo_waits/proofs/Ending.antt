-- Waits for a pair end.
use Rattle.std.proofs.Common.{◌≡◌, ◌⊎◌, inl, inr, ⊎_elim, ℕ, ◌*◌, ◌/◌, ◌||◌, Bool, true, false, not, cond, List, [], ◌∷◌, eqb, eq-eqb, refl, sym, ap, ◌∙◌, subst, arith}
use Rattle.std.specs.List.{filter}
use Rattle.std.proofs.lemmas.Bool.{eqb-true}
use Rattle.fo_waits.specs.declared.listed.Wait.{Wait}
use Rattle.fo_waits.specs.Ended.{EndsFirst, is_other}
use Rattle.fo_waits.specs.Listed.{Listed}

bool_cases : (b : Bool) → (b ≡ true) ⊎ (b ≡ false)
bool_cases true = inl refl
bool_cases false = inr refl

split : (a b : Bool) → (not a || not b) ≡ false → (a ≡ true) × (b ≡ true)
split true true h = (refl, refl)
split true false h = absurd (cc)
split false b h = absurd (cc)

gone : (on pair : ℕ) (w : Wait) → is_other on pair w ≡ false → (w.on ≡ on) × (w.pair ≡ pair)
gone on pair w goes = let both = split (eqb w.on on) (eqb w.pair pair) goes in (eqb-true w.on on both.0, eqb-true w.pair pair both.1)

kept : (on pair : ℕ) (w : Wait) → is_other on pair w ≡ true → w.on ≡ on → w.pair ≡ pair → ⊥
kept on pair w stays one two =
    let a : eqb w.on on ≡ true = eq-eqb w.on on one in
    let b : eqb w.pair pair ≡ true = eq-eqb w.pair pair two in
    let goes : is_other on pair w ≡ false = rw (a, b) refl in
    let both : true ≡ false = sym stays ∙ goes in
    cc

still : (on pair : ℕ) (ws : List Wait) (a o k : ℕ) → Listed ws a o k → ((o ≡ on) × (k ≡ pair)) ⊎ Listed (filter (is_other on pair) ws) a o k
still on pair [] a o k h = absurd h
still on pair (w ∷ ws) a o k h = ⊎_elim
    (λ (stays : is_other on pair w ≡ true). rw stays (⊎_elim (λ here. inr (inl here)) (λ rest. ⊎_elim (λ p. inl p) (λ l. inr (inr l)) (still on pair ws a o k rest)) h))
    (λ (goes : is_other on pair w ≡ false). rw goes (⊎_elim (λ here. let d = gone on pair w goes in inl (sym here.1 ∙ d.0, sym here.2 ∙ d.1)) (λ rest. still on pair ws a o k rest) h))
    (bool_cases (is_other on pair w))

only : (on pair : ℕ) (ws : List Wait) (a o k : ℕ) → Listed (filter (is_other on pair) ws) a o k → Listed ws a o k × (o ≡ on → k ≡ pair → ⊥)
only on pair [] a o k h = absurd h
only on pair (w ∷ ws) a o k h = ⊎_elim
    (λ (stays : is_other on pair w ≡ true).
    let l : Listed (w ∷ filter (is_other on pair) ws) a o k = subst (λ t. Listed (cond t (w ∷ filter (is_other on pair) ws) (filter (is_other on pair) ws)) a o k) stays h in
    ⊎_elim
    (λ here. (inl here, λ e f. kept on pair w stays (here.1 ∙ e) (here.2 ∙ f)))
    (λ rest. let r = only on pair ws a o k rest in (inr r.0, r.1))
    l)
    (λ (goes : is_other on pair w ≡ false). let r = only on pair ws a o k (subst (λ t. Listed (cond t (w ∷ filter (is_other on pair) ws) (filter (is_other on pair) ws)) a o k) goes h) in (inr r.0, r.1))
    (bool_cases (is_other on pair w))

pub ends_even : (on i : ℕ) (old new : List Wait) → i ≡ 2 * (i / 2) → new ≡ filter (is_other on (i / 2)) old → EndsFirst on i old new
ends_even on i old new even is = subst (EndsFirst on i old) (sym is) (record {
  still = λ a o k h. ⊎_elim (λ p. inl (p.0, even ∙ ap (λ n. 2 * n) (sym p.1))) (λ l. inr l) (still on (i / 2) old a o k h);
  only = λ a o k h. (only on (i / 2) old a o k h).0;
  over = λ a k e h. (only on (i / 2) old a on k h).1 refl (let half : k ≡ i / 2 = omega (arith, e) in half);
})

pub ends_odd : (on i : ℕ) (old : List Wait) → ((k : ℕ) → i ≡ 2 * k → ⊥) → EndsFirst on i old old
ends_odd on i old odd = record { still = λ a o k h. inr h; only = λ a o k h. h; over = λ a k e h. odd k e }
