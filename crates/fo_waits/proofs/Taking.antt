-- A slot that waits is taken out.
use Rattle.std.proofs.Common.{◌≡◌, ◌⊎◌, inl, inr, ⊎_elim, ℕ, ◌+◌, ◌<◌, ◌≤◌, ◌||◌, Bool, true, false, not, cond, List, [], ◌∷◌, length, eqb, eq-eqb, refl, sym, ap, ◌∙◌, subst, arith}
use Rattle.std.specs.List.{filter}
use Rattle.std.proofs.lemmas.Bool.{eqb-true}
use Rattle.fo_waits.specs.declared.listed.Clearing.{Clearing}
use Rattle.fo_waits.specs.Ended.{TakesOut, is_another}
use Rattle.fo_waits.specs.Listed.{Clears, ClearsAfter}

bool_cases : (b : Bool) → (b ≡ true) ⊎ (b ≡ false)
bool_cases true = inl refl
bool_cases false = inr refl

split : (a b : Bool) → (not a || not b) ≡ false → (a ≡ true) × (b ≡ true)
split true true h = (refl, refl)
split true false h = absurd (cc)
split false b h = absurd (cc)

gone : (at i : ℕ) (c : Clearing) → is_another at i c ≡ false → (c.at ≡ at) × (c.slot ≡ i)
gone at i c goes = let both = split (eqb c.at at) (eqb c.slot i) goes in (eqb-true c.at at both.0, eqb-true c.slot i both.1)

kept : (at i : ℕ) (c : Clearing) → is_another at i c ≡ true → c.at ≡ at → c.slot ≡ i → ⊥
kept at i c stays one two =
    let a : eqb c.at at ≡ true = eq-eqb c.at at one in
    let b : eqb c.slot i ≡ true = eq-eqb c.slot i two in
    let goes : is_another at i c ≡ false = rw (a, b) refl in
    let both : true ≡ false = sym stays ∙ goes in
    cc

still : (at i : ℕ) (cs : List Clearing) (b j : ℕ) → Clears cs b j → ((b ≡ at) × (j ≡ i)) ⊎ Clears (filter (is_another at i) cs) b j
still at i [] b j h = absurd h
still at i (c ∷ cs) b j h = ⊎_elim
    (λ (stays : is_another at i c ≡ true). rw stays (⊎_elim (λ here. inr (inl here)) (λ rest. ⊎_elim (λ p. inl p) (λ l. inr (inr l)) (still at i cs b j rest)) h))
    (λ (goes : is_another at i c ≡ false). rw goes (⊎_elim (λ here. let d = gone at i c goes in inl (sym here.0 ∙ d.0, sym here.1 ∙ d.1)) (λ rest. still at i cs b j rest) h))
    (bool_cases (is_another at i c))

only : (at i : ℕ) (cs : List Clearing) (b j : ℕ) → Clears (filter (is_another at i) cs) b j → Clears cs b j × (b ≡ at → j ≡ i → ⊥)
only at i [] b j h = absurd h
only at i (c ∷ cs) b j h = ⊎_elim
    (λ (stays : is_another at i c ≡ true).
    let l : Clears (c ∷ filter (is_another at i) cs) b j = subst (λ t. Clears (cond t (c ∷ filter (is_another at i) cs) (filter (is_another at i) cs)) b j) stays h in
    ⊎_elim
    (λ here. (inl here, λ e f. kept at i c stays (here.0 ∙ e) (here.1 ∙ f)))
    (λ rest. let r = only at i cs b j rest in (inr r.0, r.1))
    l)
    (λ (goes : is_another at i c ≡ false). let r = only at i cs b j (subst (λ t. Clears (cond t (c ∷ filter (is_another at i) cs) (filter (is_another at i) cs)) b j) goes h) in (inr r.0, r.1))
    (bool_cases (is_another at i c))

leaves : (at i : ℕ) (cs : List Clearing) (b j leaf : ℕ) → ClearsAfter cs b j leaf → ((b ≡ at) × (j ≡ i)) ⊎ ClearsAfter (filter (is_another at i) cs) b j leaf
leaves at i [] b j leaf h = absurd h
leaves at i (c ∷ cs) b j leaf h = ⊎_elim
    (λ (stays : is_another at i c ≡ true). rw stays (⊎_elim (λ here. inr (inl here)) (λ rest. ⊎_elim (λ p. inl p) (λ l. inr (inr l)) (leaves at i cs b j leaf rest)) h))
    (λ (goes : is_another at i c ≡ false). rw goes (⊎_elim (λ here. let d = gone at i c goes in inl (sym here.0 ∙ d.0, sym here.1 ∙ d.1)) (λ rest. leaves at i cs b j leaf rest) h))
    (bool_cases (is_another at i c))

same_leaves : (at i : ℕ) (cs : List Clearing) (b j leaf : ℕ) → ClearsAfter (filter (is_another at i) cs) b j leaf → ClearsAfter cs b j leaf
same_leaves at i [] b j leaf h = absurd h
same_leaves at i (c ∷ cs) b j leaf h = ⊎_elim
    (λ (stays : is_another at i c ≡ true).
    let l : ClearsAfter (c ∷ filter (is_another at i) cs) b j leaf = subst (λ t. ClearsAfter (cond t (c ∷ filter (is_another at i) cs) (filter (is_another at i) cs)) b j leaf) stays h in
    ⊎_elim (λ here. inl here) (λ rest. inr (same_leaves at i cs b j leaf rest)) l)
    (λ (goes : is_another at i c ≡ false). inr (same_leaves at i cs b j leaf (subst (λ t. ClearsAfter (cond t (c ∷ filter (is_another at i) cs) (filter (is_another at i) cs)) b j leaf) goes h)))
    (bool_cases (is_another at i c))

shorter : (at i : ℕ) (cs : List Clearing) → length (filter (is_another at i) cs) ≤ length cs
shorter at i [] = omega arith
shorter at i (c ∷ cs) = let le = shorter at i cs in by (is_another at i c) le
  where
    by : (t : Bool) → length (filter (is_another at i) cs) ≤ length cs → length (cond t (c ∷ filter (is_another at i) cs) (filter (is_another at i) cs)) ≤ length (c ∷ cs)
    by true le = omega (arith, le)
    by false le = omega (arith, le)

fewer : (at i : ℕ) (cs : List Clearing) → Clears cs at i → length (filter (is_another at i) cs) < length cs
fewer at i [] h = absurd h
fewer at i (c ∷ cs) h = ⊎_elim
    (λ (stays : is_another at i c ≡ true). ⊎_elim (λ here. absurd (kept at i c stays here.0 here.1)) (λ rest. let lt = fewer at i cs rest in more (is_another at i c) lt) h)
    (λ (goes : is_another at i c ≡ false). let le = shorter at i cs in less (is_another at i c) goes le)
    (bool_cases (is_another at i c))
  where
    more : (t : Bool) → length (filter (is_another at i) cs) < length cs → length (cond t (c ∷ filter (is_another at i) cs) (filter (is_another at i) cs)) < length (c ∷ cs)
    more true lt = omega (arith, lt)
    more false lt = omega (arith, lt)

    less : (t : Bool) → t ≡ false → length (filter (is_another at i) cs) ≤ length cs → length (cond t (c ∷ filter (is_another at i) cs) (filter (is_another at i) cs)) < length (c ∷ cs)
    less true e le = absurd (cc)
    less false e le = omega (arith, le)

pub takes_out : (at i : ℕ) (old new : List Clearing) → new ≡ filter (is_another at i) old → TakesOut at i old new
takes_out at i old new is = subst (TakesOut at i old) (sym is) (record {
  still = still at i old;
  only = λ b j h. (only at i old b j h).0;
  leaves = leaves at i old;
  same_leaves = same_leaves at i old;
  over = λ h. (only at i old at i h).1 refl refl;
  fewer = fewer at i old;
})
