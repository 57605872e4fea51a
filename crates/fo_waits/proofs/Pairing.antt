-- Pairs of a leaf of entries are listed one by one.
use Rattle.std.proofs.Common.{◌≡◌, ◌⊎◌, inl, inr, ⊎_elim, ℕ, ◌+◌, ◌*◌, ◌<◌, true, List, [], ◌∷◌, ◌++◌, refl, sym, ap, ◌∙◌, subst, arith}
use Rattle.std.proofs.lemmas.Bool.{cases_eq, cases_lt}
use Rattle.fo_crash.specs.Images.{Content}
use Rattle.fo_waits.specs.declared.listed.Clearing.{Clearing}
use Rattle.fo_waits.specs.declared.listed.Wait.{Wait}
use Rattle.fo_waits.specs.Listed.{Clears, Listed, is_active}
use Rattle.fo_waits.specs.Waited.{ListsPairs}

listed_push : (ws : List Wait) (w : Wait) (a b k : ℕ) → Listed (ws ++ w ∷ []) a b k → Listed ws a b k ⊎ ((w.at ≡ a) × (w.on ≡ b) × (w.pair ≡ k))
listed_push [] w a b k (inl h) = inr h
listed_push [] w a b k (inr h) = absurd h
listed_push (v ∷ vs) w a b k (inl h) = inl (inl h)
listed_push (v ∷ vs) w a b k (inr h) = more (listed_push vs w a b k h)
  where
    more : Listed vs a b k ⊎ ((w.at ≡ a) × (w.on ≡ b) × (w.pair ≡ k)) → Listed (v ∷ vs) a b k ⊎ ((w.at ≡ a) × (w.on ≡ b) × (w.pair ≡ k))
    more (inl l) = inl (inr l)
    more (inr h) = inr h

listed_still : (ws : List Wait) (w : Wait) (a b k : ℕ) → Listed ws a b k → Listed (ws ++ w ∷ []) a b k
listed_still [] w a b k h = absurd h
listed_still (v ∷ vs) w a b k (inl h) = inl h
listed_still (v ∷ vs) w a b k (inr h) = inr (listed_still vs w a b k h)

listed_last : (ws : List Wait) (w : Wait) → Listed (ws ++ w ∷ []) w.at w.on w.pair
listed_last [] w = inl (refl, refl, refl)
listed_last (v ∷ vs) w = inr (listed_last vs w)

pub lists_none : (clears : List Clearing) (c : Content) (at on : ℕ) (waits : List Wait) → ListsPairs clears c at on 0 waits waits
lists_none clears c at on waits = record { each = λ k lt. absurd (omega (arith, lt)); only = λ a b k h. inl h; still = λ a b k h. h }

pub lists_on : {clears : List Clearing} {c : Content} {at on : ℕ} {old new longer : List Wait} (k : ℕ) → longer ≡ new ++ (record { at = at; on = on; pair = k }) ∷ [] → is_active (c.slot (2 * k)) ≡ true → ListsPairs clears c at on k old new → ListsPairs clears c at on (k + 1) old longer
lists_on {clears} {c} {at} {on} {old} {new} {longer} k is active lists = subst (ListsPairs clears c at on (k + 1) old) (sym is) (record {
  each = λ j lt used free. ⊎_elim
      (λ e. subst (Listed (new ++ (record { at = at; on = on; pair = k }) ∷ []) at on) (sym e) (listed_last new (record { at = at; on = on; pair = k })))
      (λ ne. listed_still new (record { at = at; on = on; pair = k }) at on j (lists.each j (below j k lt ne) used free))
      (cases_eq j k);
  only = λ a b j h. ⊎_elim
      (λ l. lists.only a b j l)
      (λ e. inr (sym e.0, sym e.1, ap (λ n. is_active (c.slot (2 * n))) (sym e.2) ∙ active))
      (listed_push new (record { at = at; on = on; pair = k }) a b j h);
  still = λ a b j h. listed_still new (record { at = at; on = on; pair = k }) a b j (lists.still a b j h);
})
  where
    below : (j k : ℕ) → j < k + 1 → ((j ≡ k) → ⊥) → j < k
    below j k lt ne = ⊎_elim (λ l. l) (λ ge. absurd (ne (omega (arith, lt, ge)))) (cases_lt j k)

pub lists_calm : {clears : List Clearing} {c : Content} {at on : ℕ} {old new : List Wait} (k : ℕ) → (is_active (c.slot (2 * k)) ≡ true → (Clears clears on (2 * k) → ⊥) → ⊥) → ListsPairs clears c at on k old new → ListsPairs clears c at on (k + 1) old new
lists_calm {clears} {c} {at} {on} {old} {new} k none lists = record {
  each = λ j lt used free. ⊎_elim
      (λ e. absurd (none (ap (λ n. is_active (c.slot (2 * n))) (sym e) ∙ used) (λ h. free (subst (λ n. Clears clears on (2 * n)) (sym e) h))))
      (λ ne. lists.each j (below j k lt ne) used free)
      (cases_eq j k);
  only = lists.only;
  still = lists.still;
}
  where
    below : (j k : ℕ) → j < k + 1 → ((j ≡ k) → ⊥) → j < k
    below j k lt ne = ⊎_elim (λ l. l) (λ ge. absurd (ne (omega (arith, lt, ge)))) (cases_lt j k)
