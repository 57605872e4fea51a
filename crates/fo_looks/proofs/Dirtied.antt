-- How many blocks calls leave to be written, one after another.
use Rattle.std.specs.List.{Contains}
use Rattle.std.proofs.Common.{◌≡◌, ◌⊎◌, ◌++◌, ℕ, zero, suc, List, [], ◌∷◌, inl, inr, ⊎_elim, refl, sym, ap, ◌∙◌, subst, arith}
use Rattle.std.proofs.lemmas.Bool.{cases_eq}
use Rattle.std.proofs.lemmas.List.Elements.{Contains-append_left, Contains-append_right}
use Rattle.fo_ports.specs.of_image.declared.types.Label.{Label}
use Rattle.fo_ports.specs.of_image.declared.types.State.{State as Mark}
use Rattle.fo_ports.specs.of_image.declared.types.State.TheVariants.{Closed, Free, Live}
use Rattle.fo_ports.specs.State.{State, KeepsAll, Rests}
use Rattle.fo_ports.specs.Sources.{AddsDirty, Dirties, DirtiesIn, IsRested}

-- ---- what can be told

nothing_among : (x : ℕ) → Contains [] x → ⊥
nothing_among x (k, lt, is) = omega arith

first_among : (x : ℕ) (xs : List ℕ) → Contains (x ∷ xs) x
first_among x xs = (0, omega arith, refl)

next_among : (x y : ℕ) (xs : List ℕ) → Contains xs y → Contains (x ∷ xs) y
next_among x y xs (k, lt, is) = (suc k, omega (arith, lt), is)

among_cases : (x : ℕ) (xs : List ℕ) (y : ℕ) → Contains (x ∷ xs) y → (x ≡ y) ⊎ Contains xs y
among_cases x xs y (zero, lt, is) = inl is
among_cases x xs y (suc k, lt, is) = inr (k, omega (arith, lt), is)

pub among : (xs : List ℕ) (y : ℕ) → Contains xs y ⊎ (Contains xs y → ⊥)
among [] y = inr (nothing_among y)
among (x ∷ xs) y = ⊎_elim
    (λ e. inl (subst (λ v. Contains (x ∷ xs) v) e (first_among x xs)))
    (λ ne. ⊎_elim (λ h. inl (next_among x y xs h)) (λ no. inr (λ h. ⊎_elim ne no (among_cases x xs y h))) (among xs y))
    (cases_eq x y)

is_live : (s : Mark) → (s ≡ Live) ⊎ (s ≡ Live → ⊥)
is_live Live = inl refl
is_live Free = inr (λ e. cc)
is_live Closed = inr (λ e. cc)

closed_live : Closed ≡ Live → ⊥
closed_live e = cc

-- ---- one call after another

pub dirties_joins : {a b c : State} {ps qs : List ℕ} → DirtiesIn ps a b → DirtiesIn qs b c → DirtiesIn (qs ++ ps) a c
dirties_joins {a} {b} {c} {ps} {qs} p q = record {
  dirty = λ x d. ⊎_elim
      (λ was. ⊎_elim (λ old. inl old) (λ h. inr (⊎_elim (λ l. inl (first x l)) (λ r. early x r) h)) (p.dirty x was))
      (λ h. inr (⊎_elim (λ l. inl (second x l)) (λ r. late x r) h))
      (q.dirty x d);
  made = λ x made. ⊎_elim
      (λ live. let is = p.made x (made.0, live) in (first x is.0, first (c.label_block x) (subst (λ k. Contains ps k) (sym (q.places x)) is.1)))
      (λ dead. let is = q.made x (dead, made.1) in (second x is.0, second (c.label_block x) is.1))
      (is_live (b.label x).state);
  clearing = λ x j h. ⊎_elim
      (λ mid. ⊎_elim (λ old. inl old) (λ l. inr (first x l)) (p.clearing x j mid))
      (λ l. inr (second x l))
      (q.clearing x j h);
  places = λ x. q.places x ∙ p.places x;
}
  where
    first : (x : ℕ) → Contains ps x → Contains (qs ++ ps) x
    first x h = Contains-append_right qs ps x h

    second : (x : ℕ) → Contains qs x → Contains (qs ++ ps) x
    second x h = Contains-append_left qs ps x h

    -- what was settled or closed in the first
    early : (x : ℕ) → IsRested a b x → Contains (qs ++ ps) x ⊎ IsRested a c x
    early x (inl (j, was, gone)) = ⊎_elim
        (λ l. inl (second x l))
        (λ no. inr (inl (j, was, λ now. ⊎_elim gone no (q.clearing x j now))))
        (among qs x)
    early x (inr (y, live, dead, e)) = ⊎_elim
        (λ again. inl (second x (subst (λ k. Contains qs k) (q.places y ∙ p.places y ∙ sym e) (q.made y (dead, again)).1)))
        (λ no. inr (inr (y, live, no, e)))
        (is_live (c.label y).state)

    -- and in the second
    late : (x : ℕ) → IsRested b c x → Contains (qs ++ ps) x ⊎ IsRested a c x
    late x (inl (j, was, gone)) = ⊎_elim (λ old. inr (inl (j, old, gone))) (λ l. inl (first x l)) (p.clearing x j was)
    late x (inr (y, live, dead, e)) = ⊎_elim
        (λ old. inr (inr (y, old, dead, e ∙ p.places y)))
        (λ no. inl (first x (subst (λ k. Contains ps k) (sym e) (p.made y (no, live)).1)))
        (is_live (a.label y).state)

-- a settling or closing adds none
pub dirties_rests : (a b : State) → KeepsAll a b → Rests a b → DirtiesIn [] a b
dirties_rests a b all r = record {
  dirty = λ x d. ⊎_elim
      (λ old. inl old)
      (λ h. inr (inr (⊎_elim
      (λ w. inl (w.0, w.1, w.2))
      (λ l. ⊎_elim (λ same. absurd (l.1 same)) (λ shut. inr (l.0, shut.live, λ live. closed_live (sym (ap (λ (z : Label). z.state) shut.is) ∙ live), l.2)) (r.labels l.0))
      h)))
      (r.dirty x d);
  made = λ x made. absurd (⊎_elim
      (λ same. made.0 (ap (λ (z : Label). z.state) (sym same) ∙ made.1))
      (λ shut. made.0 shut.live)
      (r.labels x));
  clearing = λ x j h. inl (r.order x j h);
  places = all.same_label_blocks;
}

-- a block that is counted changes
pub dirties_put : {a b c : State} {ps : List ℕ} (at : ℕ) → KeepsAll b c → DirtiesIn ps a b → Contains ps at → ((x : ℕ) → c.dirty x → b.dirty x ⊎ (x ≡ at)) → ((x : ℕ) → c.label x ≡ b.label x) → ((x j : ℕ) → c.clearing x j → b.clearing x j ⊎ (x ≡ at)) → DirtiesIn ps a c
dirties_put {a} {b} {c} {ps} at keeps p here dirty label order = record {
  dirty = λ x d. ⊎_elim
      (λ was. ⊎_elim (λ old. inl old) (λ h. inr (⊎_elim (λ l. inl l) (λ r. still x r) h)) (p.dirty x was))
      (λ e. inr (inl (at_here x e)))
      (dirty x d);
  made = λ x made. let h = p.made x (made.0, ap (λ (z : Label). z.state) (sym (label x)) ∙ made.1) in (h.0, subst (λ k. Contains ps k) (sym (keeps.same_label_blocks x)) h.1);
  clearing = λ x j h. ⊎_elim (λ was. p.clearing x j was) (λ e. inr (at_here x e)) (order x j h);
  places = λ x. keeps.same_label_blocks x ∙ p.places x;
}
  where
    at_here : (x : ℕ) → x ≡ at → Contains ps x
    at_here x e = subst (λ k. Contains ps k) (sym e) here

    still : (x : ℕ) → IsRested a b x → Contains ps x ⊎ IsRested a c x
    still x (inl (j, was, gone)) = ⊎_elim
        (λ l. inl l)
        (λ no. inr (inl (j, was, λ now. ⊎_elim gone (λ e. no (at_here x e)) (order x j now))))
        (among ps x)
    still x (inr (y, live, dead, e)) = inr (inr (y, live, λ now. dead (ap (λ (z : Label). z.state) (sym (label y)) ∙ now), e))

-- what a call adds by itself, it adds beside others
pub dirties_beside : {a b c : State} {n : ℕ} {counted : ℕ → Type 0} {ps : List ℕ} (at : ℕ) → DirtiesIn ps a b → Dirties n counted b c → counted at → AddsDirty n ps at a c
dirties_beside {a} {b} {c} {n} {counted} {ps} at p q is = record { more = q.blocks; few = q.few; within = dirties_joins p q.within; here = Contains-append_left q.blocks ps at (q.each at is) }
