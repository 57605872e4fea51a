-- What one call leaves to be written.
use Rattle.std.specs.List.{Contains}
use Rattle.std.proofs.Common.{◌≡◌, ◌⊎◌, ◌<◌, ℕ, zero, suc, List, [], ◌∷◌, inl, ⊎_elim, refl, sym, ap, ◌∙◌, subst, arith}
use Rattle.fo_looks.specs.of_image.declared.types.Label.{Label}
use Rattle.fo_looks.specs.of_ports.State.{State, KeepsAll, KeepsOrder, Frame, Calm, Looks, Numbers, Stays, none}
use Rattle.fo_looks.specs.of_ports.Sources.{DirtiesIn}
use Rattle.fo_looks.proofs.Dirtied.{dirties_put}

pub first_among : (x : ℕ) (xs : List ℕ) → Contains (x ∷ xs) x
first_among x xs = (0, omega arith, refl)

pub later_among : (x y : ℕ) (xs : List ℕ) → Contains xs y → Contains (x ∷ xs) y
later_among x y xs (k, lt, is) = (suc k, omega (arith, lt), is)

pub none_among : (P : ℕ → Type 0) (z : ℕ) → Contains [] z → P z
none_among P z (k, lt, is) = absurd (never k lt)
  where
    never : (k : ℕ) → k < 0 → ⊥
    never k lt = omega (arith, lt)

pub one_among : (P : ℕ → Type 0) (x : ℕ) → P x → (z : ℕ) → Contains (x ∷ []) z → P z
one_among P x p z (zero, lt, is) = subst P is p
one_among P x p z (suc k, lt, is) = absurd (never k lt)
  where
    never : (k : ℕ) → suc k < 1 → ⊥
    never k lt = omega (arith, lt)

-- ---- none

pub dirties_at_once : (a : State) (ps : List ℕ) → DirtiesIn ps a a
dirties_at_once a ps = record { dirty = λ x d. inl d; made = λ x made. absurd (made.0 made.1); clearing = λ x j h. inl h; places = λ x. refl }

-- labels and slots that wait stay, and nothing is dirty that wasn't
none_dirtied : {a b : State} → KeepsAll a b → ((x : ℕ) → b.label x ≡ a.label x) → ((x j : ℕ) → b.clearing x j → a.clearing x j) → ((x : ℕ) → b.dirty x → a.dirty x) → DirtiesIn [] a b
none_dirtied all label order dirty = record {
  dirty = λ x d. inl (dirty x d);
  made = λ x made. absurd (made.0 (ap (λ (z : Label). z.state) (sym (label x)) ∙ made.1));
  clearing = λ x j h. inl (order x j h);
  places = all.same_label_blocks;
}

pub dirties_looks : {a b : State} → KeepsAll a b → Looks a b → DirtiesIn [] a b
dirties_looks all l = none_dirtied all (λ x. l.stays.labels x (λ n. n)) (λ x j h. (l.order.clearing x j h).1) l.dirty

pub dirties_numbers : {a b : State} → KeepsAll a b → Numbers a b → DirtiesIn [] a b
dirties_numbers all n = none_dirtied all n.label (λ x j h. (n.order.clearing x j h).1) n.dirty

-- a call that leaves all but what it says of memory
pub dirties_stays : {a b : State} → KeepsAll a b → Stays none none a b → KeepsOrder none a b → ((x : ℕ) → b.dirty x → a.dirty x) → DirtiesIn [] a b
dirties_stays all stays order dirty = none_dirtied all (λ x. stays.labels x (λ n. n)) (λ x j h. (order.clearing x j h).1) dirty

-- a leaf is made to wait
pub dirties_wait : {a b : State} {n : ℕ} → KeepsAll a b → Calm none n a b → DirtiesIn [] a b
dirties_wait all c = none_dirtied all (λ x. c.frame.stays.labels x (λ n. n)) (λ x j h. (c.order.clearing x j h).1) (λ x d. ⊎_elim (λ old. old) (λ n. absurd n) (c.frame.dirty x d))

-- ---- one block

pub dirties_here : {a b : State} (at : ℕ) → KeepsAll a b → ((x : ℕ) → b.dirty x → a.dirty x ⊎ (x ≡ at)) → ((x : ℕ) → b.label x ≡ a.label x) → ((x j : ℕ) → b.clearing x j → a.clearing x j ⊎ (x ≡ at)) → DirtiesIn (at ∷ []) a b
dirties_here {a = a} at all dirty label order = dirties_put at all (dirties_at_once a (at ∷ [])) (first_among at []) dirty label order

-- a slot is put
pub dirties_frame : {a b : State} {put : ℕ → Type 0} {n : ℕ} (at : ℕ) → KeepsAll a b → Frame (λ x. x ≡ at) put n a b → KeepsOrder none a b → DirtiesIn (at ∷ []) a b
dirties_frame at all f order = dirties_here at all f.dirty (λ x. f.stays.labels x (λ n. n)) (λ x j h. inl (order.clearing x j h).1)

-- bytes are put
pub dirties_calm : {a b : State} {n : ℕ} (at : ℕ) → KeepsAll a b → Calm (λ x. x ≡ at) n a b → DirtiesIn (at ∷ []) a b
dirties_calm at all c = dirties_frame at all c.frame c.order
