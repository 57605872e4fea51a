-- Paths in memory where one slot changes, and the last step of a path.
use Rattle.std.proofs.Common.{◌≡◌, ◌≢◌, ◌⊎◌, inl, inr, ⊎_elim, ℕ, List, [], ◌∷◌, refl, sym, ◌∙◌, ap, subst}
use Rattle.std.proofs.lemmas.Bool.{cases_eq}
use Rattle.fo_image.specs.declared.types.Pointer.{Pointer}
use Rattle.fo_image.specs.declared.types.Pointer.TheVariants.{Nil, Local, Score as Held}
use Rattle.fo_crash.specs.declared.slot.Slot.{Slot}
use Rattle.fo_crash.specs.Images.{Image, target, local, walk, Reaches}

-- one slot before
pub further : {image : Image} {s u : Slot} {b : ℕ} (i : ℕ) → (local image (target s)).slot i ≡ u → Reaches image u b → Reaches image s b
further {image} {s} {u} {b} i e r = record { path = i ∷ r.path; leads = ap (λ x. target (walk image x r.path)) e ∙ r.leads }

-- the last step
pub record LastStep (image : Image) (s : Slot) (b : ℕ) : Type 0 where
  pub from : ℕ
  pub slot : ℕ
  pub reached : Reaches image s from
  pub leads : target ((image from).slot slot) ≡ Local b

pub last_step : {image : Image} {s : Slot} {b : ℕ} → Reaches image s b → (target s ≡ Local b) ⊎ LastStep image s b
last_step {image} {s} {b} r = along r.path s r.leads
  where
    along : (path : List ℕ) (u : Slot) → target (walk image u path) ≡ Local b → (target u ≡ Local b) ⊎ LastStep image u b
    along [] u e = inl e
    along (j ∷ path) u e = one (target u) refl (along path ((local image (target u)).slot j) e)
      where
        one : (p : Pointer) → target u ≡ p → (target ((local image (target u)).slot j) ≡ Local b) ⊎ LastStep image ((local image (target u)).slot j) b → (target u ≡ Local b) ⊎ LastStep image u b
        one p q (inr l) = inr (record { from = l.from; slot = l.slot; reached = further j refl l.reached; leads = l.leads })
        one Nil q (inl l) = let x : Nil ≡ Local b = ap (λ y. target ((local image y).slot j)) (sym q) ∙ l in absurd (cc)
        one (Held z) q (inl l) = let x : Nil ≡ Local b = ap (λ y. target ((local image y).slot j)) (sym q) ∙ l in absurd (cc)
        one (Local a) q (inl l) = inr (record { from = a; slot = j; reached = record { path = []; leads = q }; leads = ap (λ y. target ((local image y).slot j)) (sym q) ∙ l })

-- ONE SLOT CHANGES
module _ (x y : Image) (at i : ℕ) (others : (a j : ℕ) → (a ≢ at) ⊎ (j ≢ i) → (y a).slot j ≡ (x a).slot j) where
  -- a slot that is not the one
  same_slot : (p : Pointer) (j : ℕ) → ((local y p).slot j ≡ (local x p).slot j) ⊎ ((p ≡ Local at) × (j ≡ i))
  same_slot Nil j = inl refl
  same_slot (Held z) j = inl refl
  same_slot (Local a) j = ⊎_elim
      (λ is. ⊎_elim (λ n. inr (ap (λ z. Local z) is, n)) (λ ne. inl (others a j (inr ne))) (cases_eq j i))
      (λ ne. inl (others a j (inl ne)))
      (cases_eq a at)

  here : (u : Slot) (j : ℕ) → target u ≡ Local at → j ≡ i → (local x (target u)).slot j ≡ (x at).slot i
  here u j e n = ap (λ p. (local x p).slot j) e ∙ ap (λ k. (x at).slot k) n

  -- A path is one of now, or comes to the block of the slot, and goes on from what the slot was.
  pub first_use : {u : Slot} {b : ℕ} → Reaches x u b → Reaches y u b ⊎ (Reaches y u at × Reaches x ((x at).slot i) b)
  first_use {u} {b} r = along r.path u r.leads
    where
      along : (path : List ℕ) (u : Slot) → target (walk x u path) ≡ Local b → Reaches y u b ⊎ (Reaches y u at × Reaches x ((x at).slot i) b)
      along [] u e = inl (record { path = []; leads = e })
      along (j ∷ path) u e = ⊎_elim
          (λ same. ⊎_elim
          (λ now. inl (further j same now))
          (λ both. inr (further j same both.0, both.1))
          (along path ((local x (target u)).slot j) e))
          (λ own. inr (record { path = []; leads = own.0 }, record { path = path; leads = ap (λ z. target (walk x z path)) (sym (here u j own.0 own.1)) ∙ e }))
          (same_slot (target u) j)

  -- Or, from its last use of the slot on, it is a path of now.
  pub last_use : {u : Slot} {b : ℕ} → Reaches x u b → Reaches y u b ⊎ Reaches y ((x at).slot i) b
  last_use {u} {b} r = along r.path u r.leads
    where
      along : (path : List ℕ) (u : Slot) → target (walk x u path) ≡ Local b → Reaches y u b ⊎ Reaches y ((x at).slot i) b
      along [] u e = inl (record { path = []; leads = e })
      along (j ∷ path) u e = ⊎_elim
          (λ now. ⊎_elim
          (λ same. inl (further j same now))
          (λ own. inr (subst (λ z. Reaches y z b) (here u j own.0 own.1) now))
          (same_slot (target u) j))
          (λ rest. inr rest)
          (along path ((local x (target u)).slot j) e)

  -- what is reached before the slot is used
  pub still_there : {u : Slot} → Reaches x u at → Reaches y u at
  still_there r = ⊎_elim (λ now. now) (λ both. both.0) (first_use r)
