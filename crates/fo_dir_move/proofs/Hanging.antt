-- What hangs from block 1 over a settling.
use Rattle.std.proofs.Common.{◌≡◌, ◌≢◌, inl, inr, ⊎_elim, ℕ, List, [], ◌∷◌, refl, sym, ◌∙◌, ap, subst}
use Rattle.std.proofs.lemmas.Bool.{cases_eq}
use Rattle.fo_image.specs.declared.types.Pointer.{Pointer}
use Rattle.fo_image.specs.declared.types.Pointer.TheVariants.{Nil, Local, Score as Held}
use Rattle.fo_crash.specs.declared.slot.Slot.{Slot}
use Rattle.fo_crash.specs.declared.slot.Slot.TheVariants.{Pointer as To}
use Rattle.fo_crash.specs.Images.{Image, Reaches, to_block, target, local, walk}
use Rattle.fo_crash.proofs.Reach.{lost, reaches_joins, reaches_on, reaches_from}
use Rattle.fo_ports.specs.State.{State, Rests, IsDoomed, KeepsSlot}

-- one slot before
further : {image : Image} {u : Slot} {c : ℕ} (x i : ℕ) → target u ≡ Local x → Reaches image ((image x).slot i) c → Reaches image u c
further {image = image} x i leads r = record { path = i ∷ r.path; leads = ap (λ p. target (walk image ((local image p).slot i) r.path)) leads ∙ r.leads }

nil_not : (x : ℕ) → Nil ≡ Local x → ⊥
nil_not x f = cc

module _ {a m : State} {c : ℕ} (rests : Rests a m) (told : a.tells) (top : a.covered 1 → ⊥) (live : (x : ℕ) → x ≢ 1 → Reaches a.now (to_block 1) x → a.covered x → ⊥) (spared : IsDoomed a c → ⊥) where
  -- a block above one that is not doomed
  above : (x : ℕ) → Reaches a.now (to_block 1) x → Reaches a.now (to_block x) c → IsDoomed a x → ⊥
  above x from_top r (inl covered) = ⊎_elim (λ e. top (subst a.covered e covered)) (λ ne. live x ne from_top covered) (cases_eq x 1)
  above x from_top r (inr h) = spared (inr (h.0, h.1, h.2, reaches_joins h.3 r))

  down : (path : List ℕ) (u : Slot) → ((x : ℕ) → target u ≡ Local x → Reaches a.now (to_block 1) x) → target (walk a.now u path) ≡ Local c → Reaches m.now u c
  down [] u held e = record { path = []; leads = e }
  down (i ∷ path) u held e = by (target u) refl (down path ((local a.now (target u)).slot i) (step (target u) refl) e)
    where
      step : (p : Pointer) → target u ≡ p → (y : ℕ) → target ((local a.now p).slot i) ≡ Local y → Reaches a.now (to_block 1) y
      step Nil leads y f = absurd (cc)
      step (Held score) leads y f = absurd (cc)
      step (Local x) leads y f = reaches_on i (held x leads) f

      below : (x : ℕ) → target u ≡ Local x → Reaches a.now ((a.now x).slot i) c
      below x leads = record { path = path; leads = ap (λ p. target (walk a.now ((local a.now p).slot i) path)) (sym leads) ∙ e }

      slot : (x : ℕ) → target u ≡ Local x → Reaches m.now ((a.now x).slot i) c → KeepsSlot a m x i → Reaches m.now u c
      slot x leads r (inl same) = further x i leads (subst (λ s. Reaches m.now s c) (sym same.0) r)
      slot x leads r (inr was) = absurd (spared (inr (x, i, was.0, below x leads)))

      by : (p : Pointer) → target u ≡ p → Reaches m.now ((local a.now p).slot i) c → Reaches m.now u c
      by Nil leads r = absurd (lost m.now r.path (To Nil) nil_not c r.leads)
      by (Held score) leads r = absurd (lost m.now r.path (To Nil) nil_not c r.leads)
      by (Local x) leads r = slot x leads r ((rests.blocks told x (above x (held x leads) (reaches_from i (below x leads)))).slots i)

  pub still_linked : Reaches a.now (to_block 1) c → Reaches m.now (to_block 1) c
  still_linked r = down r.path (to_block 1) (λ x e. record { path = []; leads = e }) r.leads
