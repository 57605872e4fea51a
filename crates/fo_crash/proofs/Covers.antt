-- What a step reaches in memory, and so what it may bring into the tree.
use Rattle.std.proofs.Common.{◌≡◌, ◌⊎◌, inl, inr, ⊎_elim, ℕ, List, [], ◌∷◌, refl, sym, ◌∙◌, ap, subst}
use Rattle.std.proofs.lemmas.Bool.{cases_eq}
use Rattle.fo_image.specs.declared.types.Pointer.{Pointer}
use Rattle.fo_image.specs.declared.types.Pointer.TheVariants.{Nil, Local, Score as Held}
use Rattle.fo_crash.specs.declared.slot.Slot.{Slot}
use Rattle.fo_crash.specs.Images.{Content, Image, target, local, walk, to_block, Reaches}
use Rattle.fo_crash.specs.Steps.{PutsSlot, PutsBytes, PutsBlock, Brings}

-- one slot before
further : {image : Image} {s u : Slot} {b : ℕ} (i : ℕ) → (local image (target s)).slot i ≡ u → Reaches image u b → Reaches image s b
further {image} {s} {u} {b} i e r = record { path = i ∷ r.path; leads = ap (λ x. target (walk image x r.path)) e ∙ r.leads }

-- Where a slot was put, all that is reached was reached before, or is reached from what was put.
pub slot_reaches : {now next : Image} {at i : ℕ} {s t : Slot} {c : ℕ} → PutsSlot at i s now next → Reaches next t c → Reaches now t c ⊎ Reaches now s c
slot_reaches {now} {next} {at} {i} {s} {t} {c} puts r = along r.path t r.leads
  where
    along : (path : List ℕ) (u : Slot) → target (walk next u path) ≡ Local c → Reaches now u c ⊎ Reaches now s c
    along [] u e = inl (record { path = []; leads = e })
    along (j ∷ path) u e = one (target u) refl (along path ((local next (target u)).slot j) e)
      where
        one : (p : Pointer) → target u ≡ p → Reaches now ((local next (target u)).slot j) c ⊎ Reaches now s c → Reaches now u c ⊎ Reaches now s c
        one Nil q h = ⊎_elim (λ r. inl (further j (ap (λ x. (local now x).slot j) q ∙ ap (λ x. (local next x).slot j) (sym q)) r)) (λ r. inr r) h
        one (Held x) q h = ⊎_elim (λ r. inl (further j (ap (λ y. (local now y).slot j) q ∙ ap (λ y. (local next y).slot j) (sym q)) r)) (λ r. inr r) h
        one (Local b) q h = ⊎_elim
            (λ r. ⊎_elim
            (λ b_is. ⊎_elim
            (λ j_is. inr (subst (λ x. Reaches now x c) (ap (λ x. (local next x).slot j) q ∙ ap (λ x. (next x).slot j) b_is ∙ ap (λ x. (next at).slot x) j_is ∙ puts.here) r))
            (λ ne. inl (further j (ap (λ x. (local now x).slot j) q ∙ sym (puts.others b j (inr ne)) ∙ ap (λ x. (local next x).slot j) (sym q)) r))
            (cases_eq j i))
            (λ ne. inl (further j (ap (λ x. (local now x).slot j) q ∙ sym (puts.others b j (inl ne)) ∙ ap (λ x. (local next x).slot j) (sym q)) r))
            (cases_eq b at))
            (λ r. inr r)
            h

-- Where a block is new, all that is reached is that block, was reached before, or is reached from what the block was given out with.
pub block_reaches : {now next : Image} {at : ℕ} {c : Content} {t : Slot} {b : ℕ} → PutsBlock at c now next → Reaches next t b → (b ≡ at) ⊎ (Reaches now t b ⊎ ((i : ℕ) × Reaches now (c.slot i) b))
block_reaches {now} {next} {at} {c} {t} {b} puts r = along r.path t r.leads
  where
    along : (path : List ℕ) (u : Slot) → target (walk next u path) ≡ Local b → (b ≡ at) ⊎ (Reaches now u b ⊎ ((i : ℕ) × Reaches now (c.slot i) b))
    along [] u e = inr (inl (record { path = []; leads = e }))
    along (j ∷ path) u e = one (target u) refl (along path ((local next (target u)).slot j) e)
      where
        one : (p : Pointer) → target u ≡ p → (b ≡ at) ⊎ (Reaches now ((local next (target u)).slot j) b ⊎ ((i : ℕ) × Reaches now (c.slot i) b)) → (b ≡ at) ⊎ (Reaches now u b ⊎ ((i : ℕ) × Reaches now (c.slot i) b))
        one Nil q h = ⊎_elim (λ r. inl r) (λ h. inr (⊎_elim (λ r. inl (further j (ap (λ x. (local now x).slot j) q ∙ ap (λ x. (local next x).slot j) (sym q)) r)) (λ r. inr r) h)) h
        one (Held x) q h = ⊎_elim (λ r. inl r) (λ h. inr (⊎_elim (λ r. inl (further j (ap (λ y. (local now y).slot j) q ∙ ap (λ y. (local next y).slot j) (sym q)) r)) (λ r. inr r) h)) h
        one (Local a) q h = ⊎_elim
            (λ r. inl r)
            (λ h. inr (⊎_elim
            (λ r. ⊎_elim
            (λ a_is. inr (j, subst (λ x. Reaches now x b) (ap (λ x. (local next x).slot j) q ∙ ap (λ x. (next x).slot j) a_is ∙ puts.here.slots j) r))
            (λ ne. inl (further j (ap (λ x. (local now x).slot j) q ∙ sym ((puts.others a ne).slots j) ∙ ap (λ x. (local next x).slot j) (sym q)) r))
            (cases_eq a at))
            (λ r. inr r)
            h))
            h

-- Where bytes are put, the same is reached.
pub bytes_reach : {now next : Image} {at : ℕ} {bytes : List ℕ} {t : Slot} {c : ℕ} → PutsBytes at bytes now next → Reaches next t c → Reaches now t c
bytes_reach {now} {next} {at} {bytes} {t} {c} puts r = record { path = r.path; leads = ap target (sym (along r.path t)) ∙ r.leads }
  where
    here : (p : Pointer) (j : ℕ) → (local next p).slot j ≡ (local now p).slot j
    here Nil j = refl
    here (Held x) j = refl
    here (Local b) j = puts.slots b j

    along : (path : List ℕ) (u : Slot) → walk next u path ≡ walk now u path
    along [] u = refl
    along (j ∷ path) u = along path ((local next (target u)).slot j) ∙ ap (λ x. walk now x path) (here (target u) j)

-- A copy brings itself and what the block that it was copied from reaches.
pub copy_brings : {P : ℕ → Type 0} {now next : Image} {a b : ℕ} → PutsBlock b (now a) now next → P b → ((c : ℕ) → Reaches now (to_block a) c → P c) → Brings next (to_block b) P
copy_brings {P} {now} {next} {a} {b} puts own all = record {
  each = λ c r. from c r.path r.leads;
}
  where
    from : (c : ℕ) (path : List ℕ) → target (walk next (to_block b) path) ≡ Local c → P c
    from c [] e = subst P (let same : Local b ≡ Local c = e in cc) own
    from c (i ∷ path) e = ⊎_elim
        (λ is. subst P (sym is) own)
        (λ h. ⊎_elim
        (λ r. all c (further i (sym (puts.here.slots i)) r))
        (λ h. all c (further h.0 refl h.1))
        h)
        (block_reaches puts (record { path = path; leads = e }))

-- What holds of all that a slot brings, and less.
pub brings_fewer : {P Q : ℕ → Type 0} {now : Image} {s : Slot} → Brings now s P → ((b : ℕ) → P b → Q b) → Brings now s Q
brings_fewer brings all = record { each = λ b r. all b (brings.each b r) }
