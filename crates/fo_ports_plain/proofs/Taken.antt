-- What hangs from slots that were taken out, after one more was put.
use Rattle.std.proofs.Common.{◌≡◌, ◌≢◌, ◌⊎◌, inl, inr, ⊎_elim, ℕ, List, [], ◌∷◌, refl, sym, ◌∙◌, ap}
use Rattle.std.proofs.lemmas.Bool.{cases_eq}
use Rattle.fo_image.specs.declared.types.Pointer.{Pointer}
use Rattle.fo_image.specs.declared.types.Pointer.TheVariants.{Nil, Local, Score as Held}
use Rattle.fo_crash.specs.declared.slot.Slot.{Slot}
use Rattle.fo_crash.specs.Images.{Image, target, local, walk, to_block, Reaches}
use Rattle.fo_crash.specs.Steps.{PutsSlot, Covers}
use Rattle.fo_crash.proofs.Reach.{lost, reaches_from, reaches_joins, reaches_same}
use Rattle.fo_crash.proofs.Covers.{slot_reaches}

-- one slot before
further : {image : Image} {s u : Slot} {b : ℕ} (i : ℕ) → (local image (target s)).slot i ≡ u → Reaches image u b → Reaches image s b
further {image} {s} {u} {b} i e r = record { path = i ∷ r.path; leads = ap (λ x. target (walk image x r.path)) e ∙ r.leads }

-- A path goes by a slot that is put: it comes to its block in both images, and from the slot on.
pub record Uses (now next : Image) (at i : ℕ) (t : Slot) (c : ℕ) : Type 0 where
  pub was : Reaches now t at
  pub is : Reaches next t at
  pub on : Reaches now ((now at).slot i) c

pub splits : {now next : Image} {at i : ℕ} {t : Slot} {c : ℕ} → ((b j : ℕ) → (b ≢ at) ⊎ (j ≢ i) → (next b).slot j ≡ (now b).slot j) → Reaches now t c → Reaches next t c ⊎ Uses now next at i t c
splits {now} {next} {at} {i} {t} {c} others r = along r.path t r.leads
  where
    on : (u : Slot) (j : ℕ) → (local next (target u)).slot j ≡ (local now (target u)).slot j → Reaches next ((local now (target u)).slot j) c ⊎ Uses now next at i ((local now (target u)).slot j) c → Reaches next u c ⊎ Uses now next at i u c
    on u j same h = ⊎_elim
        (λ r. inl (further j same r))
        (λ w. inr (record { was = further j refl w.was; is = further j same w.is; on = w.on }))
        h

    along : (path : List ℕ) (u : Slot) → target (walk now u path) ≡ Local c → Reaches next u c ⊎ Uses now next at i u c
    along [] u e = inl (record { path = []; leads = e })
    along (j ∷ path) u e = one (target u) refl (along path ((local now (target u)).slot j) e)
      where
        one : (p : Pointer) → target u ≡ p → Reaches next ((local now (target u)).slot j) c ⊎ Uses now next at i ((local now (target u)).slot j) c → Reaches next u c ⊎ Uses now next at i u c
        one Nil q h = on u j (ap (λ x. (local next x).slot j) q ∙ ap (λ x. (local now x).slot j) (sym q)) h
        one (Held x) q h = on u j (ap (λ y. (local next y).slot j) q ∙ ap (λ y. (local now y).slot j) (sym q)) h
        one (Local b) q h = ⊎_elim
            (λ b_is. ⊎_elim
            (λ j_is.
            let here : target u ≡ Local at = q ∙ ap Local b_is in
            inr (record {
              was = record { path = []; leads = here };
              is = record { path = []; leads = here };
              on = record { path = path; leads = ap (λ x. target (walk now x path)) (sym (ap (λ x. (local now x).slot j) here ∙ ap (λ x. (now at).slot x) j_is)) ∙ e };
            }))
            (λ ne. on u j (ap (λ x. (local next x).slot j) q ∙ others b j (inr ne) ∙ ap (λ x. (local now x).slot j) (sym q)) h)
            (cases_eq j i))
            (λ ne. on u j (ap (λ x. (local next x).slot j) q ∙ others b j (inl ne) ∙ ap (λ x. (local now x).slot j) (sym q)) h)
            (cases_eq b at)

-- This block hangs from a block to which a slot led that was taken out, and from block 1 no more.
pub record Under (marked : ℕ → Type 0) (now : Image) (b : ℕ) : Type 0 where
  pub top : ℕ
  pub taken : marked top
  pub below : Reaches now (to_block top) b
  pub gone : Reaches now (to_block 1) b → ⊥

-- the same pointer, or another
pub same_or_not : (x : ℕ) (p : Pointer) → (p ≡ Local x) ⊎ (p ≢ Local x)
same_or_not x Nil = inr (λ e. cc)
same_or_not x (Held y) = inr (λ e. cc)
same_or_not x (Local y) = ⊎_elim (λ e. inl (ap Local e)) (λ ne. inr (λ e. ne (cc))) (cases_eq y x)

-- Marks stay, and the block to which the slot led is marked, if the slot that is put leads elsewhere.
pub record Marks (before s : Slot) (old new : ℕ → Type 0) : Type 0 where
  pub still : (x : ℕ) → old x → new x
  pub marked : (x : ℕ) → target before ≡ Local x → target s ≢ target before → new x
  pub only : (x : ℕ) → new x → old x ⊎ (target before ≡ Local x)

module _ {now next : Image} {at i : ℕ} {s : Slot} {old new : ℕ → Type 0} (puts : PutsSlot at i s now next) (marks : Marks ((now at).slot i) s old new) (acyclic : Reaches now ((now at).slot i) at → ⊥) (uncovered : Under old now at → ⊥) (brings : (b : ℕ) → Reaches now s b → Under old now b → ⊥) where
  before : Slot
  before = (now at).slot i

  forth : {t : Slot} {c : ℕ} → Reaches now t c → Reaches next t c ⊎ Uses now next at i t c
  forth r = splits puts.others r

  back : {t : Slot} {c : ℕ} → Reaches next t c → Reaches now t c ⊎ Uses next now at i t c
  back r = splits (λ b j other. sym (puts.others b j other)) r

  -- what hangs from the slot as it was still hangs from there
  below : {c : ℕ} → Reaches now ((now at).slot i) c → Reaches next ((now at).slot i) c
  below r = ⊎_elim (λ q. q) (λ w. absurd (acyclic w.was)) (forth r)

  -- where the slot leads where it led, all that was reached is
  same_reach : target s ≡ target ((now at).slot i) → {t : Slot} {c : ℕ} → Reaches now t c → Reaches next t c
  same_reach same {t} {c} r = ⊎_elim
      (λ q. q)
      (λ w. reaches_joins w.is (reaches_from i (reaches_same {s = (now at).slot i} (sym same ∙ ap target (sym puts.here)) (below w.on))))
      (forth r)

  still_reached : Reaches now (to_block 1) at → Reaches next (to_block 1) at
  still_reached r = ⊎_elim (λ q. q) (λ w. w.is) (forth r)

  still : (b : ℕ) → Under old now b → Under new next b
  still b c = record {
    top = c.top;
    taken = marks.still c.top c.taken;
    below = ⊎_elim
        (λ q. q)
        (λ w. absurd (uncovered (record { top = c.top; taken = c.taken; below = w.was; gone = λ r. c.gone (reaches_joins r (reaches_from i w.on)) })))
        (forth c.below);
    gone = λ r. ⊎_elim (λ q. c.gone q) (λ q. brings b q c) (slot_reaches puts r);
  }

  only : (b : ℕ) → (Under old now b → ⊥) → (Reaches now ((now at).slot i) b → ⊥) → Under new next b → ⊥
  only b not_old not_below c = ⊎_elim
      (λ r. ⊎_elim
      (λ t. not_old (record { top = c.top; taken = t; below = r; gone = λ q. ⊎_elim c.gone (λ w. not_below w.on) (forth q) }))
      (λ e. not_below (reaches_same (sym e) r))
      (marks.only c.top c.taken))
      (λ w. ⊎_elim
      (λ t. uncovered (record { top = c.top; taken = t; below = w.is; gone = λ q. c.gone (reaches_joins (still_reached q) (reaches_from i w.on)) }))
      (λ e. acyclic (reaches_same (sym e) w.is))
      (marks.only c.top c.taken))
      (back c.below)

  leaves : (b : ℕ) → Reaches now ((now at).slot i) b → Reaches now (to_block 1) b → (Reaches next (to_block 1) b → ⊥) → Under new next b
  leaves b r reached gone = one (target ((now at).slot i)) refl
    where
      one : (p : Pointer) → target ((now at).slot i) ≡ p → Under new next b
      one Nil q = absurd (lost now r.path ((now at).slot i) (λ c h. let x : Nil ≡ Local c = sym q ∙ h in cc) b r.leads)
      one (Held x) q = absurd (lost now r.path ((now at).slot i) (λ c h. let y : Held x ≡ Local c = sym q ∙ h in cc) b r.leads)
      one (Local x) q = ⊎_elim
          (λ e. absurd (gone (same_reach (e ∙ sym q) reached)))
          (λ ne. record { top = x; taken = marks.marked x q (λ e. ne (e ∙ q)); below = reaches_same q (below r); gone = gone })
          (same_or_not x (target s))

  pub covers : (inner : ℕ → Type 0) → Covers inner ((now at).slot i) now next (Under old now) (Under new next)
  covers inner = record {
    leaves = λ b t reached gone. leaves b (record { path = t.path; leads = t.leads }) reached gone;
    still = still;
    only = only;
  }
