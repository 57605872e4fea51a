-- Slots that waited are cleared: each image that is left would, with any of them cleared, be one of before.
use Rattle.std.proofs.Common.{◌≡◌, ◌≢◌, ◌⊎◌, inl, inr, ⊎_elim, ℕ, List, refl, sym, ◌∙◌, ap, subst}
use Rattle.fo_crash.specs.declared.slot.Slot.{Slot}
use Rattle.fo_crash.specs.Images.{Image, with_slot}
use Rattle.fo_crash.specs.Steps.{AddsNothing, IsCleared, Fills, cleared}
use Rattle.fo_crash.specs.Names.{SameUse}
use Rattle.fo_crash.specs.Forms.{IsCleared as Cleared}
use Rattle.fo_crash.proofs.Equal.{bool_cases}
use Rattle.fo_crash.proofs.Updates.{slot_bytes, slot_other, slot_here}
use Rattle.fo_cells.specs.Known.{Known, HasSlot, HasBytes, IsSince, Images, seen, waiting}
use Rattle.fo_cells.specs.Writes.{Fires}
use Rattle.fo_cells.proofs.Standing.{cell}

-- Images are the same where each slot and all bytes are.
pub images_same : (k : Known) (image other : Image) → Images k image → ((b : ℕ) → (other b).bytes ≡ (image b).bytes) → ((b j : ℕ) → (other b).slot j ≡ (image b).slot j) → Images k other
images_same k image other m bytes slots = record {
  fresh = m.fresh;
  slots = λ b j. ⊎_elim
      (λ d. inl (subst (λ (s : Slot). HasSlot (seen k b) j s) (sym (slots b j)) d))
      (λ x. inr (⊎_elim (λ is. inl (slots b j ∙ is)) (λ c. inr (still b j c)) x))
      (m.slots b j);
  old_bytes = λ b o. subst (λ x. HasBytes (seen k b) x) (sym (bytes b)) (m.old_bytes b o);
  new_bytes = λ b f. bytes b ∙ m.new_bytes b f;
  used = λ b on j f h. ⊎_elim
      (λ u. inl (subst (λ (x : Slot). SameUse x ((k.memory on).slot j)) (sym (slots on j)) u))
      (λ c. inr (still on j c))
      (m.used b on j f h);
}
  where
    still : (b j : ℕ) → Cleared k.memory (waiting k) image m.fresh b j → Cleared k.memory (waiting k) other m.fresh b j
    still b j c = record {
      leaf = c.leaf;
      waits = c.waits;
      slot = slots b j ∙ c.slot;
      since = ⊎_elim (λ y. inl y) (λ n. inr (n.0, subst (λ x. IsSince k.clears b j c.leaf x) (sym (bytes c.leaf)) n.1)) c.since;
    }

-- one slot, by its block and number
abbrev pub Cell : ℕ → ℕ → ℕ → ℕ → Type 0
Cell at i b j = (b ≡ at) × (j ≡ i)

-- this slot, or one of others
abbrev pub OrCell : (ℕ → ℕ → Type 0) → ℕ → ℕ → ℕ → ℕ → Type 0
OrCell slots at i b j = slots b j ⊎ Cell at i b j

module _ {at i leaf : ℕ} {old new : Known} (r : Fires at i leaf old new) (image other : Image) (m : Images new image) (bytes : (b : ℕ) → (other b).bytes ≡ (image b).bytes) (others : (b j : ℕ) → (b ≢ at) ⊎ (j ≢ i) → (other b).slot j ≡ (image b).slot j) (here : (other at).slot i ≡ cleared ((old.memory at).slot i)) where
  stood : (b j : ℕ) (s : Slot) → HasSlot (seen new b) j s → HasSlot (seen old b) j s
  stood b j s h = Rattle.fo_cells.proofs.Firing.slot_stood r b j s h

  set : (x : List ℕ) → HasBytes (seen new leaf) x → HasBytes (seen old leaf) x
  set x h = Rattle.fo_cells.proofs.Firing.bytes_stood r leaf x h

  cleared_here : (b j : ℕ) → Cell at i b j → Cleared old.memory (waiting old) other m.fresh b j
  cleared_here b j e = subst (λ y. Cleared old.memory (waiting old) other m.fresh y j) (sym e.0) (subst (λ n. Cleared old.memory (waiting old) other m.fresh at n) (sym e.1) (record {
    leaf = leaf;
    waits = r.waited;
    slot = here;
    since = ⊎_elim (λ f. inl f) (λ o. inr (o, r.since_all ((other leaf).bytes) (subst (λ x. HasBytes (seen old leaf) x) (sym (bytes leaf)) (set ((image leaf).bytes) (m.old_bytes leaf o))))) (bool_cases (m.fresh leaf));
  }))

  cleared_there : (b j : ℕ) → (b ≢ at) ⊎ (j ≢ i) → Cleared new.memory (waiting new) image m.fresh b j → Cleared old.memory (waiting old) other m.fresh b j
  cleared_there b j ne c = record {
    leaf = c.leaf;
    waits = (r.clears b j c.leaf c.waits).0;
    slot = others b j ne ∙ c.slot ∙ ap cleared (r.memory.others b j ne);
    since = ⊎_elim (λ y. inl y) (λ n. inr (n.0, r.since b j c.leaf ((other c.leaf).bytes) (subst (λ x. IsSince new.clears b j c.leaf x) (sym (bytes c.leaf)) n.1))) c.since;
  }

  -- An image with the slot cleared would be one of before.
  pub fire_fill : Images old other
  fire_fill = record {
    fresh = m.fresh;
    slots = λ b j. ⊎_elim
        (λ e. inr (inr (cleared_here b j e)))
        (λ ne. ⊎_elim
        (λ d. inl (stood b j ((other b).slot j) (subst (λ (s : Slot). HasSlot (seen new b) j s) (sym (others b j ne)) d)))
        (λ x. inr (⊎_elim (λ is. inl (others b j ne ∙ is ∙ r.memory.others b j ne)) (λ c. inr (cleared_there b j ne c)) x))
        (m.slots b j))
        (cell at i b j);
    old_bytes = λ b o. subst (λ x. HasBytes (seen old b) x) (sym (bytes b)) (Rattle.fo_cells.proofs.Firing.bytes_stood r b ((image b).bytes) (m.old_bytes b o));
    new_bytes = λ b f. bytes b ∙ m.new_bytes b f ∙ r.memory.bytes b;
    used = λ b on j f h. ⊎_elim
        (λ e. inr (cleared_here on j e))
        (λ ne. ⊎_elim
        (λ goes_on. ⊎_elim
        (λ u. inl (subst (λ (x : Slot). SameUse ((other on).slot j) x) (r.memory.others on j ne) (subst (λ (x : Slot). SameUse x ((new.memory on).slot j)) (sym (others on j ne)) u)))
        (λ c. inr (cleared_there on j ne c))
        (m.used b on j f goes_on))
        (λ e. ⊎_elim (λ no. absurd (no e.0)) (λ no. absurd (no e.1)) ne)
        (r.waits b on j h))
        (cell at i on j);
  }

-- A slot is cleared after others were.
pub fills_fire : {at i leaf : ℕ} {old new : Known} (slots : ℕ → ℕ → Type 0) (now : Image) (before : Image → Type 0) → Fills slots now before (Images old) → Fires at i leaf old new → (now at).slot i ≡ (old.memory at).slot i → AddsNothing (Images old) (Images new) → Fills (OrCell slots at i) now before (Images new)
fills_fire {at} {i} {leaf} {old} {new} slots now before fills r same adds = record { each = λ image other m c. fills.each (mid image other) other (in_mid image other m c) (rest image other c) }
  where
    mid : Image → Image → Image
    mid image other = with_slot image at i ((other at).slot i)

    rest : (image other : Image) → IsCleared (OrCell slots at i) now image other → IsCleared slots now (mid image other) other
    rest image other c = record {
      bytes = λ b. c.bytes b ∙ sym (slot_bytes image at i ((other at).slot i) b);
      each = λ b j. ⊎_elim
          (λ e. inl (subst (λ y. (other y).slot j ≡ (with_slot image at i ((other at).slot i) y).slot j) (sym e.0) (subst (λ n. (other at).slot n ≡ (with_slot image at i ((other at).slot i) at).slot n) (sym e.1) (sym (slot_here image at i ((other at).slot i))))))
          (λ ne. ⊎_elim
          (λ is. inl (is ∙ sym (slot_other image at i ((other at).slot i) b j ne)))
          (λ x. ⊎_elim
          (λ own. inr (own, x.1))
          (λ e. ⊎_elim (λ no. absurd (no e.0)) (λ no. absurd (no e.1)) ne)
          x.0)
          (c.each b j))
          (cell at i b j);
    }

    in_mid : (image other : Image) → Images new image → IsCleared (OrCell slots at i) now image other → Images old (mid image other)
    in_mid image other m c = ⊎_elim
        (λ is. images_same old image (mid image other) (adds.each image m)
        (λ b. slot_bytes image at i ((other at).slot i) b)
        (λ b j. ⊎_elim
        (λ e. subst (λ y. (with_slot image at i ((other at).slot i) y).slot j ≡ (image y).slot j) (sym e.0) (subst (λ n. (with_slot image at i ((other at).slot i) at).slot n ≡ (image at).slot n) (sym e.1) (slot_here image at i ((other at).slot i) ∙ is)))
        (λ ne. slot_other image at i ((other at).slot i) b j ne)
        (cell at i b j)))
        (λ x. fire_fill r image (mid image other) m (slot_bytes image at i ((other at).slot i)) (slot_other image at i ((other at).slot i)) (slot_here image at i ((other at).slot i) ∙ x.1 ∙ ap cleared same))
        (c.each at i)

-- One slot is cleared.
pub fill_one : {at i leaf : ℕ} {old new : Known} → Fires at i leaf old new → (image other : Image) → Images new image → IsCleared (Cell at i) old.memory image other → Images old other
fill_one {at} {i} {leaf} {old} {new} r image other m c =
    let fills = fills_fire (λ b j. ⊥) old.memory (Images old) (record { each = λ x y is k. images_same old x y is k.bytes (λ b j. ⊎_elim (λ same. same) (λ n. absurd n.0) (k.each b j)) }) r refl (Rattle.fo_cells.proofs.Firing.fire_adds r) in
    fills.each image other m (record { bytes = c.bytes; each = λ b j. ⊎_elim (λ same. inl same) (λ n. inr (inr n.0, n.1)) (c.each b j) })
