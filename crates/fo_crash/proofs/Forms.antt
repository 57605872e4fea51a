-- The images of a cache keep the clauses of the calls.
use Rattle.std.proofs.Common.{cond, nat_eq, ◌≡◌, ◌≢◌, ◌⊎◌, inl, inr, ⊎_elim, ℕ, Bool, true, false, List, refl, sym, ◌∙◌, ap, subst, arith}
use Rattle.std.proofs.lemmas.Bool.{cases_eq}
use Rattle.std.proofs.lemmas.Grind.{common_steps}
use Rattle.fo_crash.specs.declared.slot.Slot.{Slot}
use Rattle.fo_crash.specs.Images.{Content, Image, with_slot, with_bytes}
use Rattle.fo_crash.specs.Steps.{AddsSlot, AddsBytes, AddsNothing, PutsSlot, PutsBytes, cleared}
use Rattle.fo_crash.specs.Names.{SameUse}
use Rattle.fo_crash.specs.Forms.{Waiting, IsCleared, MayLeave, Written, Begins}
use Rattle.fo_crash.proofs.Equal.{bool_cases, lists, slots}
use Rattle.fo_crash.proofs.Updates.{slot_bytes, slot_other, slot_here, bytes_other, bytes_slot, bytes_here}
use Rattle.fo_crash.proofs.Names.{same_use_self, same_use_joins}

not_both : {x : Bool} → x ≡ true → x ≡ false → ⊥
not_both fresh_is old_is = let e : true ≡ false = sym fresh_is ∙ old_is in cc

-- a slot that is cleared in one image is in another with the same slot, and the same bytes where they are not those of memory
moved : {memory next image other : Image} {w : Waiting} {fresh : ℕ → Bool} {b i : ℕ} → (other b).slot i ≡ (image b).slot i → (next b).slot i ≡ (memory b).slot i → ((l : ℕ) → fresh l ≡ false → (other l).bytes ≡ (image l).bytes) → IsCleared next w image fresh b i → IsCleared memory w other fresh b i
moved {w = w} {b = b} {i = i} slot put bytes c = record {
  leaf = c.leaf;
  waits = c.waits;
  slot = slot ∙ c.slot ∙ ap cleared put;
  since = ⊎_elim (λ y. inl y) (λ n. inr (n.0, subst (λ (x : List ℕ). w.BytesSince b i c.leaf x) (sym (bytes c.leaf n.0)) n.1)) c.since;
}

-- another image and memory with the same slots, and the same bytes where they are not those of memory
same_slots : {memory next image other : Image} {w : Waiting} → ((b i : ℕ) → (other b).slot i ≡ (image b).slot i) → ((b i : ℕ) → (next b).slot i ≡ (memory b).slot i) → (m : MayLeave next w image) → ((b : ℕ) → m.fresh b ≡ false → (other b).bytes ≡ (image b).bytes) → ((b : ℕ) → m.fresh b ≡ true → (other b).bytes ≡ (memory b).bytes) → MayLeave memory w other
same_slots {memory} {next} {image} {other} {w} stays puts m old new = record {
  fresh = m.fresh;
  slots = λ b i. ⊎_elim
      (λ d. inl (subst (λ (x : Slot). w.SlotOnDisk b i x) (sym (stays b i)) d))
      (λ r. inr (⊎_elim (λ e. inl (stays b i ∙ e ∙ puts b i)) (λ c. inr (moved (stays b i) (puts b i) old c)) r))
      (m.slots b i);
  old_bytes = λ b old_is. subst (λ (x : List ℕ). w.BytesOnDisk b x) (sym (old b old_is)) (m.old_bytes b old_is);
  new_bytes = new;
  used = λ b on j fresh_is h. ⊎_elim
      (λ u. inl (subst (λ (x : Slot). SameUse x ((memory on).slot j)) (sym (stays on j)) (subst (λ (x : Slot). SameUse ((image on).slot j) x) (puts on j) u)))
      (λ c. inr (moved (stays on j) (puts on j) old c))
      (m.used b on j fresh_is h);
}

-- Bytes are put.
pub bytes_form : {memory next : Image} {w : Waiting} {at : ℕ} {bytes : List ℕ} → PutsBytes at bytes memory next → AddsBytes memory at ((next at).bytes) (λ image. (on j : ℕ) → w.Waits at on j → ((leaf : ℕ) → w.Clearing on j leaf → ⊥) → SameUse ((image on).slot j) ((memory on).slot j)) (MayLeave memory w) (MayLeave next w)
bytes_form {memory} {next} {w} {at} puts = record {
  each = λ image m. ⊎_elim
      (λ fresh_is. inr (
        m.new_bytes at fresh_is,
        before image m fresh_is,
        λ on j h unclear. ⊎_elim
            (λ u. subst (λ (x : Slot). SameUse ((image on).slot j) x) (puts.slots on j) u)
            (λ c. absurd (unclear c.leaf c.waits))
            (m.used at on j fresh_is h),
      ))
      (λ old_is. inl (same_slots (λ b i. refl) puts.slots m (λ b old. refl) (λ b fresh_is. m.new_bytes b fresh_is ∙ puts.others b (λ e. not_both fresh_is (ap m.fresh e ∙ old_is)))))
      (bool_cases (m.fresh at));
}
  where
    before : (image : Image) (m : MayLeave next w image) → m.fresh at ≡ true → MayLeave memory w (with_bytes image at ((memory at).bytes))
    before image m fresh_is = same_slots (bytes_slot image at ((memory at).bytes)) puts.slots m
        (λ b old_is. ap (λ (k : Content). k.bytes) (bytes_other image at ((memory at).bytes) b (λ e. not_both (ap m.fresh e ∙ fresh_is) old_is)))
        (λ b fresh. ⊎_elim
        (λ e. ap (λ x. (with_bytes image at ((memory at).bytes) x).bytes) e ∙ bytes_here image at ((memory at).bytes) ∙ ap (λ x. (memory x).bytes) (sym e))
        (λ ne. ap (λ (k : Content). k.bytes) (bytes_other image at ((memory at).bytes) b ne) ∙ m.new_bytes b fresh ∙ puts.others b ne)
        (cases_eq b at))

-- this cell or another
cell : (at i b j : ℕ) → ((b ≡ at) × (j ≡ i)) ⊎ ((b ≢ at) ⊎ (j ≢ i))
cell at i b j = ⊎_elim (λ x. ⊎_elim (λ y. inl (x, y)) (λ ne. inr (inr ne)) (cases_eq j i)) (λ ne. inr (inl ne)) (cases_eq b at)

-- what holds of this cell
at_cell : (P : ℕ → ℕ → Type 0) {at i b j : ℕ} → (b ≡ at) × (j ≡ i) → P at i → P b j
at_cell P {at} {i} {b} {j} e p = subst (λ x. P x j) (sym e.0) (subst (λ k. P at k) (sym e.1) p)

from_cell : (P : ℕ → ℕ → Type 0) {at i b j : ℕ} → (b ≡ at) × (j ≡ i) → P b j → P at i
from_cell P {at} {i} {b} {j} e p = subst (λ k. P at k) e.1 (subst (λ x. P x j) e.0 p)

-- another image that differs in one cell, under other orders that may know of that cell alone
one_cell : {memory next image other : Image} {old new : Waiting} (at i : ℕ) → ((b j : ℕ) → (b ≢ at) ⊎ (j ≢ i) → (other b).slot j ≡ (image b).slot j) → ((b j : ℕ) → (b ≢ at) ⊎ (j ≢ i) → (next b).slot j ≡ (memory b).slot j) → ((b : ℕ) → (other b).bytes ≡ (image b).bytes) → ((b : ℕ) → (next b).bytes ≡ (memory b).bytes) → ((b j : ℕ) (s : Slot) → new.SlotOnDisk b j s → old.SlotOnDisk b j s) → ((b : ℕ) (x : List ℕ) → new.BytesOnDisk b x → old.BytesOnDisk b x) → ((b on j : ℕ) → old.Waits b on j → new.Waits b on j) → ((fresh : ℕ → Bool) (b j : ℕ) → (b ≢ at) ⊎ (j ≢ i) → IsCleared next new image fresh b j → IsCleared memory old other fresh b j) → (m : MayLeave next new image) → old.SlotOnDisk at i ((other at).slot i) ⊎ ((other at).slot i ≡ (memory at).slot i) → ((b : ℕ) → m.fresh b ≡ true → old.Waits b at i → SameUse ((other at).slot i) ((memory at).slot i)) → MayLeave memory old other
one_cell {memory} {next} {image} {other} {old} {new} at i stays puts bytes put_bytes disk disk_bytes waits clears m here used = record {
  fresh = m.fresh;
  slots = λ b j. ⊎_elim
      (λ e. ⊎_elim
      (λ d. inl (at_cell (λ x k. old.SlotOnDisk x k ((other x).slot k)) e d))
      (λ is. inr (inl (at_cell (λ x k. (other x).slot k ≡ (memory x).slot k) e is)))
      here)
      (λ ne. ⊎_elim
      (λ d. inl (subst (λ (x : Slot). old.SlotOnDisk b j x) (sym (stays b j ne)) (disk b j ((image b).slot j) d)))
      (λ r. inr (⊎_elim (λ is. inl (stays b j ne ∙ is ∙ puts b j ne)) (λ c. inr (clears m.fresh b j ne c)) r))
      (m.slots b j))
      (cell at i b j);
  old_bytes = λ b old_is. subst (λ (x : List ℕ). old.BytesOnDisk b x) (sym (bytes b)) (disk_bytes b ((image b).bytes) (m.old_bytes b old_is));
  new_bytes = λ b fresh_is. bytes b ∙ m.new_bytes b fresh_is ∙ put_bytes b;
  used = λ b on j fresh_is h. ⊎_elim
      (λ e. inl (at_cell (λ x k. SameUse ((other x).slot k) ((memory x).slot k)) e (used b fresh_is (from_cell (λ x k. old.Waits b x k) e h))))
      (λ ne. ⊎_elim
      (λ u. inl (subst (λ (x : Slot). SameUse x ((memory on).slot j)) (sym (stays on j ne)) (subst (λ (x : Slot). SameUse ((image on).slot j) x) (puts on j ne) u)))
      (λ c. inr (clears m.fresh on j ne c))
      (m.used b on j fresh_is (waits b on j h)))
      (cell at i on j);
}

-- A slot is put that does not wait to be cleared, in the use that is waited for.
pub slot_form : {memory next : Image} {w : Waiting} {at i : ℕ} {s : Slot} → PutsSlot at i s memory next → ((leaf : ℕ) → w.Clearing at i leaf → ⊥) → ((a : ℕ) → w.Waits a at i → SameUse s ((memory at).slot i)) → AddsSlot memory at i s (λ image. Unit {0}) (MayLeave memory w) (MayLeave next w)
slot_form {memory} {next} {w} {at} {i} {s} puts unclear same = record {
  each = λ image m. ⊎_elim
      (λ d. inl (one_cell at i (λ b j ne. refl) puts.others (λ b. refl) puts.bytes (λ b j x d. d) (λ b x d. d) (λ b on j h. h) (λ fresh b j ne c. moved refl (puts.others b j ne) (λ l old_is. refl) c) m (inl d) (in_use image m)))
      (λ r. ⊎_elim
      (λ e. inr (
        e ∙ puts.here,
        one_cell at i (slot_other image at i ((memory at).slot i)) puts.others (slot_bytes image at i ((memory at).slot i)) puts.bytes (λ b j x d. d) (λ b x d. d) (λ b on j h. h)
            (λ fresh b j ne c. moved (slot_other image at i ((memory at).slot i) b j ne) (puts.others b j ne) (λ l old_is. slot_bytes image at i ((memory at).slot i) l) c)
            m (inr (slot_here image at i ((memory at).slot i))) (λ b fresh_is h. same_use_self ((with_slot image at i ((memory at).slot i) at).slot i) ((memory at).slot i) (slot_here image at i ((memory at).slot i))),
        tt,
      ))
      (λ c. absurd (unclear c.leaf c.waits))
      r)
      (m.slots at i);
}
  where
    in_use : (image : Image) (m : MayLeave next w image) (b : ℕ) → m.fresh b ≡ true → w.Waits b at i → SameUse ((image at).slot i) ((memory at).slot i)
    in_use image m b fresh_is h = ⊎_elim
        (λ u. same_use_joins ((image at).slot i) s ((memory at).slot i) (subst (λ (x : Slot). SameUse ((image at).slot i) x) puts.here u) (same b h))
        (λ c. absurd (unclear c.leaf c.waits))
        (m.used b at i fresh_is h)

-- A slot begins to wait for a leaf: an image with the cleared slot has the leaf's bytes as memory has them.
pub begins_form : {memory : Image} {old new : Waiting} {at i leaf : ℕ} → Begins at i leaf memory old new → AddsSlot memory at i (cleared ((memory at).slot i)) (λ image. (image leaf).bytes ≡ (memory leaf).bytes) (MayLeave memory old) (MayLeave memory new)
begins_form {memory} {old} {new} {at} {i} {leaf} bg = record {
  each = λ image m. ⊎_elim
      (λ d. ⊎_elim
      (λ is. ⊎_elim
      (λ e. inr (is, back image m, e))
      (λ ne. inl (still image m d (λ c. ne (leaf_is image m c))))
      (lists ((image leaf).bytes) ((memory leaf).bytes)))
      (λ ne. inl (still image m d (λ c. ne c.slot)))
      (slots ((image at).slot i) (cleared ((memory at).slot i))))
      (λ r. ⊎_elim
      (λ e. inl (kept image image m (λ b j ne. refl) (λ b. refl) (inr e) (λ b fresh_is h. same_use_self ((image at).slot i) ((memory at).slot i) e)))
      (λ c. inr (c.slot, back image m, leaf_is image m c))
      r)
      (m.slots at i);
}
  where
    -- the leaf of a cleared slot is that of memory
    leaf_is : (image : Image) (m : MayLeave memory new image) → IsCleared memory new image m.fresh at i → (image leaf).bytes ≡ (memory leaf).bytes
    leaf_is image m c = ⊎_elim
        (λ was. absurd (bg.none c.leaf was))
        (λ is. ⊎_elim
        (λ fresh_is. m.new_bytes leaf (ap m.fresh (sym is.2) ∙ fresh_is))
        (λ n. bg.begins ((image leaf).bytes) (subst (λ x. new.BytesSince at i x ((image x).bytes)) is.2 n.1))
        c.since)
        (bg.clearing at i c.leaf c.waits)

    was_clearing : (b j l : ℕ) → (b ≢ at) ⊎ (j ≢ i) → new.Clearing b j l → old.Clearing b j l
    was_clearing b j l ne h = ⊎_elim (λ was. was) (λ is. ⊎_elim (λ nb. absurd (nb is.0)) (λ nj. absurd (nj is.1)) ne) (bg.clearing b j l h)

    kept : (image other : Image) (m : MayLeave memory new image) → ((b j : ℕ) → (b ≢ at) ⊎ (j ≢ i) → (other b).slot j ≡ (image b).slot j) → ((b : ℕ) → (other b).bytes ≡ (image b).bytes) → old.SlotOnDisk at i ((other at).slot i) ⊎ ((other at).slot i ≡ (memory at).slot i) → ((b : ℕ) → m.fresh b ≡ true → old.Waits b at i → SameUse ((other at).slot i) ((memory at).slot i)) → MayLeave memory old other
    kept image other m stays bytes here used = one_cell at i stays (λ b j ne. refl) bytes (λ b. refl) bg.slots bg.bytes bg.waits
        (λ fresh b j ne c. record {
          leaf = c.leaf;
          waits = was_clearing b j c.leaf ne c.waits;
          slot = stays b j ne ∙ c.slot;
          since = ⊎_elim (λ y. inl y) (λ n. inr (n.0, subst (λ (x : List ℕ). old.BytesSince b j c.leaf x) (sym (bytes c.leaf)) (bg.since b j c.leaf ((image c.leaf).bytes) (was_clearing b j c.leaf ne c.waits) n.1))) c.since;
        })
        m here used

    still : (image : Image) (m : MayLeave memory new image) → new.SlotOnDisk at i ((image at).slot i) → (IsCleared memory new image m.fresh at i → ⊥) → MayLeave memory old image
    still image m d never = kept image image m (λ b j ne. refl) (λ b. refl) (inl (bg.slots at i ((image at).slot i) d)) (λ b fresh_is h. ⊎_elim (λ u. u) (λ c. absurd (never c)) (m.used b at i fresh_is (bg.waits b at i h)))

    back : (image : Image) (m : MayLeave memory new image) → MayLeave memory old (with_slot image at i ((memory at).slot i))
    back image m = kept image (with_slot image at i ((memory at).slot i)) m (slot_other image at i ((memory at).slot i)) (slot_bytes image at i ((memory at).slot i)) (inr (slot_here image at i ((memory at).slot i))) (λ b fresh_is h. same_use_self ((with_slot image at i ((memory at).slot i) at).slot i) ((memory at).slot i) (slot_here image at i ((memory at).slot i)))

-- one block chosen anew
chosen : ℕ → Bool → (ℕ → Bool) → ℕ → Bool
chosen at x fresh b = cond (nat_eq b at) x (fresh b)

chosen_here : (at : ℕ) (x : Bool) (fresh : ℕ → Bool) (b : ℕ) → b ≡ at → chosen at x fresh b ≡ x
unfolding chosen
chosen_here at x fresh b e = grind (arith, common_steps)

chosen_other : (at : ℕ) (x : Bool) (fresh : ℕ → Bool) (b : ℕ) → b ≢ at → chosen at x fresh b ≡ fresh b
unfolding chosen
chosen_other at x fresh b ne = grind (arith, common_steps)

-- A block is written: no image is added.
pub written_adds : {memory : Image} {old new : Waiting} {at : ℕ} → Written at memory old new → AddsNothing (MayLeave memory old) (MayLeave memory new)
written_adds {memory} {old} {new} {at} wr = record {
  each = λ image m. ⊎_elim (same_bytes image m) (other_bytes image m) (lists ((image at).bytes) ((memory at).bytes));
}
  where
    -- the image under another choice of fresh blocks
    by : (image : Image) (m : MayLeave memory new image) (fresh : ℕ → Bool) → ((b i l : ℕ) → (m.fresh l ≡ true) ⊎ ((m.fresh l ≡ false) × new.BytesSince b i l ((image l).bytes)) → (fresh l ≡ true) ⊎ ((fresh l ≡ false) × old.BytesSince b i l ((image l).bytes))) → ((b : ℕ) → fresh b ≡ false → old.BytesOnDisk b ((image b).bytes)) → ((b : ℕ) → fresh b ≡ true → ((image b).bytes ≡ (memory b).bytes) × ((m.fresh b ≡ true) ⊎ (b ≡ at))) → MayLeave memory old image
    by image m fresh leaves old_bytes new_bytes = record {
      fresh = fresh;
      slots = slots_by;
      old_bytes = old_bytes;
      new_bytes = λ b fresh_is. (new_bytes b fresh_is).0;
      used = λ b on j fresh_is h. ⊎_elim
          (λ was. ⊎_elim (λ u. inl u) (λ c. inr (cleared_by on j c)) (m.used b on j was (wr.waits b on j h)))
          (λ is_at. over on j (subst (λ x. old.Waits x on j) is_at h))
          ((new_bytes b fresh_is).1);
    }
      where
        cleared_by : (b i : ℕ) → IsCleared memory new image m.fresh b i → IsCleared memory old image fresh b i
        cleared_by b i c = record { leaf = c.leaf; waits = wr.clearing b i c.leaf c.waits; slot = c.slot; since = leaves b i c.leaf c.since }

        slots_by : (b i : ℕ) → old.SlotOnDisk b i ((image b).slot i) ⊎ (((image b).slot i ≡ (memory b).slot i) ⊎ IsCleared memory old image fresh b i)
        slots_by b i = ⊎_elim
            (λ d. ⊎_elim (λ was. inl was) (λ w. inr (inl (w.1 ∙ ap (λ x. (memory x).slot i) (sym w.0)))) (wr.slots b i ((image b).slot i) d))
            (λ r. inr (⊎_elim (λ e. inl e) (λ c. inr (cleared_by b i c)) r))
            (m.slots b i)

        -- what block `at` waited for is over in every image
        over : (on j : ℕ) → old.Waits at on j → SameUse ((image on).slot j) ((memory on).slot j) ⊎ IsCleared memory old image fresh on j
        over on j h = ⊎_elim
            (λ d. inl (⊎_elim
            (λ was. wr.over on j h ((image on).slot j) was)
            (λ w. same_use_self ((image on).slot j) ((memory on).slot j) (w.1 ∙ ap (λ x. (memory x).slot j) (sym w.0)))
            (wr.slots on j ((image on).slot j) d)))
            (λ r. ⊎_elim
            (λ e. inl (same_use_self ((image on).slot j) ((memory on).slot j) e))
            (λ c. inr (cleared_by on j c))
            r)
            (m.slots on j)

    same_bytes : (image : Image) (m : MayLeave memory new image) → (image at).bytes ≡ (memory at).bytes → MayLeave memory old image
    same_bytes image m e = by image m (chosen at true m.fresh)
        (λ b i l h. ⊎_elim
        (λ is_at. inl (chosen_here at true m.fresh l is_at))
        (λ ne. ⊎_elim
        (λ fresh_is. inl (chosen_other at true m.fresh l ne ∙ fresh_is))
        (λ n. inr (chosen_other at true m.fresh l ne ∙ n.0, ⊎_elim (λ was. was) (λ w. absurd (ne w.0)) (wr.since b i l ((image l).bytes) n.1)))
        h)
        (cases_eq l at))
        (λ b old_is. ⊎_elim
        (λ is_at. absurd (not_both (chosen_here at true m.fresh b is_at) old_is))
        (λ ne. ⊎_elim (λ was. was) (λ w. absurd (ne w.0)) (wr.bytes b ((image b).bytes) (m.old_bytes b (sym (chosen_other at true m.fresh b ne) ∙ old_is))))
        (cases_eq b at))
        (λ b fresh_is. ⊎_elim
        (λ is_at. (ap (λ x. (image x).bytes) is_at ∙ e ∙ ap (λ x. (memory x).bytes) (sym is_at), inr is_at))
        (λ ne. let was : m.fresh b ≡ true = sym (chosen_other at true m.fresh b ne) ∙ fresh_is in (m.new_bytes b was, inl was))
        (cases_eq b at))

    other_bytes : (image : Image) (m : MayLeave memory new image) → (image at).bytes ≢ (memory at).bytes → MayLeave memory old image
    other_bytes image m ne_bytes = by image m m.fresh
        (λ b i l h. ⊎_elim
        (λ fresh_is. inl fresh_is)
        (λ n. inr (n.0, ⊎_elim (λ was. was) (λ w. absurd (ne_bytes (ap (λ x. (image x).bytes) (sym w.0) ∙ w.1))) (wr.since b i l ((image l).bytes) n.1)))
        h)
        (λ b old_is. ⊎_elim (λ was. was) (λ w. absurd (ne_bytes (ap (λ x. (image x).bytes) (sym w.0) ∙ w.1))) (wr.bytes b ((image b).bytes) (m.old_bytes b old_is)))
        (λ b fresh_is. (m.new_bytes b fresh_is, inl fresh_is))
