-- A slot is cleared, and waits for its pair of entries are over.
use Rattle.std.proofs.Common.{◌≡◌, ◌≢◌, ◌⊎◌, inl, inr, ⊎_elim, ℕ, zero, suc, ◌*◌, ◌/◌, ◌<◌, Bool, true, false, List, refl, sym, ◌∙◌, ap, subst, arith}
use Rattle.std.proofs.lemmas.Bool.{cases_eq}
use Rattle.fo_image.specs.declared.types.Pointer.TheVariants.{Local}
use Rattle.fo_crash.specs.declared.slot.Slot.{Slot}
use Rattle.fo_crash.specs.declared.slot.Slot.TheVariants.{Pointer as To, Entry as Head, Prev}
use Rattle.fo_crash.specs.Images.{target}
use Rattle.fo_crash.specs.Names.{SameUse}
use Rattle.fo_crash.specs.Steps.{cleared}
use Rattle.fo_image.specs.declared.types.Kind.{Kind}
use Rattle.fo_image.specs.declared.types.Kind.TheVariants.{Data, Dir, Root}
use Rattle.fo_ports.specs.Blocks.{IsPointer, IsEntry, IsPrev, SlotFits}
use Rattle.fo_ports.specs.State.{IsSecondOf}
use Rattle.fo_ports_plain.specs.declared.block.PlainBlock.{PlainBlock}
use Rattle.fo_ports_plain.specs.declared.wait.Wait.{Wait}
use Rattle.fo_ports_plain.specs.Plain.{block_at, slot_of, is_active, Awaits}
use Rattle.fo_ports_plain.specs.Sound.{Waiting}
use Rattle.fo_ports_plain.specs.Moves.{KeepsUse, EndsWaits}
use Rattle.fo_ports_plain.specs.Laws.{in_pair}
use Rattle.fo_ports_plain.proofs.Comes.{same_active}

never_both : {x : Bool} → x ≡ true → x ≡ false → ⊥
never_both {x} t f = let both : true ≡ false = sym t ∙ f in cc

pub cleared_nowhere : (s : Slot) (b : ℕ) → target (cleared s) ≢ Local b
cleared_nowhere (To p) b = λ e. cc
cleared_nowhere (Head e) b = λ h. cc
cleared_nowhere (Prev x y) b = λ e. cc

cleared_unused : (s : Slot) → is_active (cleared s) ≡ false
cleared_unused (To p) = refl
cleared_unused (Head e) = refl
cleared_unused (Prev x y) = refl

pub waits_kept : {at i : ℕ} {old new : List Wait} → EndsWaits at i old new → (a on j : ℕ) → (on ≢ at) ⊎ (i ≢ 2 * (j / 2)) → Awaits old a on j → Awaits new a on j
waits_kept {at} {i} {old} {new} ends a on j h w = record {
  number = w.number;
  within = subst (λ n. w.number < n) (sym ends.as_long) w.within;
  is_at = (ends.same w.number).0 ∙ w.is_at;
  is_on = (ends.same w.number).1 ∙ w.is_on;
  pair = ends.others w.number (j / 2) (⊎_elim (λ ne. inl (λ e. ne (sym w.is_on ∙ e))) (λ ne. inr ne) h) ∙ w.pair;
}

pub waits_fewer : {at i : ℕ} {old new : List Wait} → EndsWaits at i old new → (a on j : ℕ) → Awaits new a on j → Awaits old a on j
waits_fewer {at} {i} {old} {new} ends a on j w = record {
  number = w.number;
  within = subst (λ n. w.number < n) ends.as_long w.within;
  is_at = sym (ends.same w.number).0 ∙ w.is_at;
  is_on = sym (ends.same w.number).1 ∙ w.is_on;
  pair = ends.fewer w.number (j / 2) w.pair;
}

pub ended_use : {at i : ℕ} {old new : List Wait} (s : Slot) → EndsWaits at i old new → KeepsUse new at i s
ended_use {at} {i} {old} {new} s ends = record {
  each = λ n k lt on half pair. absurd (never_both pair (ends.ended n k (sym (ends.same n).1 ∙ on) half));
}

-- waits that a cleared slot leaves: of other pairs, and all where the slot was not in use
pub waits_still : {blocks : List PlainBlock} {made at i : ℕ} {old new : List Wait} → Waiting blocks made old → EndsWaits at i old new → (a on j : ℕ) → (on ≢ at) ⊎ (((j ≢ i) × (IsSecondOf i j → ⊥)) ⊎ SameUse (cleared (slot_of (block_at blocks at) i)) (slot_of (block_at blocks at) i)) → Awaits old a on j → Awaits new a on j
waits_still {blocks} {made} {at} {i} {old} {new} waiting ends a on j h w = ⊎_elim
    (λ ne. waits_kept ends a on j (inl ne) w)
    (λ h. ⊎_elim
    (λ k. waits_kept ends a on j (inr (λ e. ⊎_elim (λ first. k.0 (first ∙ sym e)) (λ second. k.1 (j / 2, e, second)) (in_pair j))) w)
    (λ same. ⊎_elim
    (λ on_is. ⊎_elim
    (λ e.
    let used = (waiting w.number (j / 2) w.within w.pair).used in
    let here : is_active (slot_of (block_at blocks at) i) ≡ true = ap (λ z. is_active (slot_of (block_at blocks at) z)) e ∙ ap (λ z. is_active (slot_of (block_at blocks z) (2 * (j / 2)))) (sym on_is ∙ sym w.is_on) ∙ used in
    absurd (never_both (same_active (cleared (slot_of (block_at blocks at) i)) (slot_of (block_at blocks at) i) same here) (cleared_unused (slot_of (block_at blocks at) i))))
    (λ ne. waits_kept ends a on j (inr ne) w)
    (cases_eq i (2 * (j / 2))))
    (λ ne. waits_kept ends a on j (inl ne) w)
    (cases_eq on at))
    h)
    h

-- A cleared slot is one that the block can spell, where the slot was.
cleared_pointer : (s : Slot) → IsPointer s → IsPointer (cleared s)
cleared_pointer (To p) f = tt
cleared_pointer (Head e) f = absurd f
cleared_pointer (Prev x y) f = absurd f

cleared_entry : (s : Slot) → IsEntry s → IsEntry (cleared s)
cleared_entry (Head e) f = (record { active_holds = (refl, refl, refl, refl, refl) }, omega arith)
cleared_entry (To p) f = absurd f
cleared_entry (Prev x y) f = absurd f

cleared_prev : (s : Slot) → IsPrev s → IsPrev (cleared s)
cleared_prev (Prev x y) f = tt
cleared_prev (To p) f = absurd f
cleared_prev (Head e) f = absurd f

pub cleared_fits : (k : Kind) (i : ℕ) (s : Slot) → SlotFits k i s → SlotFits k i (cleared s)
cleared_fits (Data level) i s f = cleared_pointer s f
cleared_fits (Dir zero) i s f = cleared_entry s f
cleared_fits (Dir (suc level)) i s f = cleared_pointer s f
cleared_fits Root zero s f = cleared_entry s f
cleared_fits Root (suc zero) s f = cleared_entry s f
cleared_fits Root (suc (suc i)) s f = cleared_prev s f
