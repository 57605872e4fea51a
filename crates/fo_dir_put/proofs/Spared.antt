-- What a settling takes out after a put, and where blocks in place stand in every image.
use Rattle.std.proofs.Common.{◌≡◌, ◌≢◌, ◌⊎◌, inl, inr, ⊎_elim, ℕ, refl, sym, ap, ◌∙◌, subst}
use Rattle.std.proofs.lemmas.Bool.{cases_eq}
use Rattle.fo_image.specs.declared.types.Pointer.TheVariants.{Nil}
use Rattle.fo_crash.specs.declared.slot.Slot.{Slot}
use Rattle.fo_crash.specs.Images.{Image, Reaches, target, to_block}
use Rattle.fo_crash.specs.Spots.{FoundAt, OneSpot, top_spot, spot_at}
use Rattle.fo_crash.specs.Steps.{PutsSlot}
use Rattle.fo_crash.proofs.Reach.{same_walk}
use Rattle.fo_ports.specs.State.{State, KeepsOrder, IsDoomed, none}
use Rattle.fo_dir_put.specs.There.{IsThere}
use Rattle.fo_dir_put.proofs.Nothing.{reached_on}

-- what slots reach is the same where they stay
pub slots_reached : {now next : Image} {t : Slot} {c : ℕ} → ((b j : ℕ) → (next b).slot j ≡ (now b).slot j) → Reaches now t c → Reaches next t c
slots_reached {now = now} {next = next} {t = t} same r = record { path = r.path; leads = ap target (same_walk next now same r.path t) ∙ r.leads }

pub slots_spared : {old new : State} → ((b j : ℕ) → (new.now b).slot j ≡ (old.now b).slot j) → KeepsOrder none old new → ((b : ℕ) → new.covered b → old.covered b) → (b : ℕ) → (IsDoomed old b → ⊥) → IsDoomed new b → ⊥
slots_spared {old = old} {new = new} same order covered b free (inl h) = free (inl (covered b h))
slots_spared {old = old} {new = new} same order covered b free (inr (at, j, waits, r)) =
    free (inr (at, j, (order.clearing at j waits).1, subst (λ (s : Slot). Reaches old.now s b) (same at j) (slots_reached (λ x i. sym (same x i)) r)))

-- a slot that leads nowhere was put, where none waited and nothing hung
pub slot_spared : {at i : ℕ} {slot : Slot} {old new : State} → PutsSlot at i slot old.now new.now → target slot ≡ Nil → KeepsOrder none old new → (old.clearing at i → ⊥) → ((b : ℕ) → (old.covered b → ⊥) → new.covered b → ⊥)
    → (b : ℕ) → (IsDoomed old b → ⊥) → IsDoomed new b → ⊥
slot_spared {at = at} {i = i} {old = old} {new = new} puts nil order settled uncovered b free (inl h) = uncovered b (λ k. free (inl k)) h
slot_spared {at = at} {i = i} {old = old} {new = new} puts nil order settled uncovered b free (inr (x, j, waits, r)) =
    let was = (order.clearing x j waits).1 in
    free (inr (x, j, was, subst (λ (s : Slot). Reaches old.now s b) (puts.others x j (other was)) (reached_on back (ap target puts.here ∙ nil) r)))
  where
    back : PutsSlot at i ((old.now at).slot i) new.now old.now
    back = record { bytes = λ y. sym (puts.bytes y); here = refl; others = λ y k ne. sym (puts.others y k ne) }

    other : old.clearing x j → (x ≢ at) ⊎ (j ≢ i)
    other was = ⊎_elim
        (λ e. ⊎_elim (λ f. absurd (settled (subst (λ k. old.clearing at k) f (subst (λ y. old.clearing y j) e was)))) (λ ne. inr ne) (cases_eq j i))
        (λ ne. inl ne)
        (cases_eq x at)

-- a block that every image has below block 1 stands there where memory has it
pub is_there : (s : State) (b : ℕ) → s.tops 1 → s.may_leave s.now → OneSpot s.tops s.may_leave → ((image : Image) → s.may_leave image → Reaches image (to_block 1) b) → IsThere s b
is_there s b top present one hangs = record {
  hangs = hangs;
  found = λ image spot is at_now. subst (λ p. FoundAt s.tops image b p) (one.each image s.now b (spot_at image (top_spot 1) (to_block 1) (hangs image is).path) spot is present (there image (hangs image is)) at_now) (there image (hangs image is));
}
  where
    there : (image : Image) → (r : Reaches image (to_block 1) b) → FoundAt s.tops image b (spot_at image (top_spot 1) (to_block 1) r.path)
    there image r = record { top = 1; is_top = top; path = r.path; leads = r.leads; spot = refl }
