-- What hangs in memory after a slot was put hung there before.
use Rattle.std.proofs.Common.{◌≡◌, inl, inr, ⊎_elim, ℕ, [], refl, sym, ◌∙◌}
use Rattle.fo_image.specs.declared.types.Pointer.{Pointer}
use Rattle.fo_image.specs.declared.types.Pointer.TheVariants.{Nil, Local, Score as Held}
use Rattle.fo_crash.specs.declared.slot.Slot.{Slot}
use Rattle.fo_crash.specs.Images.{Reaches, target, to_block}
use Rattle.fo_crash.specs.Steps.{PutsSlot}
use Rattle.fo_crash.proofs.Reach.{lost, reaches_from, reaches_joins, reaches_same}
use Rattle.fo_crash.proofs.Covers.{slot_reaches}
use Rattle.fo_ports.specs.Blocks.{dropped, zeros}
use Rattle.fo_ports.specs.State.{State, IsRooted, IsHeld, Comes}

-- below a block that hangs all hangs
pub rooted_on : (s : State) (a b : ℕ) → IsRooted s a → Reaches s.now (to_block a) b → IsRooted s b
rooted_on s a b h r = (h.0, h.1, reaches_joins h.2 r)

pub held_rooted : (s : State) (at : ℕ) → s.tops 1 → IsHeld s at → IsRooted s at
held_rooted s at top h = ⊎_elim (λ r. (1, inl top, r)) (λ w. (w.0, inr w.1, w.2)) h

-- what may be put hangs from what was put into, or from block 1, or is apart
pub comes_rooted : (s : State) (at i : ℕ) (slot : Slot) (b : ℕ) → s.tops 1 → ((y x : ℕ) → s.instead y x → s.apart y) → IsHeld s at → Comes s at i ((s.now at).slot i) slot b → IsRooted s b
comes_rooted s at i slot b top aparts holder comes = ⊎_elim
    (λ led. rooted_on s at b (held_rooted s at top holder) (reaches_from i (record { path = zeros (dropped ((s.now at).slot i) slot); leads = led })))
    (λ h. ⊎_elim
    (λ w. alone (aparts b w.0 w.1))
    (λ w. ⊎_elim
    (λ loose. alone loose.0.0)
    (λ h. ⊎_elim
    (λ new. alone new.0.0)
    (λ raised. ⊎_elim alone (λ r. (1, inl top, r)) raised.1)
    h)
    w.1)
    h)
    comes
  where
    alone : s.apart b → IsRooted s b
    alone is = (b, inr is, record { path = []; leads = refl })

pub put_rooted : (old new : State) {at i : ℕ} {slot : Slot} → PutsSlot at i slot old.now new.now → ((t : ℕ) → new.tops t → old.tops t) → ((t : ℕ) → new.apart t → old.apart t) → ((b : ℕ) → target slot ≡ Local b → IsRooted old b) → (b : ℕ) → IsRooted new b → IsRooted old b
put_rooted old new {at} {i} {slot} puts tops aparts brought b h = ⊎_elim
    (λ r. (h.0, ⊎_elim (λ t. inl (tops h.0 t)) (λ a. inr (aparts h.0 a)) h.1, r))
    (λ r. one (target slot) refl r)
    (slot_reaches puts h.2)
  where
    one : (p : Pointer) → target slot ≡ p → Reaches old.now slot b → IsRooted old b
    one Nil q r = absurd (lost old.now r.path slot (λ c e. let x : Nil ≡ Local c = sym q ∙ e in cc) b r.leads)
    one (Held score) q r = absurd (lost old.now r.path slot (λ c e. let x : Held score ≡ Local c = sym q ∙ e in cc) b r.leads)
    one (Local x) q r = rooted_on old x b (brought x q) (reaches_same q r)
