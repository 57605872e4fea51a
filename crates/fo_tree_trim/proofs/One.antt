-- One slot of a block of pointers is cleared.
use Rattle.std.proofs.Common.{◌≡◌, ◌⊎◌, ◌≤◌, ℕ, zero, suc, inl, inr, ⊎_elim, refl, ◌∙◌, ap, subst, arith}
use Rattle.fo_image.specs.declared.types.Kind.{Kind}
use Rattle.fo_image.specs.declared.types.Kind.TheVariants.{Data, Dir, Root}
use Rattle.fo_image.specs.declared.types.Pointer.TheVariants.{Nil, Local}
use Rattle.fo_crash.specs.declared.slot.Slot.{Slot}
use Rattle.fo_crash.specs.declared.slot.Slot.TheVariants.{Pointer as To, Entry as Head, Prev}
use Rattle.fo_crash.specs.Images.{Image, target}
use Rattle.fo_crash.specs.Steps.{PutsSlot, AddsSlot, Covers, cleared}
use Rattle.fo_ports.specs.Blocks.{slot_count, SlotFits, IsInner}
use Rattle.fo_ports.specs.State.{State, QueuesOne, none, Frame, Hangs, AddsNoWait, IsPointers}
use Rattle.fo_tree_trim.specs.Cut.{CutsOne}

pub inner_pointer : (kind : Kind) (i : ℕ) (s : Slot) → IsInner kind → SlotFits kind i s → s ≡ To (target s)
inner_pointer (Data level) i (To p) inner fits = refl
inner_pointer (Data level) i (Head e) inner fits = absurd fits
inner_pointer (Data level) i (Prev x y) inner fits = absurd fits
inner_pointer (Dir zero) i s inner fits = absurd (omega (arith, inner))
inner_pointer (Dir (suc level)) i (To p) inner fits = refl
inner_pointer (Dir (suc level)) i (Head e) inner fits = absurd fits
inner_pointer (Dir (suc level)) i (Prev x y) inner fits = absurd fits
inner_pointer Root i s inner fits = absurd inner

pub inner_count : (kind : Kind) → IsInner kind → slot_count kind ≡ 409
inner_count (Data zero) inner = absurd (omega (arith, inner))
inner_count (Data (suc level)) inner = refl
inner_count (Dir zero) inner = absurd (omega (arith, inner))
inner_count (Dir (suc level)) inner = refl
inner_count Root inner = absurd inner

pub inner_no_leaf : (kind : Kind) → IsInner kind → kind ≡ Dir 0 → ⊥
inner_no_leaf (Data level) inner e = cc
inner_no_leaf (Dir zero) inner e = omega (arith, inner)
inner_no_leaf (Dir (suc level)) inner e = cc
inner_no_leaf Root inner e = inner

-- what the call says, where nothing is waited for
pub removed : {at i : ℕ} {s u : State} {beside : Image → Type 0} {waited : Type 0}
    → ((s.now at).slot i ≡ To (target ((s.now at).slot i)))
    → (PutsSlot at i (cleared ((s.now at).slot i)) s.now u.now × (u.clearing at i → ⊥)) ⊎ (waited → ⊥)
    → waited
    → AddsSlot s.now at i (cleared ((s.now at).slot i)) beside s.may_leave u.may_leave
    → Frame (λ b. b ≡ at) (λ b. b ≡ at) 1 s u
    → Hangs at i (cleared ((s.now at).slot i)) s u
    → ((b j : ℕ) → (u.clearing b j → s.clearing b j ⊎ ((b ≡ at) × (j ≡ i))) × (s.clearing b j → u.clearing b j))
    → AddsNoWait none s u
    → (s.queued ≤ u.queued) × ((c : ℕ) → target ((s.now at).slot i) ≡ Local c → u.clearing at i ⊎ QueuesOne s u)
    → (s.tells → Covers (IsPointers s) ((s.now at).slot i) s.now u.now s.covered u.covered)
    → CutsOne at i s u
removed {at = at} {i = i} {s = s} {u = u} is now waited images frame hangs order no_wait queues covers =
    let nil : cleared ((s.now at).slot i) ≡ To Nil = ap cleared is in
    let puts : PutsSlot at i (cleared ((s.now at).slot i)) s.now u.now × (u.clearing at i → ⊥) = ⊎_elim (λ p. p) (λ no. absurd (no waited)) now in
    record {
      puts = subst (λ (q : Slot). PutsSlot at i q s.now u.now) nil puts.0;
      images = record { each = λ image h. ⊎_elim (λ old. inl old) (λ new. inr (new.0 ∙ nil, new.1, tt)) (images.each image h) };
      frame = frame;
      hangs = subst (λ (q : Slot). Hangs at i q s u) nil hangs;
      order = λ b j. (
        λ h. ⊎_elim (λ old. old) (λ here. absurd (puts.1 (subst (λ y. u.clearing at y) here.1 (subst (λ y. u.clearing y j) here.0 h)))) ((order b j).0 h),
        (order b j).1,
      );
      no_wait = no_wait;
      queues = (queues.0, λ c e. ⊎_elim (λ waits. absurd (puts.1 waits)) (λ one. ⊎_elim (λ more. omega (arith, more)) (λ most. omega (arith, most)) one) (queues.1 c e));
      covers = covers;
    }
