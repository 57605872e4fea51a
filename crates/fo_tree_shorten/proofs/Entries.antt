-- A source's entry stands where it stood.
use Rattle.std.proofs.Common.{◌≡◌, ℕ, inl, ⊎_elim, sym, ◌∙◌, ap, subst}
use Rattle.fo_image.specs.declared.types.Label.{Label}
use Rattle.fo_crash.specs.declared.slot.Slot.TheVariants.{Entry as Head}
use Rattle.fo_crash.specs.Steps.{PutsSlot}
use Rattle.fo_ports.specs.State.{State, KeepsAll, KeepsOrder, Frame, none}
use Rattle.fo_ports.specs.Sources.{Changes, Made, Touched}
use Rattle.fo_tree_read.specs.declared.tree.Tree.{Tree}
use Rattle.fo_tree_link.specs.of_tree_open.Open.{HasEntry}
use Rattle.fo_tree_link.specs.Link.{entry_of}
use Rattle.fo_tree_shorten.specs.Shorten.{EntryAt}
use Rattle.fo_tree_shorten.proofs.Beside.{Beside}

label_on : {s u : State} {t : Tree} {generation at i : ℕ} → EntryAt s t generation at i → KeepsAll s u → u.label at ≡ s.label at → (u.now at).slot i ≡ Head (entry_of t generation) → u.pinned at → (u.clearing at i → s.clearing at i) → EntryAt u t generation at i
label_on {s = s} {t = t} {at = at} {i = i} e all same is pinned settled = record {
  is = is;
  is_pinned = pinned;
  live = ap (λ (l : Label). l.state) same ∙ e.live;
  current = ap (λ (l : Label). l.epoch) same ∙ e.current ∙ sym all.same_high;
  apart = λ f. e.apart (sym (ap (λ (l : Label). l.tag) same) ∙ f);
  leaf = subst (λ k. HasEntry k i) (sym (ap (λ (l : Label). l.kind) same)) e.leaf;
  settled = λ h. e.settled (settled h);
}

-- after a call that makes the source's blocks current
module _ {s m : State} {t : Tree} {generation at i : ℕ} {mine inner : ℕ → Type 0} (e : EntryAt s t generation at i) (c : Changes t.tag mine inner s m) (all : KeepsAll s m) where
  not_made : Made s m at → ⊥
  not_made made = made.0 e.live

  not_touched : Touched s m t.tag inner at → ⊥
  not_touched h = ⊎_elim not_made (λ own. e.apart own.2) h

  pub entry_owned : EntryAt m t generation at i
  entry_owned = let p = c.others at not_made in label_on e all p.label ((c.memory at not_touched).slots i ∙ e.is) (p.marks.0 e.is_pinned) (λ h. (c.clearing at i h).1)

-- after a link of the same source
pub entry_put : {m u : State} {t new : Tree} {generation other at i n : ℕ} {here put : ℕ → Type 0} → EntryAt m t generation at i → new.tag ≡ t.tag → KeepsAll m u → PutsSlot at i (Head (entry_of new other)) m.now u.now → Frame here put n m u → KeepsOrder none m u → EntryAt u new other at i
entry_put {m = m} {t = t} {at = at} {i = i} e tag all puts frame order =
    let same = frame.stays.labels at (λ h. h) in
    record {
      is = puts.here;
      is_pinned = (frame.stays.marks at (λ h. h)).0 e.is_pinned;
      live = ap (λ (l : Label). l.state) same ∙ e.live;
      current = ap (λ (l : Label). l.epoch) same ∙ e.current ∙ sym all.same_high;
      apart = λ f. e.apart (sym (ap (λ (l : Label). l.tag) same) ∙ f ∙ tag);
      leaf = subst (λ k. HasEntry k i) (sym (ap (λ (l : Label). l.kind) same)) e.leaf;
      settled = λ h. e.settled (order.clearing at i h).1;
    }

pub beside_put : {m u : State} {t new : Tree} {generation other at i n : ℕ} {here put : ℕ → Type 0} → EntryAt m t generation at i → new.tag ≡ t.tag → KeepsAll m u → PutsSlot at i (Head (entry_of new other)) m.now u.now → Frame here put n m u → Beside m u new at
beside_put e tag all puts frame = record {
  all = all;
  slots = λ b j ne. puts.others b j (inl ne);
  bytes = puts.bytes;
  label = λ b. frame.stays.labels b (λ h. h);
  marks = λ b. (frame.stays.marks b (λ h. h)).0;
  apart = λ f. e.apart (f ∙ tag);
}

-- after a cut of what stands behind the source's end
pub entry_cut : {u v : State} {t : Tree} {generation at i : ℕ} → EntryAt u t generation at i → KeepsAll u v → v.label at ≡ u.label at → (v.now at).slot i ≡ (u.now at).slot i → (u.pinned at → v.pinned at) → (v.clearing at i → u.clearing at i) → EntryAt v t generation at i
entry_cut e all same slot pinned settled = label_on e all same (slot ∙ e.is) (pinned e.is_pinned) settled
