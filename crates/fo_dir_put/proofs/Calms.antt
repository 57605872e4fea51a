-- What stays over puts into leaves, one after another.
use Rattle.std.proofs.Common.{◌≡◌, ◌⊎◌, inl, ℕ, ◌+◌, List, length, sym, ap, ◌∙◌, arith}
use Rattle.fo_image.specs.declared.types.Label.{Label}
use Rattle.fo_image.specs.declared.types.Pointer.TheVariants.{Nil, Local}
use Rattle.fo_crash.specs.declared.slot.Slot.{Slot}
use Rattle.fo_crash.specs.Images.{target}
use Rattle.fo_crash.specs.Steps.{Covers, PutsSlot}
use Rattle.fo_ports.specs.State.{State, KeepsAll, KeepsOrder, Frame, Hangs, Calm, IsPointers, none}
use Rattle.fo_dir_put.specs.Puts.{StaysCalm, IsOwnedRecords, IsInPlace}
use Rattle.fo_dir_put.proofs.Spared.{slots_reached, slots_spared, slot_spared}
use Rattle.fo_dir_put.proofs.Nothing.{rooted_on, put_places, put_apart, put_instead, still_uncovered, reached_on}

pub calm_joins : {a b c : State} → KeepsAll a b → StaysCalm a b → StaysCalm b c → StaysCalm a c
calm_joins all first second = record {
  labels = λ x. second.labels x ∙ first.labels x;
  marks = λ x. (λ h. (second.marks x).0 ((first.marks x).0 h), λ h. (second.marks x).1 ((first.marks x).1 h));
  places = λ told x p spared r h.
      let mid = all.still_tells.1 told in
      second.places mid x p (first.uncovered x spared) r (first.places told x p spared ((second.rooted mid x).0 r) h);
  rooted = λ told x. let mid = all.still_tells.1 told in (λ r. (first.rooted told x).0 ((second.rooted mid x).0 r), λ r. (second.rooted mid x).1 ((first.rooted told x).1 r));
  order = record { clearing = λ x j h. first.order.clearing x j (second.order.clearing x j h).1; goes_on = λ x j n h. second.order.goes_on x j n (first.order.goes_on x j n h) };
  uncovered = λ x spared. second.uncovered x (first.uncovered x spared);
  covered = λ x h. second.covered x (first.covered x h);
  spared = λ x free. second.spared x (first.spared x free);
  linked = λ told x h. second.linked (all.still_tells.1 told) x (first.linked told x h);
  apart = λ x h. second.apart x (first.apart x h);
  instead = λ x y h. first.instead x y (second.instead x y h);
  left = (second.left.0 ∙ first.left.0, second.left.1 ∙ first.left.1, second.left.2 ∙ first.left.2);
  passes = (second.passes.0 ∙ first.passes.0, λ k image h. first.passes.1 k image (second.passes.1 k image h));
  numbers = record { next = second.numbers.next ∙ first.numbers.next; grants = λ h. second.numbers.grants (first.numbers.grants h) };
}

-- a slot that led nowhere was put
pub slot_calm : {at i : ℕ} {slot : Slot} {old new : State} → KeepsAll old new → Frame (λ b. b ≡ at) (λ b. (b ≡ at) ⊎ (target slot ≡ Local b)) 0 old new → Hangs at i slot old new → KeepsOrder none old new → PutsSlot at i slot old.now new.now
    → (old.tells → Covers (IsPointers old) ((old.now at).slot i) old.now new.now old.covered new.covered) → ((b : ℕ) → new.covered b → old.tells) → ((b : ℕ) → old.covered b → old.tells) → target slot ≡ Nil → target ((old.now at).slot i) ≡ Nil → (old.clearing at i → ⊥) → StaysCalm old new
slot_calm all frame hangs order puts covers told tells nil was settled = record {
  labels = λ b. frame.stays.labels b (λ n. n);
  marks = λ b. let m = frame.stays.marks b (λ n. n) in (m.0, m.1);
  places = λ is b p spared r stands. put_places is frame hangs nil b p (λ h. still_uncovered b (covers is) was spared h) r stands;
  rooted = λ is b. (λ r. frame.stays.rooted is b (λ n. n) r, λ r. rooted_on all (put_apart frame hangs nil) (λ t q. reached_on puts was q) r);
  order = order;
  uncovered = λ b spared h. still_uncovered b (covers (told b h)) was spared h;
  covered = λ b h. (covers (tells b h)).still b h;
  spared = slot_spared puts nil order settled (λ b spared h. still_uncovered b (covers (told b h)) was spared h);
  linked = λ is b r. reached_on puts was r;
  apart = λ b h. put_apart frame hangs nil b h;
  instead = λ b x h. put_instead frame hangs nil b x h;
  left = (zero frame.uses.spare, frame.uses.pins, zero frame.uses.usable);
  passes = (frame.uses.moments, frame.uses.left);
  numbers = frame.numbers;
}
  where
    zero : {m n : ℕ} → m + 0 ≡ n → m ≡ n
    zero e = omega (arith, e)

-- a call that changed one block's bytes, or none
pub bytes_calm : {here : ℕ → Type 0} {n : ℕ} {old new : State} → KeepsAll old new → Calm here n old new → ((b j : ℕ) → (new.now b).slot j ≡ (old.now b).slot j) → StaysCalm old new
bytes_calm all calm same = record {
  labels = λ b. calm.frame.stays.labels b (λ n. n);
  marks = λ b. let m = calm.frame.stays.marks b (λ n. n) in (m.0, m.1);
  places = λ is b p spared r stands. calm.frame.stays.places is b p (λ n. n) (λ n. n) (λ h. spared ((calm.covered.covered b).0 h)) r stands;
  rooted = λ is b. (λ r. calm.frame.stays.rooted is b (λ n. n) r, λ r. rooted_on all (λ t h. (calm.frame.stays.apart t (λ n. n) (λ n. n)).1 h) (λ t q. slots_reached same q) r);
  order = calm.order;
  uncovered = λ b spared h. spared ((calm.covered.covered b).0 h);
  covered = λ b h. (calm.covered.covered b).1 h;
  spared = slots_spared same calm.order (λ b h. (calm.covered.covered b).0 h);
  linked = λ is b r. slots_reached same r;
  apart = λ b h. (calm.frame.stays.apart b (λ n. n) (λ n. n)).1 h;
  instead = λ b x h. (calm.frame.stays.instead b x (λ n. n) (λ n. n)).0 h;
  left = (zero calm.frame.uses.spare, calm.frame.uses.pins, zero calm.frame.uses.usable);
  passes = (calm.frame.uses.moments, calm.frame.uses.left);
  numbers = calm.frame.numbers;
}
  where
    zero : {m n : ℕ} → m + 0 ≡ n → m ≡ n
    zero e = omega (arith, e)

-- a leaf of records whose bytes stayed is still owned
pub records_on : {a b : State} {at : ℕ} → KeepsAll a b → StaysCalm a b → (b.now at).bytes ≡ (a.now at).bytes → IsOwnedRecords a at → IsOwnedRecords b at
records_on {a = a} {b = b} {at = at} all calm same owned = record {
  is_pinned = (calm.marks at).0 owned.is_pinned;
  current = ap (λ (l : Label). l.epoch) (calm.labels at) ∙ owned.current ∙ sym all.same_high;
  leaf_kind = ap (λ (l : Label). l.kind) (calm.labels at) ∙ owned.leaf_kind;
  whole = ap (λ (xs : List ℕ). length xs) same ∙ owned.whole;
  uncovered = calm.uncovered at owned.uncovered;
  other = λ told. owned.other (all.still_tells.0 told);
}

-- so is one that was put, whole
pub records_put : {a b : State} {at : ℕ} → KeepsAll a b → StaysCalm a b → length ((b.now at).bytes) ≡ 8192 → IsOwnedRecords a at → IsOwnedRecords b at
records_put {a = a} {b = b} {at = at} all calm whole owned = record {
  is_pinned = (calm.marks at).0 owned.is_pinned;
  current = ap (λ (l : Label). l.epoch) (calm.labels at) ∙ owned.current ∙ sym all.same_high;
  leaf_kind = ap (λ (l : Label). l.kind) (calm.labels at) ∙ owned.leaf_kind;
  whole = whole;
  uncovered = calm.uncovered at owned.uncovered;
  other = λ told. owned.other (all.still_tells.0 told);
}

-- two leaves in place are so still
pub in_place_on : {a b : State} {leaf entries : ℕ} → a.tells → b.tops 1 → StaysCalm a b → (a.covered leaf → ⊥) → (a.covered entries → ⊥) → IsInPlace a leaf entries → IsInPlace b leaf entries
in_place_on {leaf = leaf} {entries = entries} told top calm one two p = record {
  is_sealed = (calm.marks leaf).1 p.is_sealed;
  entries_sealed = (calm.marks entries).1 p.entries_sealed;
  upper = p.upper;
  lower = p.lower;
  leaf_linked = calm.linked told leaf p.leaf_linked;
  entries_linked = calm.linked told entries p.entries_linked;
  upper_stands = calm.places told leaf p.upper one (1, inl top, calm.linked told leaf p.leaf_linked) p.upper_stands;
  lower_stands = calm.places told entries p.lower two (1, inl top, calm.linked told entries p.entries_linked) p.lower_stands;
  falls = p.falls;
}
