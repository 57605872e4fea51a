-- What stays where an entry is cleared, or waits for it.
use Rattle.std.proofs.Common.{◌≡◌, ◌⊎◌, inl, ⊎_elim, ℕ, ◌+◌, refl, sym, subst, arith}
use Rattle.fo_image.specs.declared.types.Kind.{Kind}
use Rattle.fo_image.specs.declared.types.Kind.TheVariants.{Dir}
use Rattle.fo_image.specs.declared.types.Pointer.TheVariants.{Nil, Local}
use Rattle.fo_crash.specs.declared.slot.Slot.{Slot}
use Rattle.fo_crash.specs.declared.slot.Slot.TheVariants.{Pointer as To, Entry as Head, Prev}
use Rattle.fo_crash.specs.Images.{Image, SameImage, Reaches, target}
use Rattle.fo_crash.specs.Steps.{PutsSlot, cleared}
use Rattle.fo_crash.proofs.Covers.{slot_reaches}
use Rattle.fo_ports.specs.Blocks.{SlotFits}
use Rattle.fo_ports.specs.State.{State, KeepsAll, AddsNoWait, Frame, Hangs, none}
use Rattle.fo_dir_put.specs.Puts.{ClearsAlone}
use Rattle.fo_dir_put.proofs.Nothing.{nil_reaches, rooted_on, put_places, put_apart, put_instead}
use Rattle.fo_dir_put.proofs.Leaves.{same_reached}

-- A cleared entry names nothing.
pub cleared_nil : (kind : Kind) (i : ℕ) (s : Slot) → kind ≡ Dir 0 → SlotFits kind i s → target (cleared s) ≡ Nil
cleared_nil kind i s is fits = by s (subst (λ (k : Kind). SlotFits k i s) is fits)
  where
    by : (t : Slot) → SlotFits (Dir 0) i t → target (cleared t) ≡ Nil
    by (Head x) h = refl
    by (To p) h = absurd h
    by (Prev x y) h = absurd h

-- what did not hang from a slot that was put hangs where it did
beside : {at i : ℕ} {s t : Slot} {now next : Image} {c : ℕ} → PutsSlot at i s now next → target s ≡ Nil → (Reaches now ((now at).slot i) c → ⊥) → Reaches now t c → Reaches next t c
beside {at = at} {i = i} {s = s} {now = now} {next = next} {c = c} puts nil other r = ⊎_elim
    (λ still. still)
    (λ below. absurd (⊎_elim (λ h. other h) (λ h. nil_reaches s c nil h) (slot_reaches puts below)))
    (slot_reaches back r)
  where
    back : PutsSlot at i ((now at).slot i) next now
    back = record { bytes = λ b. sym (puts.bytes b); here = refl; others = λ b j ne. sym (puts.others b j ne) }

-- a block that stays beside these stays beside more
wider : {here put more : ℕ → Type 0} {n : ℕ} {old new : State} → ((b : ℕ) → put b → more b) → Frame here put n old new → Frame here more n old new
wider covers frame = record {
  stays = record {
    labels = frame.stays.labels;
    marks = frame.stays.marks;
    places = λ told b p made other. frame.stays.places told b p made (λ h. other (covers b h));
    rooted = frame.stays.rooted;
    newborn = frame.stays.newborn;
    apart = λ b made other. frame.stays.apart b made (λ h. other (covers b h));
    instead = λ b x made other. frame.stays.instead b x made (λ h. other (covers b h));
    waits = λ a on j one two other. frame.stays.waits a on j one two (λ h. other (covers on h));
  };
  dirty = frame.dirty;
  uses = frame.uses;
  numbers = frame.numbers;
}

pub clears_alone : {at j : ℕ} {old new : State} → KeepsAll old new → Frame (λ b. b ≡ at) (λ b. b ≡ at) 1 old new → Hangs at j (cleared ((old.now at).slot j)) old new → AddsNoWait none old new → target (cleared ((old.now at).slot j)) ≡ Nil
    → PutsSlot at j (cleared ((old.now at).slot j)) old.now new.now ⊎ SameImage new.now old.now → ClearsAlone at j old new
clears_alone {at = at} {j = j} {old = old} {new = new} all frame hangs no_wait nil now = record {
  bytes = λ b. ⊎_elim (λ puts. puts.bytes b) (λ same. (same.each b).bytes) now;
  slots = λ b i ne. ⊎_elim (λ puts. puts.others b i ne) (λ same. (same.each b).slots i) now;
  labels = λ b. frame.stays.labels b (λ n. n);
  marks = λ b. let m = frame.stays.marks b (λ n. n) in (m.0, m.1);
  places = λ told b p spared r stands. put_places told more hangs nil b p spared r stands;
  rooted = λ told b r. frame.stays.rooted told b (λ n. n) r;
  hangs = λ told b other r. rooted_on all (put_apart more hangs nil) (λ t q. still b other q) r;
  linked = λ told b other r. still b other r;
  apart = λ b h. put_apart more hangs nil b h;
  instead = λ b x h. put_instead more hangs nil b x h;
  no_wait = no_wait;
  left = (zero frame.uses.spare, frame.uses.pins, zero frame.uses.usable);
  passes = (frame.uses.moments, frame.uses.left);
  numbers = frame.numbers;
}
  where
    still : {t : Slot} (b : ℕ) → (Reaches old.now ((old.now at).slot j) b → ⊥) → Reaches old.now t b → Reaches new.now t b
    still b other r = ⊎_elim (λ puts. beside puts nil other r) (λ same. same_reached same r) now

    more : Frame (λ b. b ≡ at) (λ b. (b ≡ at) ⊎ (target (cleared ((old.now at).slot j)) ≡ Local b)) 1 old new
    more = wider (λ b h. inl h) frame

    zero : {m n : ℕ} → m + 0 ≡ n → m ≡ n
    zero e = omega (arith, e)
