-- What the calls on blocks see of bytes that are put.
use Rattle.std.proofs.Common.{◌≡◌, inl, inr, ⊎_elim, ℕ, List, refl, sym, ◌∙◌, ap, subst, arith}
use Rattle.std.proofs.lemmas.Bool.{cases_eq}
use Rattle.fo_crash.specs.declared.slot.Slot.{Slot}
use Rattle.fo_crash.specs.declared.slot.Slot.TheVariants.{Pointer as To, Entry as Head, Prev}
use Rattle.fo_crash.specs.Images.{Content, Image, SameImage, target, Reaches, to_block, with_bytes}
use Rattle.fo_crash.specs.Names.{SameUse}
use Rattle.fo_crash.specs.Steps.{PutsBytes, AddsBytes}
use Rattle.fo_crash.proofs.Updates.{bytes_other, bytes_here, bytes_slot}
use Rattle.fo_crash.proofs.Reach.{same_walk}
use Rattle.fo_ports.specs.State.{Calm}
use Rattle.fo_ports_plain.specs.declared.block.PlainBlock.{PlainBlock}
use Rattle.fo_ports_plain.specs.Plain.{block_at, slot_of, memory, Covered, Updates}
use Rattle.fo_ports_plain.specs.Meaning.{Plain, state_of, PlainKeeps}
use Rattle.fo_ports_plain.proofs.Lists.{part_kept}
use Rattle.fo_ports_plain.proofs.Frames.{label_same}

pub bytes_put : {old new : List PlainBlock} {at : ℕ} {bytes : List ℕ} → Updates at (record (block_at old at) { bytes = bytes }) old new → PutsBytes at bytes (memory old) (memory new)
bytes_put up = record {
  slots = λ b j. part_kept (λ (z : PlainBlock). slot_of z j) up refl b;
  here = ap (λ (z : PlainBlock). z.bytes) up.here;
  others = λ b ne. ap (λ (z : PlainBlock). z.bytes) (up.others b ne);
}

pub bytes_added : {old new : Image} {at : ℕ} {bytes : List ℕ} {beside : Image → Type 0} → PutsBytes at bytes old new → ((image : Image) → SameImage image new → beside image) → AddsBytes old at bytes beside (λ image. SameImage image old) (λ image. SameImage image new)
bytes_added {old} {new} {at} {bytes} puts besides = record {
  each = λ image is. inr (
    (is.each at).bytes ∙ puts.here,
    record {
      each = λ b. record {
        bytes = ⊎_elim
            (λ e. ap (λ x. (with_bytes image at ((old at).bytes) x).bytes) e ∙ bytes_here image at ((old at).bytes) ∙ ap (λ x. (old x).bytes) (sym e))
            (λ ne. ap (λ (k : Content). k.bytes) (bytes_other image at ((old at).bytes) b ne) ∙ (is.each b).bytes ∙ puts.others b ne)
            (cases_eq b at);
        slots = λ j. bytes_slot image at ((old at).bytes) b j ∙ (is.each b).slots j ∙ puts.slots b j;
      };
    },
    besides image is,
  );
}

-- equal slots are in the same use
pub same_use : (s t : Slot) → s ≡ t → SameUse s t
same_use s t e = subst (λ x. SameUse s x) e (own s)
  where
    own : (s : Slot) → SameUse s s
    own (Head e) = (refl, refl, refl, refl)
    own (To p) = refl
    own (Prev x y) = refl

pub bytes_kept : (p q : Plain) {at : ℕ} {bytes : List ℕ} → Updates at (record (block_at p.blocks at) { bytes = bytes }) p.blocks q.blocks → q ≡ record p { blocks = q.blocks } → PlainKeeps p q
bytes_kept p q up is = record {
  as_long = up.as_long;
  held = ap (λ (z : Plain). z.held) is;
  high = ap (λ (z : Plain). z.high) is;
  root = ap (λ (z : Plain). z.root) is;
  tops = λ t. part_kept (λ (z : PlainBlock). z.kept) up refl t;
}

pub bytes_calm : (p : Plain) {new : List PlainBlock} {at : ℕ} {bytes : List ℕ} → Updates at (record (block_at p.blocks at) { bytes = bytes }) p.blocks new → Calm (λ b. b ≡ at) 0 (state_of p) (state_of (record p { blocks = new }))
bytes_calm p {new} {at} {bytes} up = record {
  frame = record {
    stays = record {
      labels = λ b _. label_same p.blocks new p.made b (part_kept (λ (z : PlainBlock). z.place.kind) up refl b) (part_kept (λ (z : PlainBlock). z.place.tag) up refl b) (part_kept (λ (z : PlainBlock). z.epoch) up refl b);
      marks = λ b _. (λ h. h, λ h. h, λ h. h);
      places = λ t b x _ _ _ _ st. record { above = st.above; was_made = st.was_made; is = part_kept (λ (z : PlainBlock). z.place) up refl b ∙ st.is };
      rooted = λ t b _ r. (
        r.0,
        ⊎_elim
            (λ top. inl (⊎_elim (λ e. inl e) (λ is. inr (sym (part_kept (λ (z : PlainBlock). z.kept) up refl r.0) ∙ is)) top))
            (λ is. inr (sym (part_kept (λ (z : PlainBlock). z.apart) up refl r.0) ∙ is))
            r.1,
        reach_back r.2,
      );
      newborn = λ b _ h. h;
      apart = λ b _ _. (λ h. sym (part_kept (λ (z : PlainBlock). z.apart) up refl b) ∙ h, λ h. part_kept (λ (z : PlainBlock). z.apart) up refl b ∙ h);
      instead = λ b x _ _. (
        λ h. record { apart = sym (part_kept (λ (z : PlainBlock). z.apart) up refl b) ∙ h.apart; origin = sym (part_kept (λ (z : PlainBlock). z.origin) up refl b) ∙ h.origin; some = h.some },
        λ h. record { apart = part_kept (λ (z : PlainBlock). z.apart) up refl b ∙ h.apart; origin = part_kept (λ (z : PlainBlock). z.origin) up refl b ∙ h.origin; some = h.some },
      );
      waits = λ a on j _ _ _ w. w;
    };
    dirty = λ b h. absurd h;
    uses = record { spare = omega arith; usable = let long = up.as_long in omega (arith, long); room = omega arith; pins = refl; moments = refl; left = λ k image h. h };
    numbers = record { next = refl; grants = λ h. h };
  };
  order = record { clearing = λ b j h. absurd h; goes_on = λ b j _ h. h };
  covered = record { covered = λ b. (back b, forth b) };
  newborn = λ b h. h;
  queued = refl;
  no_removal = record { each = λ x e w h. h };
}
  where
    taken : (b : ℕ) → (block_at new b).taken ≡ (block_at p.blocks b).taken
    taken b = part_kept (λ (z : PlainBlock). z.taken) up refl b

    reach : {t b : ℕ} → Reaches (memory p.blocks) (to_block t) b → Reaches (memory new) (to_block t) b
    reach {t} {b} r = record { path = r.path; leads = ap target (same_walk (memory new) (memory p.blocks) (λ a i. part_kept (λ (z : PlainBlock). slot_of z i) up refl a) r.path (to_block t)) ∙ r.leads }

    reach_back : {t b : ℕ} → Reaches (memory new) (to_block t) b → Reaches (memory p.blocks) (to_block t) b
    reach_back {t} {b} r = record { path = r.path; leads = ap target (same_walk (memory p.blocks) (memory new) (λ a i. sym (part_kept (λ (z : PlainBlock). slot_of z i) up refl a)) r.path (to_block t)) ∙ r.leads }

    back : (b : ℕ) → Covered new b → Covered p.blocks b
    back b = ⊎_elim
        (λ c. inl (record { top = c.top; taken = sym (taken c.top) ∙ c.taken; below = reach_back c.below; gone = λ r. c.gone (reach r) }))
        (λ c. inr (record { is = sym (part_kept (λ (z : PlainBlock). z.retired) up refl b) ∙ c.is; gone = λ r. c.gone (reach r) }))

    forth : (b : ℕ) → Covered p.blocks b → Covered new b
    forth b = ⊎_elim
        (λ c. inl (record { top = c.top; taken = taken c.top ∙ c.taken; below = reach c.below; gone = λ r. c.gone (reach_back r) }))
        (λ c. inr (record { is = part_kept (λ (z : PlainBlock). z.retired) up refl b ∙ c.is; gone = λ r. c.gone (reach_back r) }))
