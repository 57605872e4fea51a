-- A slot was put after the block to which it led was marked.
use Rattle.std.proofs.Common.{◌≡◌, ◌≢◌, ◌⊎◌, inl, inr, ⊎_elim, ℕ, ◌<◌, true, false, cond, List, set, get_or-set_other, refl, sym, ◌∙◌, ap, subst, arith}
use Rattle.std.proofs.lemmas.Bool.{cases_eq}
use Rattle.fo_image.specs.declared.types.Pointer.{Pointer}
use Rattle.fo_image.specs.declared.types.Pointer.TheVariants.{Nil, Local, Score as Held}
use Rattle.fo_crash.specs.declared.slot.Slot.{Slot}
use Rattle.fo_crash.specs.declared.slot.Slot.TheVariants.{Pointer as To}
use Rattle.fo_crash.specs.declared.place.Place.{Place}
use Rattle.fo_crash.specs.Images.{target}
use Rattle.fo_crash.specs.Places.{place_below, FitsAt}
use Rattle.fo_ports.specs.Blocks.{ends, IsInner, slot_count, SlotFits}
use Rattle.fo_ports_plain.specs.declared.block.PlainBlock.{PlainBlock}
use Rattle.fo_ports_plain.specs.Plain.{block_at, slot_of, index_in, Updates}
use Rattle.fo_ports_plain.specs.Sound.{HangsAt, InSource, IsFirst, home_of}
use Rattle.fo_ports_plain.specs.Moves.{IsFree, Linking, Takes, MayLink}
use Rattle.fo_ports_plain.proofs.Taken.{Marks}
use Rattle.fo_ports_plain.proofs.Joints.{other_block}
use Rattle.fo_ports_plain.proofs.Frames.{PutAll}

module _ {old mid : List PlainBlock} {before s : Slot} (take : Takes before s old mid) where
  home_kept : (n : ℕ) → home_of mid n ≡ home_of old n
  home_kept n = ap (λ (z : PlainBlock). z.home) (take.same n)

  -- a block that is marked may be put where it might before
  source_kept : (i a b : ℕ) → InSource i (block_at old a) (block_at old b) (home_of old (block_at old b).source) → InSource i (block_at mid a) (block_at mid b) (home_of mid (block_at mid b).source)
  source_kept i a b h =
      let own : InSource i (record (block_at old a) { taken = (block_at mid a).taken }) (record (block_at old b) { taken = (block_at mid b).taken }) (home_of mid (block_at old b).source) = record { inner = h.inner; outer = λ outer. subst (λ z. HangsAt z (block_at old a).source (index_in (block_at old a).place) i) (sym (home_kept (block_at old b).source)) (h.outer outer) } in
      subst (λ z. InSource i z (block_at mid b) (home_of mid (block_at mid b).source)) (sym (take.same a)) (subst (λ (z : PlainBlock). InSource i (record (block_at old a) { taken = (block_at mid a).taken }) z (home_of mid z.source)) (sym (take.same b)) own)

  free_kept : (b : ℕ) → IsFree (block_at old b) → IsFree (block_at mid b)
  free_kept b h = subst (λ z. IsFree z) (sym (take.same b)) h

  first_kept : (b : ℕ) → IsFirst (block_at old b) → IsFirst (block_at mid b)
  first_kept b h = subst (λ z. IsFirst z) (sym (take.same b)) h

  place_kept : (b : ℕ) → (block_at mid b).place ≡ (block_at old b).place
  place_kept b = ap (λ (z : PlainBlock). z.place) (take.same b)

  pub may_after : {made at i below : ℕ} → MayLink old made at i below s → MayLink mid made at i below s
  may_after {made} {at} {i} {below} may = record {
    at_made = may.at_made;
    below_made = may.below_made;
    few = subst (λ (z : Place). i < slot_count z.kind) (sym (place_kept at)) may.few;
    spelled = subst (λ (z : Place). SlotFits z.kind i s) (sym (place_kept at)) may.spelled;
    leads = may.leads;
    fits = subst (λ (z : Place). FitsAt (IsFree (block_at mid below)) (block_at mid below).place (place_below z i s)) (sym (place_kept at))
        (subst (λ (z : Place). FitsAt (IsFree (block_at mid below)) z (place_below (block_at old at).place i s)) (sym (place_kept below))
        (⊎_elim (λ e. inl e) (λ h. inr (free_kept below h.0, h.1, h.2)) may.fits));
    lower = subst (λ (z : Place). (place_below z i s).rank < z.rank) (sym (place_kept at)) may.lower;
    ages =
        let a = ap (λ (z : PlainBlock). z.epoch) (take.same at) in
        let b = ap (λ (z : PlainBlock). z.epoch) (take.same below) in
        let le = may.ages in
        omega (arith, a, b, le);
    joins = ⊎_elim
        (λ h. inl (source_kept i at below h))
        (λ h. ⊎_elim
        (λ f. inr (inl (free_kept below f)))
        (λ h. ⊎_elim
        (λ f. inr (inr (inl (first_kept below f.0, λ inner. f.1 (subst (λ (z : Place). IsInner z.kind) (place_kept at) inner)))))
        (λ f. inr (inr (inr (free_kept at f.0, subst (λ (z : Place). IsInner z.kind) (sym (place_kept at)) f.1, f.2))))
        h)
        h)
        may.joins;
  }

  marks_by : (new : List PlainBlock) → ((b : ℕ) → (block_at new b).taken ≡ (block_at mid b).taken) → Marks before s (λ b. (block_at old b).taken ≡ true) (λ b. (block_at new b).taken ≡ true)
  marks_by new same = record {
    still = λ b h. same b ∙ take.still b h;
    marked = λ x to ne. same x ∙ take.taken x to ne;
    only = λ x h. ⊎_elim (λ k. inl k) (λ k. inr k.0) (take.only x (sym (same x) ∙ h));
  }

-- a slot that is to lead to no block more led to one
pub ends_leads : (p q : Pointer) → ends p q ≡ 1 → (x : ℕ) × (p ≡ Local x)
ends_leads (Local x) q e = (x, refl)
ends_leads Nil q e = absurd (omega (arith, e))
ends_leads (Held score) q e = absurd (omega (arith, e))

-- the block to which the slot leads
pub all_link : {old mid new : List PlainBlock} {made at i below : ℕ} {s : Slot} → Takes (slot_of (block_at old at) i) s old mid → MayLink old made at i below s → Linking at i below s mid new → PutAll at i s old new
all_link {old} {mid} {new} {made} {at} {i} {below} {s} take may l = record {
  as_long = l.as_long ∙ take.as_long;
  puts = record {
    bytes = λ b. (l.same b).1 ∙ ap (λ (z : PlainBlock). z.bytes) (take.same b);
    here = l.put;
    others = λ b j ne. l.slots b j ne ∙ ap (λ (z : PlainBlock). slot_of z j) (take.same b);
  };
  labels = λ b. ((l.kinds b).0 ∙ ap (λ (z : PlainBlock). z.place.kind) (take.same b), (l.kinds b).1 ∙ ap (λ (z : PlainBlock). z.place.tag) (take.same b), (l.same b).0 ∙ ap (λ (z : PlainBlock). z.epoch) (take.same b), (l.same b).3 ∙ ap (λ (z : PlainBlock). z.kept) (take.same b));
  other = λ e. other_block may (sym (local_is (sym may.leads ∙ e)));
  here = λ b e. subst (λ x. ((block_at new x).place ≡ place_below (block_at old at).place i s) × ((block_at new x).apart ≡ false)) (local_is (sym may.leads ∙ e)) (l.place ∙ ap (λ (z : Place). place_below z i s) (place_kept take at), l.joined);
  places = λ b ne. (l.places b (other b ne) ∙ place_kept take b, l.aparts b (other b ne) ∙ ap (λ (z : PlainBlock). z.apart) (take.same b));
  origins = λ b na ne. (l.origins b na (other b ne)).0 ∙ ap (λ (z : PlainBlock). z.origin) (take.same b);
  top = ⊎_elim
      (λ w. inl (record { origin = w.origin ∙ ap (λ (z : PlainBlock). z.origin) (take.same at); none = λ b e inner zero free. w.not_raised zero (free_kept take at free) }))
      (λ h. ⊎_elim
      (λ w. inl (record { origin = w.origin ∙ ap (λ (z : PlainBlock). z.origin) (take.same at); none = λ b e inner zero free. w.outer (subst (λ (z : Place). IsInner z.kind) (sym (place_kept take at)) inner) }))
      (λ w. inr (record {
        inner = subst (λ (z : Place). IsInner z.kind) (place_kept take at) w.inner;
        first = w.first;
        free = subst (λ z. IsFree z) (take.same at) w.free;
        below = below;
        leads = may.leads;
        past = λ e. let past = may.below_made.0 in omega (arith, past, e);
        origin = w.origin ∙ ap (λ (z : PlainBlock). cond z.apart z.origin below) (take.same below);
      }))
      h)
      l.way;
  marks = marks_by take new (λ b. (l.same b).2);
  retired = λ b. (l.same b).4 ∙ ap (λ (z : PlainBlock). z.retired) (take.same b);
}
  where
    local_is : {a b : ℕ} → Local a ≡ Local b → a ≡ b
    local_is e = cc

    other : (b : ℕ) → target s ≢ Local b → b ≢ below
    other b ne e = ne (may.leads ∙ ap Local (sym e))

-- a slot that leads nowhere
pub all_slot : {old mid new : List PlainBlock} {at i : ℕ} {s : Slot} → Takes (slot_of (block_at old at) i) s old mid → ((b : ℕ) → target s ≢ Local b) → Updates at (record (block_at mid at) { slots = set ((block_at mid at).slots) i s }) mid new → slot_of (block_at new at) i ≡ s → PutAll at i s old new
all_slot {old} {mid} {new} {at} {i} {s} take nowhere up here = record {
  as_long = up.as_long ∙ take.as_long;
  puts = record {
    bytes = λ b. part (λ (z : PlainBlock). z.bytes) refl b ∙ ap (λ (z : PlainBlock). z.bytes) (take.same b);
    here = here;
    others = λ b j ne. slots b j ne ∙ ap (λ (z : PlainBlock). slot_of z j) (take.same b);
  };
  labels = λ b. (part (λ (z : PlainBlock). z.place.kind) refl b ∙ ap (λ (z : PlainBlock). z.place.kind) (take.same b), part (λ (z : PlainBlock). z.place.tag) refl b ∙ ap (λ (z : PlainBlock). z.place.tag) (take.same b), part (λ (z : PlainBlock). z.epoch) refl b ∙ ap (λ (z : PlainBlock). z.epoch) (take.same b), part (λ (z : PlainBlock). z.kept) refl b ∙ ap (λ (z : PlainBlock). z.kept) (take.same b));
  other = nowhere at;
  here = λ b e. absurd (nowhere b e);
  places = λ b ne. (part (λ (z : PlainBlock). z.place) refl b ∙ place_kept take b, part (λ (z : PlainBlock). z.apart) refl b ∙ ap (λ (z : PlainBlock). z.apart) (take.same b));
  origins = λ b na ne. part (λ (z : PlainBlock). z.origin) refl b ∙ ap (λ (z : PlainBlock). z.origin) (take.same b);
  top = inl (record { origin = part (λ (z : PlainBlock). z.origin) refl at ∙ ap (λ (z : PlainBlock). z.origin) (take.same at); none = λ b e. absurd (nowhere b e) });
  marks = marks_by take new (part (λ (z : PlainBlock). z.taken) refl);
  retired = λ b. part (λ (z : PlainBlock). z.retired) refl b ∙ ap (λ (z : PlainBlock). z.retired) (take.same b);
}
  where
    part : {X : Type 0} (f : PlainBlock → X) → f (record (block_at mid at) { slots = set ((block_at mid at).slots) i s }) ≡ f (block_at mid at) → (b : ℕ) → f (block_at new b) ≡ f (block_at mid b)
    part f same b = ⊎_elim
        (λ e. subst (λ z. f (block_at new z) ≡ f (block_at mid z)) (sym e) (ap f up.here ∙ same))
        (λ ne. ap f (up.others b ne))
        (cases_eq b at)

    slots : (b j : ℕ) → (b ≢ at) ⊎ (j ≢ i) → slot_of (block_at new b) j ≡ slot_of (block_at mid b) j
    slots b j h = ⊎_elim
        (λ e. subst (λ z. slot_of (block_at new z) j ≡ slot_of (block_at mid z) j) (sym e)
        (ap (λ (z : PlainBlock). slot_of z j) up.here ∙ get_or-set_other ((block_at mid at).slots) i j s (To Nil) (⊎_elim (λ na. absurd (na e)) (λ nj. nj) h)))
        (λ ne. ap (λ (z : PlainBlock). slot_of z j) (up.others b ne))
        (cases_eq b at)
