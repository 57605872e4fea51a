-- A root block is marked as one to be closed alone.
use Rattle.std.proofs.Common.{◌≡◌, ◌≢◌, ◌⊎◌, inl, inr, ⊎_elim, ℕ, ◌+◌, ◌*◌, ◌<◌, true, List, [], ◌∷◌, refl, sym, ◌∙◌, ap, subst, arith}
use Rattle.std.proofs.lemmas.Bool.{cases_eq}
use Rattle.fo_image.specs.declared.types.Kind.TheVariants.{Root}
use Rattle.fo_image.specs.declared.types.State.TheVariants.{Live}
use Rattle.fo_image.specs.declared.types.Pointer.{Pointer}
use Rattle.fo_image.specs.declared.types.Pointer.TheVariants.{Nil, Local, Score as Held}
use Rattle.fo_crash.specs.declared.slot.Slot.{Slot}
use Rattle.fo_crash.specs.declared.place.Place.{Place}
use Rattle.fo_crash.specs.Images.{SameImage, Reaches, target, local, walk, to_block}
use Rattle.fo_crash.proofs.Reach.{lost, same_walk}
use Rattle.fo_ports.specs.Blocks.{IsFormed}
use Rattle.fo_ports.specs.State.{Frame, none}
use Rattle.fo_ports_plain.specs.declared.block.PlainBlock.{PlainBlock}
use Rattle.fo_ports_plain.specs.declared.wait.Wait.{Wait}
use Rattle.fo_ports_plain.specs.Plain.{block_at, slot_of, memory, is_active, wait_at, label_at, Covered, Updates}
use Rattle.fo_ports_plain.specs.Sound.{Linked, Sound, Well, home_of}
use Rattle.fo_ports_plain.specs.Meaning.{Plain, state_of, PlainKeeps}
use Rattle.fo_ports_plain.specs.Laws.{label_kind, super_root}
use Rattle.fo_ports_plain.proofs.Lists.{part_kept}
use Rattle.fo_ports_plain.proofs.Still.{alike_by, slots_still, still_sound}
use Rattle.fo_ports_plain.proofs.Frames.{label_same}
use Rattle.fo_ports_plain.proofs.Comes.{never_root, live_made}

-- ---- block 1 leads to its root block alone

-- block 1, its root block, or one that is no root block
abbrev IsBelow : List PlainBlock → ℕ → ℕ → Type 0
IsBelow blocks root b = (b ≡ 1) ⊎ ((1 < b) × ((b ≡ root) ⊎ ((block_at blocks b).place.kind ≢ Root)))

module _ {blocks : List PlainBlock} {made high root : ℕ} (sound : Sound blocks made high root) where
  below : (a i b : ℕ) → IsBelow blocks root a → target (slot_of (block_at blocks a) i) ≡ Local b → IsBelow blocks root b
  below a i b is e = inr (
    l.past,
    ⊎_elim
        (λ one. ⊎_elim (λ first. inl (leads_root one first)) (λ ne. absurd (sound.super_at.others i b ne (ap (λ x. target (slot_of (block_at blocks x) i)) (sym one) ∙ e))) (cases_eq i 0))
        (λ h. inr (λ kind. never_root (block_at blocks a).place (block_at blocks a).place.kind i (slot_of (block_at blocks a) i) b l.few (sound.spelled a h.0 i l.few) e (sym (ap (λ (q : Place). q.kind) l.place) ∙ kind)))
        is,
  )
    where
      l : Linked made a i b (block_at blocks a) (block_at blocks b) (home_of blocks (block_at blocks b).source)
      l = sound.links a i b e

      leads_root : a ≡ 1 → i ≡ 0 → b ≡ root
      leads_root one first =
          let way : target (slot_of (block_at blocks 1) 0) ≡ Local root = ap target (super_root root (slot_of (block_at blocks 1) 0) sound.super_at.way) in
          let own : Local b ≡ Local root = sym e ∙ ap (λ x. target (slot_of (block_at blocks x) i)) one ∙ ap (λ x. target (slot_of (block_at blocks 1) x)) first ∙ way in
          cc

  along : (path : List ℕ) (u : Slot) (a at : ℕ) → target u ≡ Local a → IsBelow blocks root a → target (walk (memory blocks) u path) ≡ Local at → IsBelow blocks root at
  along [] u a at to is e = let both : Local a ≡ Local at = sym to ∙ e in subst (IsBelow blocks root) (cc) is
  along (i ∷ path) u a at to is e = one (target next) refl (λ c q x. along path next c at q x e)
    where
      next : Slot
      next = (local (memory blocks) (target u)).slot i

      next_is : next ≡ slot_of (block_at blocks a) i
      next_is = ap (λ x. (local (memory blocks) x).slot i) to

      one : (x : Pointer) → target next ≡ x → ((c : ℕ) → target next ≡ Local c → IsBelow blocks root c → IsBelow blocks root at) → IsBelow blocks root at
      one Nil q on = absurd (lost (memory blocks) path next (λ c h. let x : Nil ≡ Local c = sym q ∙ h in cc) at e)
      one (Held x) q on = absurd (lost (memory blocks) path next (λ c h. let y : Held x ≡ Local c = sym q ∙ h in cc) at e)
      one (Local c) q on = on c q (below a i c is (ap target (sym next_is) ∙ q))

  pub never_reached : (at : ℕ) → 1 < at → (block_at blocks at).place.kind ≡ Root → root ≢ at → Reaches (memory blocks) (to_block 1) at → ⊥
  never_reached at past kind other r = ⊎_elim
      (λ one. omega (arith, past, one))
      (λ h. ⊎_elim (λ e. other (sym e)) (λ ne. ne kind) h.1)
      (along r.path (to_block 1) 1 at refl (inl refl) r.leads)

-- ---- all that is kept of blocks

pub retired_well : {old new : List PlainBlock} {made high root at was queued : ℕ} {waits : List Wait} → at < made → 0 < queued → Updates at (record (block_at old at) { retired = true }) old new → Well old made high root waits was → Well new made high root waits queued
retired_well {old} {new} {made} {high} {root} {at} {was} {queued} {waits} lt some up well = record {
  sound = still_sound (slots_still
      (alike_by up (record { place = refl; epoch = refl; apart = refl; origin = refl; source = refl; home = refl; kept = refl }))
      slots
      (λ b le. part_kept (λ (z : PlainBlock). z.taken) up refl b)
      (λ b le. ap (λ (z : PlainBlock). z.retired) (up.others b (λ e. omega (arith, lt, le, e))))
      well.sound) well.sound;
  formed = λ b past small.
      subst (λ (z : Place). ∥ IsFormed z.kind z.rank (block_at new b).bytes ∥₁) (sym (part_kept (λ (z : PlainBlock). z.place) up refl b))
      (subst (λ z. ∥ IsFormed (block_at old b).place.kind (block_at old b).place.rank z ∥₁) (sym (part_kept (λ (z : PlainBlock). z.bytes) up refl b)) (well.formed b past small));
  waiting = λ n k small is.
      let w = well.waiting n k small is in
      record { was_made = w.was_made; entries = part_kept (λ (z : PlainBlock). z.place.kind) up refl (wait_at waits n).on ∙ w.entries; used = ap is_active (slots (wait_at waits n).on (2 * k)) ∙ w.used };
  queue = λ none. absurd (omega (arith, none, some));
}
  where
    slots : (b j : ℕ) → slot_of (block_at new b) j ≡ slot_of (block_at old b) j
    slots b j = part_kept (λ (z : PlainBlock). slot_of z j) up refl b

-- ---- what the calls see

module _ (p : Plain) {new : List PlainBlock} {at : ℕ} (up : Updates at (record (block_at p.blocks at) { retired = true }) p.blocks new) where
  slots_kept : (b j : ℕ) → slot_of (block_at new b) j ≡ slot_of (block_at p.blocks b) j
  slots_kept b j = part_kept (λ (z : PlainBlock). slot_of z j) up refl b

  pub retired_now : SameImage (memory new) (memory p.blocks)
  retired_now = record { each = λ b. record { bytes = part_kept (λ (z : PlainBlock). z.bytes) up refl b; slots = slots_kept b } }

  reach : {t b : ℕ} → Reaches (memory p.blocks) (to_block t) b → Reaches (memory new) (to_block t) b
  reach {t} {b} r = record { path = r.path; leads = ap target (same_walk (memory new) (memory p.blocks) slots_kept r.path (to_block t)) ∙ r.leads }

  back : {t b : ℕ} → Reaches (memory new) (to_block t) b → Reaches (memory p.blocks) (to_block t) b
  back {t} {b} r = record { path = r.path; leads = ap target (same_walk (memory p.blocks) (memory new) (λ a i. sym (slots_kept a i)) r.path (to_block t)) ∙ r.leads }

  pub retired_frame : (room queued : ℕ) → room + 1 ≡ p.room → Frame none none 1 (state_of p) (state_of (record p { blocks = new; room = room; queued = queued }))
  retired_frame room queued spent = record {
    stays = record {
      labels = λ b _. label_same p.blocks new p.made b (part_kept (λ (z : PlainBlock). z.place.kind) up refl b) (part_kept (λ (z : PlainBlock). z.place.tag) up refl b) (part_kept (λ (z : PlainBlock). z.epoch) up refl b);
      marks = λ b _. (λ h. h, λ h. h, λ h. h);
      places = λ t b x _ _ _ _ st. record { above = st.above; was_made = st.was_made; is = part_kept (λ (z : PlainBlock). z.place) up refl b ∙ st.is };
      rooted = λ t b _ r. (
        r.0,
        ⊎_elim
            (λ top. inl (⊎_elim (λ e. inl e) (λ is. inr (sym (part_kept (λ (z : PlainBlock). z.kept) up refl r.0) ∙ is)) top))
            (λ is. inr (sym (part_kept (λ (z : PlainBlock). z.apart) up refl r.0) ∙ is))
            r.1,
        back r.2,
      );
      newborn = λ b _ h. h;
      apart = λ b _ _. (λ h. sym (part_kept (λ (z : PlainBlock). z.apart) up refl b) ∙ h, λ h. part_kept (λ (z : PlainBlock). z.apart) up refl b ∙ h);
      instead = λ b x _ _. (
        λ h. record { apart = sym (part_kept (λ (z : PlainBlock). z.apart) up refl b) ∙ h.apart; origin = sym (part_kept (λ (z : PlainBlock). z.origin) up refl b) ∙ h.origin; some = h.some },
        λ h. record { apart = part_kept (λ (z : PlainBlock). z.apart) up refl b ∙ h.apart; origin = part_kept (λ (z : PlainBlock). z.origin) up refl b ∙ h.origin; some = h.some },
      );
      waits = λ a on j _ _ _ w. w;
    };
    dirty = λ b h. absurd h;
    uses = record { spare = omega arith; usable = let long = up.as_long in omega (arith, long); room = spent; pins = refl; moments = refl; left = λ k image h. h };
    numbers = record { next = refl; grants = λ h. h };
  }

  taken : (b : ℕ) → (block_at new b).taken ≡ (block_at p.blocks b).taken
  taken b = part_kept (λ (z : PlainBlock). z.taken) up refl b

  still : (b : ℕ) → Covered p.blocks b → Covered new b
  still b = ⊎_elim
      (λ c. inl (record { top = c.top; taken = taken c.top ∙ c.taken; below = reach c.below; gone = λ r. c.gone (back r) }))
      (λ c. inr (record {
        is = ⊎_elim (λ e. ap (λ x. (block_at new x).retired) e ∙ ap (λ (z : PlainBlock). z.retired) up.here) (λ ne. ap (λ (z : PlainBlock). z.retired) (up.others b ne) ∙ c.is) (cases_eq b at);
        gone = λ r. c.gone (back r);
      }))

  only : (b : ℕ) → Covered new b → Covered p.blocks b ⊎ (b ≡ at)
  only b = ⊎_elim
      (λ c. inl (inl (record { top = c.top; taken = sym (taken c.top) ∙ c.taken; below = back c.below; gone = λ r. c.gone (reach r) })))
      (λ c. ⊎_elim
      (λ e. inr e)
      (λ ne. inl (inr (record { is = sym (ap (λ (z : PlainBlock). z.retired) (up.others b ne)) ∙ c.is; gone = λ r. c.gone (reach r) })))
      (cases_eq b at))

  -- a root block that block 1 doesn't name is to be closed, and no other is beside those of before
  pub retired_covers : Sound p.blocks p.made p.high p.root → (label_at p.blocks p.made at).state ≡ Live → (label_at p.blocks p.made at).kind ≡ Root → p.root ≢ at → Covered new at × ((b : ℕ) → (Covered p.blocks b → Covered new b) × (Covered new b → Covered p.blocks b ⊎ (b ≡ at)))
  retired_covers sound live kind other = (
    inr (record { is = ap (λ (z : PlainBlock). z.retired) up.here; gone = λ r. never_reached sound at (live_made p.blocks p.made at live).0 (sym (label_kind p.blocks p.made at).0 ∙ kind) other (back r) }),
    λ b. (still b, only b),
  )

pub retired_keeps : (p : Plain) (new : List PlainBlock) (room queued : ℕ) {at : ℕ} → Updates at (record (block_at p.blocks at) { retired = true }) p.blocks new → PlainKeeps p (record p { blocks = new; room = room; queued = queued })
retired_keeps p new room queued up = record {
  as_long = up.as_long;
  held = refl;
  high = refl;
  root = refl;
  tops = λ t. part_kept (λ (z : PlainBlock). z.kept) up refl t;
}
