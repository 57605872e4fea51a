-- A block that is brought into memory changes nothing that calls on blocks see.
use Rattle.std.proofs.Common.{◌≡◌, inl, inr, ⊎_elim, ℕ, true, false, cond, nat_eq, List, length, Option, Some, None, refl, sym, ap, ◌∙◌, subst, arith}
use Rattle.std.specs.Option.{option_map_or}
use Rattle.std.specs.Map.{lookup}
use Rattle.std.proofs.lemmas.Bool.{cases_eq}
use Rattle.fo_disk.specs.Disk.{versions_of, latest_of}
use Rattle.fo_buffers.specs.declared.block.Buffer.{Buffer}
use Rattle.fo_buffers.specs.Held.{Held, held_at, is_dirty, is_pinned}
use Rattle.fo_crash.specs.Images.{Content, SameContent}
use Rattle.fo_slots.specs.Read.{read}
use Rattle.fo_ports.specs.State.{Looks}
use Rattle.fo_mind.specs.Parts.{Parts, state_of, CacheKeeps, IsPinned, IsDirty, bytes_of, bytes_at, label_at, memory, one_content}
use Rattle.fo_mind.specs.Frames.{Brings}
use Rattle.fo_mind.specs.Laws.{pinned_held, held_bytes}

pub same_content : {c d : Content} → c ≡ d → SameContent c d
same_content {c} {d} e = record { bytes = ap (λ (z : Content). z.bytes) e; slots = λ i. ap (λ (z : Content). z.slot i) e }

-- where the bytes of a block stay, so does what memory has of it
pub memory_like : (p : Parts) (h : Held) (b : ℕ) → bytes_at h p.disk b ≡ bytes_at p.held p.disk b → memory (record p { held = h }) b ≡ memory p b
memory_like p h b e = ap (λ (bytes : List ℕ). cond (nat_eq b 1) (one_content p.one p.one_bytes) (read (label_at p.region b).kind bytes)) e

module _ (p q : Parts) (at : ℕ) (b : Brings at p q) where
  -- a pinned block is held with the same bytes, and pinned
  still : (k : ℕ) → IsPinned p.held k → (x : Buffer) × (y : Buffer) × (held_at p.held k ≡ Some x) × (held_at q.held k ≡ Some y) × (y.block ≡ x.block) × (y.pinned ≡ true)
  still k pinned =
      let x = pinned_held (held_at p.held k) pinned in
      ⊎_elim
      (λ (e : k ≡ at).
      let y = b.bytes x.0 (ap (held_at p.held) (sym e) ∙ x.1) in
      (x.0, y.0, x.1, ap (held_at q.held) e ∙ y.1, y.2, y.4 x.2))
      (λ ne. (x.0, x.0, x.1, b.others k ne ∙ x.1, refl, x.2))
      (cases_eq k at)

  pinned_stays : (k : ℕ) → IsPinned p.held k → IsPinned q.held k
  pinned_stays k pinned = let s = still k pinned in ap (λ (o : Option Buffer). option_map_or is_pinned o false) s.3 ∙ s.5

  same_bytes : (k : ℕ) → IsPinned p.held k → bytes_at q.held p.disk k ≡ bytes_at p.held p.disk k
  same_bytes k pinned =
      let s = still k pinned in
      ap (λ (o : Option Buffer). bytes_of o (lookup (nat_eq k) q.held.clean) (latest_of (versions_of p.disk k))) s.3 ∙ s.4 ∙ sym (held_bytes p k s.0 s.2)

  dirty_was : (k : ℕ) → IsDirty p.turns q.held k → IsDirty p.turns p.held k
  dirty_was k d = ⊎_elim
      (λ turn. inl turn)
      (λ held. inr (⊎_elim
      (λ e. subst (λ n. option_map_or is_dirty (held_at p.held n) false ≡ true) (sym e) (here (held_at p.held at) refl (subst (λ n. option_map_or is_dirty (held_at q.held n) false ≡ true) e held)))
      (λ ne. sym (ap (λ (o : Option Buffer). option_map_or is_dirty o false) (b.others k ne)) ∙ held)
      (cases_eq k at)))
      d
    where
      here : (o : Option Buffer) → held_at p.held at ≡ o → option_map_or is_dirty (held_at q.held at) false ≡ true → option_map_or is_dirty o false ≡ true
      here (Some x) is now = let y = b.bytes x is in sym y.3 ∙ sym (ap (λ (o : Option Buffer). option_map_or is_dirty o false) y.1) ∙ now
      here None is now = absurd (clash (sym now ∙ b.clean is))
        where
          clash : true ≡ false → ⊥
          clash h = cc

  at_rest : Looks (state_of p) (state_of (record p { held = q.held; facts = q.facts; pins = q.pins; faults = q.faults }))
  at_rest =
      let m = b.marks in
      record {
        holds = refl;
        memory = λ t. absurd t;
        known = λ k pinned. same_content (memory_like p q.held k (same_bytes k pinned));
        images = record { each = λ image h. absurd h };
        passes = record { later = omega arith; before = λ k image le h. h; within = λ k image lo hi h. absurd h };
        stays = record {
          labels = λ k _. refl;
          marks = λ k _. (pinned_stays k, λ h. m.sealed k ∙ h, λ h. m.fresh k ∙ h);
          places = λ t. absurd t;
          rooted = λ t. absurd t;
          newborn = λ k _ h. sym (m.linked k) ∙ h;
          apart = λ k _ _. (λ h. sym (m.apart k) ∙ h, λ h. m.apart k ∙ h);
          instead = λ k x _ _. (λ h. (sym (m.apart k) ∙ h.0, sym (m.origin k) ∙ h.1), λ h. (m.apart k ∙ h.0, m.origin k ∙ h.1));
          waits = λ a on j _ _ _ w. w;
        };
        order = record { clearing = λ k j h. (λ none. none, h); goes_on = λ k j _ h. h };
        covered = record { covered = λ k. (λ h. h, λ h. h) };
        newborn = λ k h. m.linked k ∙ h;
        no_wait = record { each = λ a on j _ w. w };
        dirty = dirty_was;
        room = (refl, refl);
        usable = (refl, refl);
        no_removal = record { each = λ x e w h. h };
        numbers = record { next = refl; grants = λ h. h };
      }

  pub looks : Looks (state_of p) (state_of q)
  looks = subst (λ (z : Parts). Looks (state_of p) (state_of z)) (sym b.rest) at_rest

  pub keeps : CacheKeeps p q
  keeps = record {
    first = ap (λ (z : Parts). z.region.first) b.rest;
    count = ap (λ (z : Parts). length z.region.labels) b.rest;
    high = ap (λ (z : Parts). z.one.high) b.rest;
    low = ap (λ (z : Parts). z.one.low) b.rest;
    root = ap (λ (z : Parts). z.one.active) b.rest;
    faults = b.faults;
  }
