-- What turns leave of memory, in the words of calls on blocks.
use Rattle.std.proofs.Common.{◌≡◌, inl, inr, ⊎_elim, ℕ, ◌≤◌, ◌<◌, Bool, true, false, cond, nat_eq, List, [], Option, Some, None, refl, sym, ap, ◌∙◌, subst, arith}
use Rattle.std.specs.Map.{lookup}
use Rattle.std.specs.Option.{option_map, option_map_or}
use Rattle.std.proofs.lemmas.Bool.{cases_lt, le-ltb, lt-ltb}
use Rattle.fo_disk.specs.Disk.{DiskState, latest_of, versions_of}
use Rattle.fo_image.specs.declared.types.Kind.{Kind}
use Rattle.fo_image.specs.declared.types.Kind.TheVariants.{Data}
use Rattle.fo_image.specs.declared.types.Pointer.TheVariants.{Nil}
use Rattle.fo_image.specs.Usable.{free_label}
use Rattle.fo_crash.specs.declared.slot.Slot.TheVariants.{Pointer as To}
use Rattle.fo_crash.specs.Images.{Content}
use Rattle.fo_buffers.specs.declared.block.Buffer.{Buffer}
use Rattle.fo_buffers.specs.Held.{held_at, is_pinned, settled}
use Rattle.fo_labels.specs.Region.{label_of}
use Rattle.fo_ports.specs.State.{Rests, StaysKnown}
use Rattle.fo_buffers.specs.of_slots.Read.{read, slot_at, slot_bytes, slot_from}
use Rattle.fo_facts.specs.declared.fact.Fact.{Fact}
use Rattle.fo_facts.specs.Known.{fact_at}
use Rattle.fo_mind.specs.Parts.{CacheKeeps, IsBlock, IsDirty, IsPinned, Parts, bytes_at, bytes_of, label_at, memory, one_content, state_of}
use Rattle.fo_cache.specs.Settling.{Settles}

never : {A : Type 0} → false ≡ true → A
never e = cc

-- a block has its pin and its bytes, changed or not
pins : (o : Option Buffer) → option_map_or is_pinned (option_map settled o) false ≡ option_map_or is_pinned o false
pins (Some x) = refl
pins None = refl

pinned_block : (o n : Option Buffer) (c d : Option (List ℕ)) (l m : List ℕ) → option_map settled n ≡ option_map settled o → option_map_or is_pinned o false ≡ true → bytes_of n c l ≡ bytes_of o d m
pinned_block (Some x) (Some y) c d l m e h = ap (λ (o : Option Buffer). option_map_or (λ (z : Buffer). z.block) o []) e
pinned_block (Some x) None c d l m e h = absurd (cc)
pinned_block None n c d l m e h = never h

no_slot : (i : ℕ) (bytes : List ℕ) → slot_at (Data 0) bytes i ≡ To Nil
no_slot i bytes = ap (λ x. cond x (slot_from (Data 0) i (slot_bytes (Data 0) i bytes)) (To Nil)) (le-ltb i 0 (omega arith))

module _ (s t : DiskState) (p q : Parts) (f g : ℕ) (k : Settles s t p q) where
  abbrev P : Parts
  P = record p { disk = s.holds; faults = f }

  abbrev Q : Parts
  Q = record p { held = q.held; turns = q.turns; facts = q.facts; disk = t.holds; faults = g }

  same_slots : (b i : ℕ) → (memory Q b).slot i ≡ (memory P b).slot i
  same_slots b i = by (nat_eq b 1)
    where
      kind : b < p.region.first → (label_at p.region b).kind ≡ Data 0
      kind lt = ap (λ x. (cond x free_label (label_of p.region b)).kind) (lt-ltb b p.region.first lt)

      none : b < p.region.first → (bytes : List ℕ) → slot_at (label_at p.region b).kind bytes i ≡ To Nil
      none lt bytes = ap (λ (x : Kind). slot_at x bytes i) (kind lt) ∙ no_slot i bytes

      content : (read (label_at p.region b).kind (bytes_at q.held t.holds b)).slot i ≡ (read (label_at p.region b).kind (bytes_at p.held s.holds b)).slot i
      content = ⊎_elim
          (λ lt. none lt (bytes_at q.held t.holds b) ∙ sym (none lt (bytes_at p.held s.holds b)))
          (λ le. ap (λ (bytes : List ℕ). slot_at (label_at p.region b).kind bytes i) (k.bytes b le))
          (cases_lt b p.region.first)

      by : (c : Bool) → (cond c (one_content p.one p.one_bytes) (read (label_at p.region b).kind (bytes_at q.held t.holds b))).slot i ≡ (cond c (one_content p.one p.one_bytes) (read (label_at p.region b).kind (bytes_at p.held s.holds b))).slot i
      by true = refl
      by false = content

  still_pinned : (b : ℕ) → IsPinned p.held b → IsPinned q.held b
  still_pinned b pinned = sym (pins (held_at q.held b)) ∙ ap (λ (o : Option Buffer). option_map_or is_pinned o false) (k.held b) ∙ pins (held_at p.held b) ∙ pinned

  same_memory : (b : ℕ) → IsPinned p.held b → memory Q b ≡ memory P b
  same_memory b pinned = ap (λ (bytes : List ℕ). cond (nat_eq b 1) (one_content p.one p.one_bytes) (read (label_at p.region b).kind bytes))
      (pinned_block (held_at p.held b) (held_at q.held b) (lookup (nat_eq b) q.held.clean) (lookup (nat_eq b) p.held.clean) (latest_of (versions_of t.holds b)) (latest_of (versions_of s.holds b)) (k.held b) pinned)

  dirty_was : (b : ℕ) → IsDirty q.turns q.held b → IsDirty p.turns p.held b
  dirty_was b d = ⊎_elim (λ turn. inl (k.turn b turn)) (λ changed. inr (k.changed b changed)) d

  apart_same : (b : ℕ) → (fact_at q.facts b).apart ≡ (fact_at p.facts b).apart
  apart_same b = ap (λ (x : Fact). x.apart) (k.lasts b)

  origin_same : (b : ℕ) → (fact_at q.facts b).origin ≡ (fact_at p.facts b).origin
  origin_same b = ap (λ (x : Fact). x.origin) (k.lasts b)

  linked_same : (b : ℕ) → (fact_at q.facts b).linked ≡ (fact_at p.facts b).linked
  linked_same b = ap (λ (x : Fact). x.linked) (k.lasts b)

  -- a data block is what memory had
  block_known : (b : ℕ) → IsBlock p b → StaysKnown (state_of P) (state_of Q) b
  block_known b is =
      let same : memory Q b ≡ memory P b = ap (λ (bytes : List ℕ). cond (nat_eq b 1) (one_content p.one p.one_bytes) (read (label_at p.region b).kind bytes)) (k.bytes b is.0) in
      record { bytes = ap (λ (c : Content). c.bytes) same; slots = λ j. inl (ap (λ (c : Content). c.slot j) same, λ h. h) }

  rests_alike : Rests (state_of P) (state_of Q)
  rests_alike = record {
    blocks = λ tells. absurd tells;
    images = record { each = λ image h. absurd h };
    passes = record { later = omega arith; before = λ n image le h. h; within = λ n image lo hi h. absurd h };
    fills = λ tells. absurd tells;
    order = λ b j h. h;
    no_wait = record { each = λ a on j out w. w };
    dirty = λ b d. inl (dirty_was b d);
    closes = λ tells. absurd tells;
    leaves = λ tells. absurd tells;
    apart = λ b. (λ h. sym (apart_same b) ∙ h, λ h. apart_same b ∙ h);
    instead = λ b x. (λ h. (sym (apart_same b) ∙ h.0, sym (origin_same b) ∙ h.1), λ h. (apart_same b ∙ h.0, origin_same b ∙ h.1));
    newborn = λ b h. sym (linked_same b) ∙ h;
    newborns = λ b h. linked_same b ∙ h;
    kept = λ b is _ _. block_known b is;
    labels = λ b. inl refl;
    removes = λ r e w h. inl h;
    queues = λ some. inl some;
    usable = omega arith;
    settled = λ was. (record { settled = record { each = λ image h. absurd h }; clean = λ b d. (linked_same b ∙ (was.clean b (dirty_was b d)).0, λ tells. absurd tells); empty = was.empty; cleared = was.cleared }, refl);
    numbers = record { next = refl; grants = λ h. h };
  }

  pub rests : Rests (state_of (record p { disk = s.holds; faults = f })) (state_of (record q { disk = t.holds; faults = g }))
  rests = subst (λ (z : Parts). Rests (state_of P) (state_of (record z { disk = t.holds; faults = g }))) (sym k.rest) rests_alike

  pub known : (b : ℕ) → IsPinned p.held b → StaysKnown (state_of (record p { disk = s.holds; faults = f })) (state_of (record q { disk = t.holds; faults = g })) b
  known b pinned = subst (λ (z : Parts). StaysKnown (state_of P) (state_of (record z { disk = t.holds; faults = g })) b) (sym k.rest) (record {
    bytes = ap (λ (c : Content). c.bytes) (same_memory b pinned);
    slots = λ j. inl (same_slots b j, λ h. h);
  })

  pub blocks : (b : ℕ) → (label_at q.region b ≡ label_at p.region b) × (IsPinned p.held b → IsPinned q.held b) × ((fact_at p.facts b).sealed ≡ true → (fact_at q.facts b).sealed ≡ true)
  blocks b = (ap (λ (z : Parts). label_at z.region b) k.rest, still_pinned b, λ h. ap (λ (x : Fact). x.sealed) (k.lasts b) ∙ h)

  pub room_stays : (q.spare ≡ p.spare) × (q.pins ≡ p.pins) × (q.room ≡ p.room)
  room_stays = (ap (λ (z : Parts). z.spare) k.rest, ap (λ (z : Parts). z.pins) k.rest, ap (λ (z : Parts). z.room) k.rest)

  pub keeps : f ≤ g → CacheKeeps (record p { disk = s.holds; faults = f }) (record q { disk = t.holds; faults = g })
  keeps le = subst (λ (z : Parts). CacheKeeps P (record z { disk = t.holds; faults = g })) (sym k.rest) (record { first = refl; count = refl; high = refl; low = refl; root = refl; faults = le })
