-- A slot is cleared, or waits to be.
use Rattle.std.proofs.Common.{◌≡◌, ◌≢◌, ◌⊎◌, inl, inr, ⊎_elim, ℕ, zero, suc, ◌+◌, ◌-◌, ◌*◌, ◌/◌, ◌<◌, List, [], ◌∷◌, ◌++◌, length, refl, sym, ap, ◌∙◌, subst, arith}
use Rattle.fo_image.specs.declared.types.Pointer.{Pointer}
use Rattle.fo_image.specs.declared.types.Pointer.TheVariants.{Nil, Local, Score as Stored}
use Rattle.fo_crash.specs.declared.slot.Slot.{Slot}
use Rattle.fo_crash.specs.Images.{SameImage, target}
use Rattle.fo_crash.specs.Names.{SameUse}
use Rattle.fo_crash.specs.Steps.{PutsSlot, cleared}
use Rattle.fo_mind.specs.of_ports.Blocks.{SlotFits, ends, slot_count}
use Rattle.fo_mind.specs.of_ports.State.{AddsNoWait, AddsRemovals, Frame, Hangs, IsSecondOf, none}
use Rattle.fo_mind.specs.of_waits.declared.listed.Clearing.{Clearing}
use Rattle.fo_mind.specs.of_waits.declared.listed.Wait.{Wait}
use Rattle.fo_mind.specs.of_waits.Ended.{EndsFirst}
use Rattle.fo_mind.specs.of_waits.Listed.{Awaits, Clears, Listed, is_active}
use Rattle.fo_mind.specs.Parts.{Parts, CacheKeeps, IsHeld, IsPinned, label_at, memory, state_of}
use Rattle.fo_mind.specs.Ended.{Delayed}
use Rattle.fo_mind.specs.Laws.{held_pinned}
use Rattle.fo_mind.proofs.Cleared.{cleared_fits, cleared_nowhere}
use Rattle.fo_mind.proofs.Ending.{clears_push}
use Rattle.fo_mind.specs.Slotted.{Slotted}
use Rattle.fo_mind.specs.Sound.{Holding, Placed, Waiting}
use Rattle.fo_mind.proofs.Looking.{same_content}
use Rattle.fo_mind.proofs.Slotting.{fits_old}
use Rattle.fo_put.specs.Queued.{Queues}
use Rattle.fo_put.specs.Removed.{Removed}
use Rattle.fo_put.proofs.Placing.{SlotResult, slot_result}
use Rattle.fo_put.proofs.Using.{cleared_other, used_now}

-- a slot that led to a block leads to none
pub ends_cleared : (s : Slot) (c : ℕ) → target s ≡ Local c → ends (target s) (target (cleared s)) ≡ 1
ends_cleared s c e = subst (λ (q : Pointer). ends q (target (cleared s)) ≡ 1) (sym e) (by (target (cleared s)) refl)
  where
    by : (q : Pointer) → target (cleared s) ≡ q → ends (Local c) q ≡ 1
    by Nil f = refl
    by (Stored score) f = refl
    by (Local x) f = absurd (cleared_nowhere s x f)

-- ---- what calls on blocks see

pub record RemoveResult (at i : ℕ) (p s : Parts) : Type 0 where
  pub now : PutsSlot at i (cleared ((memory p at).slot i)) (memory p) (memory s)
  pub frame : Frame (λ b. b ≡ at) (λ b. b ≡ at) 1 (state_of p) (state_of s)
  pub hangs : Hangs at i (cleared ((memory p at).slot i)) (state_of p) (state_of s)
  pub no_wait : AddsNoWait none (state_of p) (state_of s)
  pub keeps : CacheKeeps p s
  pub queues : Queues ((memory p at).slot i) (cleared ((memory p at).slot i)) (length p.removals) (length s.removals)
  pub removes : AddsRemovals ((memory p at).slot i) (state_of p) (state_of s)
  pub clears : s.clears ≡ p.clears

rest_cases : (r : ℕ) → r < 2 → (r ≡ 0) ⊎ (r ≡ 1)
rest_cases zero lt = inl refl
rest_cases (suc zero) lt = inr refl
rest_cases (suc (suc r)) lt = absurd (omega (arith, lt))

halves : (j : ℕ) → (j ≡ 2 * (j / 2)) ⊎ (j ≡ 2 * (j / 2) + 1)
halves j = ⊎_elim (λ e. inl (omega (arith, e))) (λ e. inr (omega (arith, e))) (rest_cases (j - 2 * (j / 2)) (omega arith))

-- waits go with the first entry of their pair alone, which was in use
module _ (p : Parts) (first count at i : ℕ) (new : List Wait) (placed : Placed p.region p.turns p.facts first count) (holding : Holding p.one.low first count p.region p.held) (waiting : Waiting p.region p.held p.waits) (some : IsHeld p.held at) (ended : EndsFirst at i p.waits new) where
  still_waits : (a on j : ℕ) → (on ≢ at) ⊎ (((j ≢ i) × (IsSecondOf i j → ⊥)) ⊎ SameUse (cleared ((memory p at).slot i)) ((memory p at).slot i)) → Awaits p.waits a on j → Awaits new a on j
  still_waits a on j which w = ⊎_elim (λ left. absurd (by left.0 left.1)) (λ l. l) (ended.still a on (j / 2) w)
    where
      by : on ≡ at → i ≡ 2 * (j / 2) → ⊥
      by e is = ⊎_elim
          (λ other. other e)
          (λ rest. ⊎_elim
          (λ far. ⊎_elim (λ one. far.0 (one ∙ sym is)) (λ two. far.1 (j / 2, is, two)) (halves j))
          (λ same. cleared_other ((memory p at).slot i) same (ap (λ n. is_active ((memory p at).slot n)) is ∙ used_now p first count at a (j / 2) placed holding waiting some (subst (λ n. Listed p.waits a n (j / 2)) e w)))
          rest)
          which

  abbrev mid : Parts
  mid = record p { waits = new }

  removed_at_rest : (s : Parts) → s.waits ≡ new → s.clears ≡ p.clears → SlotResult at i 1 (cleared ((memory p at).slot i)) mid s → RemoveResult at i p s
  removed_at_rest s ws cs r = record {
    now = r.now;
    frame = record {
      stays = record {
        labels = r.frame.stays.labels;
        marks = r.frame.stays.marks;
        places = λ t. absurd t;
        rooted = λ t. absurd t;
        newborn = λ b m h. r.frame.stays.newborn b m h;
        apart = λ b m n. r.frame.stays.apart b m (not_put b n);
        instead = λ b x m n. r.frame.stays.instead b x m (not_put b n);
        waits = λ a on j _ _ ne w. subst (λ (l : List Wait). Awaits l a on j) (sym ws) (still_waits a on j (inl ne) w);
      };
      dirty = r.frame.dirty;
      uses = record { spare = r.frame.uses.spare; usable = r.frame.uses.usable; room = r.frame.uses.room; pins = r.frame.uses.pins; moments = r.frame.uses.moments; left = r.frame.uses.left };
      numbers = record { next = r.frame.numbers.next; grants = r.frame.numbers.grants };
    };
    hangs = record {
      place = λ t. absurd t;
      put = r.hangs.put;
      at_place = λ t. absurd t;
      at_apart = r.hangs.at_apart;
      raised = r.hangs.raised;
      raises = r.hangs.raises;
      still = r.hangs.still;
      waits = λ a on j h w. subst (λ (l : List Wait). Awaits l a on j) (sym ws) (still_waits a on j h w);
    };
    no_wait = record { each = λ a on j _ w. ended.only a on (j / 2) (subst (λ (l : List Wait). Awaits l a on j) ws w) };
    keeps = record { first = r.keeps.first; count = r.keeps.count; high = r.keeps.high; low = r.keeps.low; root = r.keeps.root; faults = r.keeps.faults };
    queues = r.queues;
    removes = record { each = λ b e w h. r.removes.each b e w h };
    clears = cs;
  }
    where
      not_put : (b : ℕ) → (b ≡ at → ⊥) → (b ≡ at) ⊎ (target (cleared ((memory p at).slot i)) ≡ Local b) → ⊥
      not_put b n h = ⊎_elim n (λ e. cleared_nowhere ((memory p at).slot i) b e) h

-- ---- slots that wait

clears_still : (cs : List Clearing) (c : Clearing) (b j : ℕ) → Clears cs b j → Clears (cs ++ c ∷ []) b j
clears_still [] c b j h = absurd h
clears_still (d ∷ cs) c b j h = ⊎_elim (λ here. inl here) (λ rest. inr (clears_still cs c b j rest)) h

clears_last : (cs : List Clearing) (c : Clearing) → Clears (cs ++ c ∷ []) c.at c.slot
clears_last [] c = inl (refl, refl)
clears_last (d ∷ cs) c = inr (clears_last cs c)

pub record DelayResult (at i : ℕ) (p s : Parts) : Type 0 where
  pub now : SameImage (memory s) (memory p)
  pub clearing : Clears s.clears at i
  pub frame : Frame (λ b. b ≡ at) (λ b. b ≡ at) 1 (state_of p) (state_of s)
  pub hangs : Hangs at i (cleared ((memory p at).slot i)) (state_of p) (state_of s)
  pub order : (b j : ℕ) → (Clears s.clears b j → Clears p.clears b j ⊎ ((b ≡ at) × (j ≡ i))) × (Clears p.clears b j → Clears s.clears b j)
  pub no_wait : AddsNoWait none (state_of p) (state_of s)
  pub removes : AddsRemovals ((memory p at).slot i) (state_of p) (state_of s)
  pub keeps : CacheKeeps p s

delayed_at_rest : (p : Parts) (at i after room : ℕ) → room + 1 ≡ p.room → DelayResult at i p (record p { room = room; clears = p.clears ++ (record { at = at; slot = i; after = after }) ∷ [] })
delayed_at_rest p at i after room used = record {
  now = record { each = λ b. same_content refl };
  clearing = clears_last p.clears (record { at = at; slot = i; after = after });
  frame = record {
    stays = record {
      labels = λ b _. refl;
      marks = λ b _. (λ h. h, λ h. h, λ h. h);
      places = λ t. absurd t;
      rooted = λ t. absurd t;
      newborn = λ b _ h. h;
      apart = λ b _ _. (λ h. h, λ h. h);
      instead = λ b x _ _. (λ h. h, λ h. h);
      waits = λ a on j _ _ _ w. w;
    };
    dirty = λ b h. inl h;
    uses = record { spare = omega arith; usable = omega arith; room = used; pins = refl; moments = refl; left = λ k image h. h };
    numbers = record { next = refl; grants = λ h. h };
  };
  hangs = record {
    place = λ t. absurd t;
    put = λ b e. absurd (cleared_nowhere ((memory p at).slot i) b e);
    at_place = λ t. absurd t;
    at_apart = λ _. (λ h. h, λ h. h);
    raised = λ x h. inl h;
    raises = λ b x _ e. absurd (cleared_nowhere ((memory p at).slot i) b e);
    still = λ x h. h;
    waits = λ a on j _ w. w;
  };
  order = λ b j. (
    λ h. ⊎_elim (λ old. inl old) (λ e. inr (sym e.0, sym e.1)) (clears_push p.clears (record { at = at; slot = i; after = after }) b j h),
    clears_still p.clears (record { at = at; slot = i; after = after }) b j,
  );
  no_wait = record { each = λ a on j _ w. w };
  removes = record { each = λ b e w h. inl h };
  keeps = record { first = refl; count = refl; high = refl; low = refl; root = refl; faults = omega arith };
}

pub delay_result : {p s : Parts} {at i after : ℕ} → Delayed at i after p s → DelayResult at i p s
delay_result {p} {s} {at} {i} {after} d = subst (DelayResult at i p) (sym d.rest) (delayed_at_rest p at i after s.room d.room)

-- a slot that was cleared at once
pub remove_result : {p s : Parts} {first count at i : ℕ} → Placed p.region p.turns p.facts first count → Holding p.one.low first count p.region p.held → Waiting p.region p.held p.waits → IsHeld p.held at → Removed at i p s → RemoveResult at i p s
remove_result {p} {s} {first} {count} {at} {i} placed holding waiting some r =
    let e = r.ended in
    let slot = cleared ((memory p at).slot i) in
    let seen : (q : Parts) → q ≡ record p { waits = q.waits } → Slotted at i 1 slot q s → SlotResult at i 1 slot q s = λ q is z. slot_result
    (subst (λ (y : Parts). Placed y.region y.turns y.facts first count) (sym is) placed)
    (subst (λ (y : Parts). Holding y.one.low first count y.region y.held) (sym is) holding)
    (subst (λ (y : Parts). IsHeld y.held at) (sym is) some)
    (λ b to. absurd (cleared_nowhere ((memory p at).slot i) b to))
    z in
    let all = seen r.between e.rest r.slotted in
    removed_at_rest p first count at i r.between.waits placed holding waiting some e.ends s all.waits (all.clears ∙ ap (λ (z : Parts). z.clears) e.rest) (subst (λ (z : Parts). SlotResult at i 1 slot z s) e.rest all)

-- the slot that was there fits, and so does what is left of it
pub cleared_spelled : (p : Parts) (first count at i : ℕ) (slot : Slot) → Placed p.region p.turns p.facts first count → Holding p.one.low first count p.region p.held → IsPinned p.held at → i < slot_count (label_at p.region at).kind → slot ≡ cleared ((memory p at).slot i) → SlotFits (label_at p.region at).kind i slot
cleared_spelled p first count at i slot placed holding pinned lt is = subst (SlotFits (label_at p.region at).kind i) (sym is) (cleared_fits (label_at p.region at).kind i ((memory p at).slot i) (fits_old p first count at i (label_at p.region at).kind ((memory p at).slot i) placed holding (held_pinned p.held at pinned) refl refl lt))
