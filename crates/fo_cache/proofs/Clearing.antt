-- What calls on blocks see of a slot that waited, and was cleared.
use Rattle.std.proofs.Common.{◌≡◌, ◌≢◌, ◌⊎◌, ◌↔◌, inl, inr, ⊎_elim, ℕ, ◌/◌, ◌<◌, Bool, List, length, sym, ap, ◌∙◌, subst, arith}
use Rattle.std.proofs.lemmas.Bool.{cases_eq}
use Rattle.fo_image.specs.declared.types.Pointer.TheVariants.{Local}
use Rattle.fo_crash.specs.declared.slot.Slot.{Slot}
use Rattle.fo_crash.specs.Images.{target}
use Rattle.fo_crash.specs.Steps.{cleared}
use Rattle.fo_buffers.specs.Held.{held_at}
use Rattle.fo_ports.specs.State.{KeepsSlot, MayRemove, Rests, StaysKnown, WasCleared}
use Rattle.fo_facts.specs.declared.fact.Fact.{Fact}
use Rattle.fo_mind.specs.of_waits.declared.listed.Clearing.{Clearing}
use Rattle.fo_mind.specs.of_waits.declared.listed.Wait.{Wait}
use Rattle.fo_mind.specs.of_waits.Ended.{TakesOut}
use Rattle.fo_mind.specs.of_waits.Listed.{Awaits, Clears}
use Rattle.fo_mind.specs.Due.{ClearedDue}
use Rattle.fo_mind.specs.Frames.{SameMarks}
use Rattle.fo_mind.specs.Laws.{some_held}
use Rattle.fo_mind.specs.Parts.{IsBlock, IsHeld, Parts, Removes, memory, state_of}
use Rattle.fo_mind.specs.Sound.{Holding, Placed}
use Rattle.fo_mind.proofs.Cleared.{cleared_nowhere}
use Rattle.fo_put.proofs.Placing.{SlotResult, slot_result}
use Rattle.fo_cache.specs.Easing.{Eases}

-- the state before the slot is put
pub recalled_is : {p s : Parts} {at i : ℕ} (z : ClearedDue at i p s) → z.recalled ≡ record p { waits = z.unwaited.waits; clears = z.recalled.clears; facts = z.recalled.facts; room = z.recalled.room }
recalled_is z = z.recalls.rest ∙ ap (λ (y : Parts). record y { clears = z.recalled.clears; facts = z.recalled.facts; room = z.recalled.room }) z.ended.rest

pub recalled_marks : {p s : Parts} {at i : ℕ} (z : ClearedDue at i p s) → SameMarks p.facts z.recalled.facts
recalled_marks z = subst (λ (fs : List Fact). SameMarks fs z.recalled.facts) (ap (λ (y : Parts). y.facts) z.ended.rest) z.recalls.marks

pub placed_recalled : {p s : Parts} {first count at i : ℕ} → Placed p.region p.turns p.facts first count → (z : ClearedDue at i p s) → Placed z.recalled.region z.recalled.turns z.recalled.facts first count
placed_recalled {p} {s} {first} {count} placed z =
    let m = recalled_marks z in
    subst (λ (y : Parts). Placed y.region y.turns z.recalled.facts first count) (sym (recalled_is z)) (record {
      is_first = placed.is_first;
      is_count = placed.is_count;
      is_place = placed.is_place;
      begins = placed.begins;
      small = placed.small;
      flag_count = placed.flag_count;
      fact_count = m.as_long ∙ placed.fact_count;
    })

module _ (p s : Parts) (first count at i : ℕ) (placed : Placed p.region p.turns p.facts first count) (holding : Holding p.one.low first count p.region p.held) (some : IsHeld p.held at)
    (waits : Clears p.clears at i) (z : ClearedDue at i p s) where
  abbrev R : Parts
  R = record p { waits = z.unwaited.waits; clears = z.recalled.clears; facts = z.recalled.facts; room = z.recalled.room }

  abbrev slot : Slot
  slot = cleared ((memory p at).slot i)

  nowhere : (b : ℕ) → target slot ≡ Local b → ⊥
  nowhere b to = cleared_nowhere ((memory p at).slot i) b to

  result : SlotResult at i 1 (cleared ((memory p at).slot i)) R s
  result = subst (λ (y : Parts). SlotResult at i 1 (cleared ((memory p at).slot i)) y s) (recalled_is z)
      (slot_result (placed_recalled placed z)
      (subst (λ (y : Parts). Holding y.one.low first count y.region y.held) (sym (recalled_is z)) holding)
      (subst (λ (y : Parts). IsHeld y.held at) (sym (recalled_is z)) some)
      (λ b to. absurd (nowhere b to)) z.slotted)

  marks : SameMarks p.facts z.recalled.facts
  marks = recalled_marks z

  out : TakesOut at i p.clears z.recalled.clears
  out = subst (λ (cs : List Clearing). TakesOut at i cs z.recalled.clears) (ap (λ (y : Parts). y.clears) z.ended.rest) z.recalls.out

  not_put : (b : ℕ) → b ≢ at → (b ≡ at) ⊎ (target slot ≡ Local b) → ⊥
  not_put b ne h = ⊎_elim ne (nowhere b) h

  same_apart : (b : ℕ) → (state_of s).apart b ↔ (state_of R).apart b
  same_apart b = ⊎_elim
      (λ e. subst (λ n. (state_of s).apart n ↔ (state_of R).apart n) (sym e) (result.hangs.at_apart (nowhere at)))
      (λ ne. result.frame.stays.apart b (λ none. none) (not_put b ne))
      (cases_eq b at)

  same_instead : (b x : ℕ) → (state_of s).instead b x ↔ (state_of R).instead b x
  same_instead b x = ⊎_elim
      (λ e. subst (λ n. (state_of s).instead n x ↔ (state_of R).instead n x) (sym e)
      (λ h. ⊎_elim (λ old. old) (λ o. absurd (nowhere o.1.0 o.1.1)) (result.hangs.raised x h), λ h. result.hangs.still x h))
      (λ ne. result.frame.stays.instead b x (λ none. none) (not_put b ne))
      (cases_eq b at)

  goes_on : (b j : ℕ) → ((b ≡ at) × (j ≡ i) → ⊥) → Clears p.clears b j → Clears s.clears b j
  goes_on b j other h = subst (λ (cs : List Clearing). Clears cs b j) (sym result.clears) (⊎_elim (λ e. absurd (other e)) (λ c. c) (out.still b j h))

  was_cleared : WasCleared (state_of p) (state_of s) at i
  was_cleared = (waits, λ h. out.over (subst (λ (cs : List Clearing). Clears cs at i) result.clears h), result.now.here)

  keeps_slot : (b j : ℕ) → KeepsSlot (state_of p) (state_of s) b j
  keeps_slot b j = ⊎_elim
      (λ e. ⊎_elim
      (λ f. inr (subst (λ n. WasCleared (state_of p) (state_of s) n j) (sym e) (subst (λ k. WasCleared (state_of p) (state_of s) at k) (sym f) was_cleared)))
      (λ ne. inl (result.now.others b j (inr ne), goes_on b j (λ h. ne h.1)))
      (cases_eq j i))
      (λ ne. inl (result.now.others b j (inl ne), goes_on b j (λ h. ne h.0)))
      (cases_eq b at)

  known_due : (b : ℕ) → StaysKnown (state_of p) (state_of s) b
  known_due b = record { bytes = result.now.bytes b; slots = keeps_slot b }

  -- what is queued with it is what the slot led to
  removes_due : (b e : ℕ) (whole : Bool) → Removes s.removals b e whole → MayRemove (state_of p) b e whole
  removes_due b e whole h = ⊎_elim
      (λ c. inl (h.0, c, h.2, h.3, h.4))
      (λ o. inr (at, i, here, waits, o.0 ∙ ap Local h.2, sym h.3 ∙ o.1))
      (result.whole nowhere h.0 h.1)
    where
      here : IsBlock p at
      here =
          let x = some_held (held_at p.held at) some in
          let b = holding.block at x.0 x.1 in
          let lo = b.0 in
          let hi = b.1 in
          let f = placed.is_first in
          let n = placed.is_count in
          (omega (arith, lo, f), omega (arith, hi, n))

  rests_due : Rests (state_of p) (state_of s)
  rests_due = record {
    blocks = λ tells. absurd tells;
    images = record { each = λ image h. absurd h };
    passes = record { later = omega arith; before = λ n image le h. h; within = λ n image lo hi h. absurd h };
    fills = λ tells. absurd tells;
    order = λ b j h. out.only b j (subst (λ (cs : List Clearing). Clears cs b j) result.clears h);
    no_wait = record { each = λ a on j none w. z.ended.ends.only a on (j / 2) (subst (λ (l : List Wait). Awaits l a on j) result.waits w) };
    dirty = λ b d. ⊎_elim (λ old. inl old) (λ e. inr (inl (i, subst (λ n. Clears p.clears n i) (sym e) waits, subst (λ n. Clears s.clears n i → ⊥) (sym e) was_cleared.1))) (result.frame.dirty b d);
    closes = λ tells. absurd tells;
    leaves = λ tells. absurd tells;
    apart = λ b. (λ h. sym (marks.apart b) ∙ (same_apart b).0 h, λ h. (same_apart b).1 (marks.apart b ∙ h));
    instead = λ b x. (
      λ h. let o = (same_instead b x).0 h in (sym (marks.apart b) ∙ o.0, sym (marks.origin b) ∙ o.1),
      λ h. (same_instead b x).1 (marks.apart b ∙ h.0, marks.origin b ∙ h.1),
    );
    newborn = λ b h. sym (marks.linked b) ∙ result.frame.stays.newborn b (λ none. none) h;
    newborns = λ b h. result.calm nowhere b (marks.linked b ∙ h);
    removes = removes_due;
    kept = λ b is was now. known_due b;
    labels = λ b. inl (result.frame.stays.labels b (λ none. none));
    queues = λ more. inr (at, i, waits);
    usable = let e = result.frame.uses.usable in omega (arith, e);
    settled = λ was. absurd (was.cleared at i waits);
    numbers = record { next = result.frame.numbers.next; grants = result.frame.numbers.grants };
  }

  pub eases_due : Eases p s
  eases_due = record {
    rests = rests_due;
    known = λ b pinned. known_due b;
    blocks = λ b. (
      result.frame.stays.labels b (λ none. none),
      λ h. (result.frame.stays.marks b (λ none. none)).0 h,
      λ h. (result.frame.stays.marks b (λ none. none)).1 (marks.sealed b ∙ h),
    );
    room =
        let u = result.frame.uses in
        let a = u.spare in
        let c = u.room in
        let d = z.recalls.room in
        let e = ap (λ (y : Parts). y.room) z.ended.rest in
        (omega (arith, a), u.pins, omega (arith, c, d, e));
    queued = result.queues.more;
    keeps = record { first = result.keeps.first; count = result.keeps.count; high = result.keeps.high; low = result.keeps.low; root = result.keeps.root; faults = result.keeps.faults };
  }

  pub fewer_due : length s.clears < length p.clears
  fewer_due = let f = out.fewer waits in let e = ap length result.clears in omega (arith, f, e)
