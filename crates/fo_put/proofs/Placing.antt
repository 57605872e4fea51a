-- What calls on blocks see of a slot that is put.
use Rattle.std.proofs.Common.{◌≡◌, ◌≢◌, ◌⊎◌, inl, inr, ⊎_elim, ℕ, ◌+◌, ◌<◌, ◌++◌, Bool, true, false, cond, nat_eq, List, [], length, Option, Some, None, refl, sym, ap, ◌∙◌, subst, arith}
use Rattle.std.specs.Bool.{OnTrue, OnFalse}
use Rattle.std.specs.List.{Contains}
use Rattle.std.specs.Option.{option_map, option_map_or}
use Rattle.std.specs.Map.{lookup}
use Rattle.std.proofs.lemmas.Bool.{OnTrue_at, OnFalse_at, cases_eq}
use Rattle.std.proofs.lemmas.List.{length-append}
use Rattle.fo_disk.specs.Disk.{versions_of, latest_of}
use Rattle.fo_image.specs.declared.types.Kind.{Kind}
use Rattle.fo_image.specs.declared.types.Pointer.{Pointer}
use Rattle.fo_image.specs.declared.types.Pointer.TheVariants.{Nil, Local, Score as Stored}
use Rattle.fo_mind.specs.of_buffers.declared.block.Buffer.{Buffer}
use Rattle.fo_mind.specs.of_buffers.Held.{Held, block_in, held_at, is_pinned}
use Rattle.fo_order.specs.Keeps.{Turns}
use Rattle.fo_order.specs.Turns.{flag_at}
use Rattle.fo_crash.specs.declared.slot.Slot.{Slot}
use Rattle.fo_crash.specs.Images.{Content, Image, Reaches, target, kind_below}
use Rattle.fo_crash.specs.Steps.{PutsSlot}
use Rattle.fo_mind.specs.of_ports.Blocks.{cost, ends}
use Rattle.fo_mind.specs.of_ports.State.{AddsNoWait, AddsRemovals, Frame, Hangs, IsRaised, KeepsOrder, none}
use Rattle.fo_mind.specs.of_slots.Read.{PutsInto, read}
use Rattle.fo_facts.specs.declared.fact.Fact.{Fact}
use Rattle.fo_facts.specs.Known.{fact_at, origin_over}
use Rattle.fo_mind.specs.of_linking.Joined.{Joins}
use Rattle.fo_mind.specs.of_raising.Raised.{Marked, Raises}
use Rattle.fo_mind.specs.of_takeout.Meeting.{led_at, meeting}
use Rattle.fo_mind.specs.of_takeout.Walking.{Walking, added, answer, given, removals_of}
use Rattle.fo_mind.specs.of_taking.Taken.{begun, met}
use Rattle.fo_mind.specs.of_unlink.declared.removal.Removal.{Removal}
use Rattle.fo_mind.specs.Changes.{Refilled}
use Rattle.fo_mind.specs.Frames.{SameMarks}
use Rattle.fo_mind.specs.Laws.{beyond, held_content, held_pinned}
use Rattle.fo_mind.specs.Parts.{Parts, CacheKeeps, IsDirty, IsHeld, IsNewborn, IsPinned, bytes_of, content_at, label_at, memory, one_content, state_of}
use Rattle.fo_mind.specs.Slotted.{Follows, Hung, Slotted}
use Rattle.fo_mind.specs.Sound.{Placed, Holding}
use Rattle.fo_mind.proofs.Joining.{dirty_joins, field_joins}
use Rattle.fo_mind.proofs.Making.{unlike}
use Rattle.fo_mind.proofs.Refilling.{Refills, dirty_was, flags_turned, marks_turned, pinned_refilled, refills_of, within_facts}
use Rattle.fo_put.specs.Queued.{Queues}
use Rattle.fo_put.proofs.Reaching.{takes_alone, takes_reached, unreached}

some_in : {x y : ℕ} → Some x ≡ Some y → x ≡ y
some_in e = cc

nil_local : {b : ℕ} → Nil ≡ Local b → ⊥
nil_local e = cc

none_stored : {b : ℕ} (score : _) → Stored score ≡ Local b → ⊥
none_stored score e = cc

-- what of facts calls on blocks see of a put
record Seen (at : ℕ) (to : Pointer) (raised : Bool) (old new : List Fact) : Type 0 where
  others : (b : ℕ) → ((fact_at new b).fresh ≡ (fact_at old b).fresh) × ((fact_at new b).sealed ≡ (fact_at old b).sealed)
  apart : (b : ℕ) → to ≢ Local b → (fact_at new b).apart ≡ (fact_at old b).apart
  put : (b : ℕ) → to ≡ Local b → (fact_at new b).apart ≡ false
  origin : (b : ℕ) → b ≢ at → (fact_at new b).origin ≡ (fact_at old b).origin
  over : (b : ℕ) → to ≡ Local b → (fact_at new at).origin ≡ cond raised (origin_over b (fact_at old b)) (fact_at old at).origin
  calm : ((b : ℕ) → to ≢ Local b) → (fact_at new at).origin ≡ (fact_at old at).origin
  newborn : (b : ℕ) → IsNewborn new b → IsNewborn old b

seen_of : {at : ℕ} {to : Pointer} {raised : Bool} {held : Held} {a b c d : List Fact} {t u : Turns} → SameMarks a b → Marked at to raised b c → Joins held c d t u → Seen at to raised a d
seen_of {at} {to} {raised} {held} {a} {b} {c} {d} s m l = record {
  others = λ q. (
    field_joins l (λ (f : Fact). f.fresh) (λ x f. refl) q ∙ (m.others q).1 ∙ s.fresh q,
    field_joins l (λ (f : Fact). f.sealed) (λ x f. refl) q ∙ (m.others q).2 ∙ s.sealed q,
  );
  apart = λ q ne. still_apart q ∙ m.apart q ne ∙ s.apart q;
  put = λ q e. still_apart q ∙ m.put q e;
  origin = λ q ne. still_origin q ∙ m.origin q ne ∙ s.origin q;
  over = λ q e. still_origin at ∙ m.over q e ∙ same_over q;
  calm = λ h. still_origin at ∙ m.calm h ∙ s.origin at;
  newborn = λ q e. ⊎_elim
      (λ same. sym (s.linked q) ∙ sym (m.others q).0 ∙ sym (ap (λ (f : Fact). f.linked) same) ∙ e)
      (λ h. unlike (sym h.0.1 ∙ e))
      (l.facts q);
}
  where
    still_apart : (q : ℕ) → (fact_at d q).apart ≡ (fact_at c q).apart
    still_apart q = field_joins l (λ (f : Fact). f.apart) (λ x f. refl) q

    still_origin : (q : ℕ) → (fact_at d q).origin ≡ (fact_at c q).origin
    still_origin q = field_joins l (λ (f : Fact). f.origin) (λ x f. refl) q

    same_over : (q : ℕ) → cond raised (origin_over q (fact_at b q)) (fact_at b at).origin ≡ cond raised (origin_over q (fact_at a q)) (fact_at a at).origin
    same_over q =
        ap (λ (x : Bool). cond raised (cond x (fact_at b q).origin (Some q)) (fact_at b at).origin) (s.apart q)
        ∙ ap (λ (x : Option ℕ). cond raised (cond (fact_at a q).apart x (Some q)) (fact_at b at).origin) (s.origin q)
        ∙ ap (λ (x : Option ℕ). cond raised (origin_over q (fact_at a q)) x) (s.origin at)

-- ---- what is seen, of plain values

module _ (p : Parts) (first count at i c : ℕ) (slot : Slot) (bytes : List ℕ) (raised : Bool)
    (g : Held) (t : Turns) (fs : List Fact) (rm : ℕ) (rs : List Removal) (w : Walking)
    (placed : Placed p.region p.turns p.facts first count) (holding : Holding p.one.low first count p.region p.held)
    (r : Refills at bytes p.held g)
    (puts : PutsInto (label_at p.region at).kind i slot r.was.block bytes)
    (seen : Seen at (target slot) raised p.facts fs)
    (raises : OnTrue raised (Raises (fact_at p.facts at) (label_at p.region at).kind i r.was.block))
    (raises_not : OnFalse raised (Raises (fact_at p.facts at) (label_at p.region at).kind i r.was.block → ⊥))
    (dirty : (b : ℕ) → IsDirty t g b → IsDirty p.turns p.held b ⊎ (b ≡ at))
    (used : rm + c ≡ p.room)
    (apart_at : target slot ≢ Local at) where
  abbrev q : Parts
  q = record p { held = g; turns = t; facts = fs; room = rm; removals = rs; walk = w }

  far : nat_eq at 1 ≡ false
  far = beyond at first placed.begins (holding.block at r.was r.held).0

  memory_other : (b : ℕ) → b ≢ at → memory q b ≡ memory p b
  memory_other b ne = ap (cond (nat_eq b 1) (one_content p.one p.one_bytes))
      (ap (λ (o : Option Buffer). read (label_at p.region b).kind (bytes_of o (lookup (nat_eq b) g.clean) (latest_of (versions_of p.disk b)))) (r.others b ne)
      ∙ ap (λ (z : List (ℕ × List ℕ)). read (label_at p.region b).kind (bytes_of (held_at p.held b) (lookup (nat_eq b) z) (latest_of (versions_of p.disk b)))) r.clean)

  memory_here : memory q at ≡ read (label_at p.region at).kind bytes
  memory_here =
      ap (λ b. cond b (one_content p.one p.one_bytes) (content_at p.region g p.disk at)) far
      ∙ ap (λ (o : Option Buffer). read (label_at p.region at).kind (bytes_of o (lookup (nat_eq at) g.clean) (latest_of (versions_of p.disk at)))) r.here

  memory_was : memory p at ≡ read (label_at p.region at).kind r.was.block
  memory_was = held_content p first count at r.was placed holding r.held

  slot_put : PutsSlot at i slot (memory p) (memory q)
  slot_put = record {
    bytes = λ b. ⊎_elim
        (λ e. subst (λ n. (memory q n).bytes ≡ (memory p n).bytes) (sym e) (ap (λ (z : Content). z.bytes) memory_here ∙ puts.bytes ∙ sym (ap (λ (z : Content). z.bytes) memory_was)))
        (λ ne. ap (λ (z : Content). z.bytes) (memory_other b ne))
        (cases_eq b at);
    here = ap (λ (z : Content). z.slot i) memory_here ∙ puts.here;
    others = λ b j h. ⊎_elim
        (λ e. subst (λ n. (memory q n).slot j ≡ (memory p n).slot j) (sym e) (ap (λ (z : Content). z.slot j) memory_here ∙ puts.others j (⊎_elim (λ ne. absurd (ne e)) (λ ne. ne) h) ∙ sym (ap (λ (z : Content). z.slot j) memory_was)))
        (λ ne. ap (λ (z : Content). z.slot j) (memory_other b ne))
        (cases_eq b at);
  }

  pinned_stays : (b : ℕ) → IsPinned p.held b → IsPinned g b
  pinned_stays b pinned = ⊎_elim
      (λ e. subst (IsPinned g) (sym e) (pinned_refilled r (subst (IsPinned p.held) e pinned)))
      (λ ne. ap (λ (o : Option Buffer). option_map_or is_pinned o false) (r.others b ne) ∙ pinned)
      (cases_eq b at)

  frame_put : Frame (λ b. b ≡ at) (λ b. (b ≡ at) ⊎ (target slot ≡ Local b)) c (state_of p) (state_of q)
  frame_put = record {
    stays = record {
      labels = λ b _. refl;
      marks = λ b _. let o = seen.others b in (pinned_stays b, λ h. o.1 ∙ h, λ h. o.0 ∙ h);
      places = λ x. absurd x;
      rooted = λ x. absurd x;
      newborn = λ b _ h. seen.newborn b h;
      apart = λ b _ n. let a = seen.apart b (λ e. n (inr e)) in (λ h. sym a ∙ h, λ h. a ∙ h);
      instead = λ b x _ n.
          let a = seen.apart b (λ e. n (inr e)) in
          let o = seen.origin b (λ e. n (inl e)) in
          (λ h. (sym a ∙ h.0, sym o ∙ h.1), λ h. (a ∙ h.0, o ∙ h.1));
      waits = λ a on j _ _ _ w. w;
    };
    dirty = dirty;
    uses = record { spare = omega arith; usable = omega arith; room = used; pins = refl; moments = refl; left = λ k image h. h };
    numbers = record { next = refl; grants = λ h. h };
  }

  -- what `at` comes instead of
  same_apart : (fact_at fs at).apart ≡ (fact_at p.facts at).apart
  same_apart = seen.apart at apart_at

  origin_cases : ((fact_at fs at).origin ≡ (fact_at p.facts at).origin) ⊎ ((raised ≡ true) × ((b : ℕ) × (target slot ≡ Local b) × ((fact_at fs at).origin ≡ origin_over b (fact_at p.facts b))))
  origin_cases = by (target slot) refl
    where
      over : (b : ℕ) → target slot ≡ Local b → (k : Bool) → raised ≡ k → ((fact_at fs at).origin ≡ (fact_at p.facts at).origin) ⊎ ((raised ≡ true) × ((b : ℕ) × (target slot ≡ Local b) × ((fact_at fs at).origin ≡ origin_over b (fact_at p.facts b))))
      over b is true e = inr (e, (b, is, seen.over b is ∙ ap (λ k. cond k (origin_over b (fact_at p.facts b)) (fact_at p.facts at).origin) e))
      over b is false e = inl (seen.over b is ∙ ap (λ k. cond k (origin_over b (fact_at p.facts b)) (fact_at p.facts at).origin) e)

      by : (to : Pointer) → target slot ≡ to → ((fact_at fs at).origin ≡ (fact_at p.facts at).origin) ⊎ ((raised ≡ true) × ((b : ℕ) × (target slot ≡ Local b) × ((fact_at fs at).origin ≡ origin_over b (fact_at p.facts b))))
      by Nil e = inl (seen.calm (λ b h. nil_local (sym e ∙ h)))
      by (Stored score) e = inl (seen.calm (λ b h. none_stored score (sym e ∙ h)))
      by (Local b) e = over b e raised refl

  -- in whose place what is raised over b comes
  over_cases : (b x : ℕ) → origin_over b (fact_at p.facts b) ≡ Some x → ((b ≡ x) × ((state_of p).apart b → ⊥)) ⊎ (state_of p).instead b x
  over_cases b x is = by (fact_at p.facts b).apart refl
    where
      by : (a : Bool) → (fact_at p.facts b).apart ≡ a → ((b ≡ x) × ((state_of p).apart b → ⊥)) ⊎ (state_of p).instead b x
      by true e = inr (e, sym (ap (λ a. cond a (fact_at p.facts b).origin (Some b)) e) ∙ is)
      by false e = inl (some_in (sym (ap (λ a. cond a (fact_at p.facts b).origin (Some b)) e) ∙ is), λ h. unlike (sym h ∙ e))

  over_is : (b x : ℕ) → (state_of p).instead b x ⊎ ((b ≡ x) × ((state_of p).apart b → ⊥)) → origin_over b (fact_at p.facts b) ≡ Some x
  over_is b x h = ⊎_elim
      (λ (s : (state_of p).instead b x). ap (λ a. cond a (fact_at p.facts b).origin (Some b)) s.0 ∙ s.1)
      (λ n. by (fact_at p.facts b).apart refl n)
      h
    where
      by : (a : Bool) → (fact_at p.facts b).apart ≡ a → (b ≡ x) × ((state_of p).apart b → ⊥) → origin_over b (fact_at p.facts b) ≡ Some x
      by true e n = absurd (n.1 e)
      by false e n = ap (λ a. cond a (fact_at p.facts b).origin (Some b)) e ∙ ap Some n.0

  -- a block is raised as calls on blocks say it
  is_top : Raises (fact_at p.facts at) (label_at p.region at).kind i r.was.block → IsRaised (state_of p) at i
  is_top h = (
    ((h.top.apart, λ x s. no_origin x (sym h.top.none ∙ s.1)), λ j x e. h.none j x (sym (ap (λ (z : Content). target (z.slot j)) memory_was) ∙ e)),
    h.inner,
    h.first,
  )
    where
      no_origin : (x : ℕ) → None ≡ Some x → ⊥
      no_origin x e = cc

  top_is : IsRaised (state_of p) at i → Raises (fact_at p.facts at) (label_at p.region at).kind i r.was.block
  top_is h = record {
    top = record { apart = h.0.0.0; none = none_of (fact_at p.facts at).origin (λ x e. h.0.0.1 x (h.0.0.0, e)) };
    inner = h.1;
    first = h.2;
    none = λ j x e. h.0.1 j x (ap (λ (z : Content). target (z.slot j)) memory_was ∙ e);
  }
    where
      none_of : (o : Option ℕ) → ((x : ℕ) → o ≡ Some x → ⊥) → o ≡ None
      none_of None h = refl
      none_of (Some x) h = absurd (h x refl)

  raised_is : IsRaised (state_of p) at i → raised ≡ true
  raised_is h = by raised refl
    where
      by : (k : Bool) → raised ≡ k → raised ≡ true
      by true e = e
      by false e = absurd (OnFalse_at e raises_not (top_is h))

  is_raised : raised ≡ true → IsRaised (state_of p) at i
  is_raised e = is_top (OnTrue_at e raises)

  hangs_put : Hangs at i slot (state_of p) (state_of q)
  hangs_put = record {
    place = λ x. absurd x;
    put = λ b is. (λ h. unlike (sym h ∙ seen.put b is), λ x h. unlike (sym h.0 ∙ seen.put b is));
    at_place = λ x. absurd x;
    at_apart = λ _. (λ h. sym same_apart ∙ h, λ h. same_apart ∙ h);
    raised = λ x h. ⊎_elim
        (λ same. inl (sym same_apart ∙ h.0, sym same ∙ h.1))
        (λ o. inr (is_raised o.0, (o.1.0, o.1.1, over_cases o.1.0 x (sym o.1.2 ∙ h.1))))
        origin_cases;
    raises = λ b x is to h.
        let k = raised_is is in
        (same_apart ∙ is.0.0.0, seen.over b to ∙ ap (λ z. cond z (origin_over b (fact_at p.facts b)) (fact_at p.facts at).origin) k ∙ over_is b x h);
    still = λ x h. ⊎_elim
        (λ same. (same_apart ∙ h.0, same ∙ h.1))
        (λ o. let is = is_raised o.0 in absurd (is.0.0.1 x h))
        origin_cases;
    waits = λ a on j _ w. w;
  }

  order_put : KeepsOrder none (state_of p) (state_of q)
  order_put = record { clearing = λ b j h. (λ none. none, h); goes_on = λ b j _ h. h }

  no_wait_slot : AddsNoWait none (state_of p) (state_of q)
  no_wait_slot = record { each = λ a on j _ w. w }

-- ---- what is queued

one_at_least : (w : Walking) (kind kind2 : Kind) (old new : Pointer) → ends old new ≡ 1 → 0 < length (removals_of (answer w (meeting (led_at kind old) (led_at kind2 new))))
one_at_least w kind kind2 (Local x) Nil e = omega arith
one_at_least w kind kind2 (Local x) (Stored score) e = omega arith
one_at_least w kind kind2 (Local x) (Local y) e = absurd (omega (arith, e))
one_at_least w kind kind2 Nil new e = absurd (omega (arith, e))
one_at_least w kind kind2 (Stored score) new e = absurd (omega (arith, e))

queues_of : (p r s : Parts) {at i cost : ℕ} {kind : Kind} {led slot : Slot} → led ≡ (memory p at).slot i → r.removals ≡ p.removals → Follows (record { at = at; kind = kind; i = i; old = led; new = slot }) cost r s → Queues ((memory p at).slot i) slot (length p.removals) (length s.removals)
queues_of p r s {at} {i} {cost} {kind} {led} {slot} is_led same f =
    let t = f.takes in
    let mid = removals_of (answer (begun r.walk at r.one.high) (met kind led slot)) in
    let a = length-append r.removals mid in
    let b = length-append (r.removals ++ mid) (given (memory r) t.ends.taking.steps (added (begun r.walk at r.one.high) (met kind led slot))) in
    let all = ap length t.ends.taking.gives in
    let k = ap length same in
    record {
      more = omega (arith, a, b, all, k);
      some = λ e.
          let one = one_at_least (begun r.walk at r.one.high) (kind_below kind led) (kind_below kind slot) (target led) (target slot) (ap (λ (z : Slot). ends (target z) (target slot)) is_led ∙ e) in
          omega (arith, a, b, all, k, one);
    }

-- what a put of a slot began with, where its block was refilled and hung
module _ (p r s : Parts) {at i cost : ℕ} {kind : Kind} {led slot : Slot} (idle : p.walk.pairs ≡ []) (walk : r.walk ≡ p.walk) (removals : r.removals ≡ p.removals) (high : r.one.high ≡ p.one.high)
    (is_led : led ≡ (memory p at).slot i) (f : Follows (record { at = at; kind = kind; i = i; old = led; new = slot }) cost r s) where
  none_begun : r.walk.pairs ≡ []
  none_begun = ap (λ (w : Walking). w.pairs) walk ∙ idle

  same_memory : memory s ≡ memory r
  same_memory = ap (λ (y : Parts). memory y) f.rest

  removes_of : AddsRemovals ((memory p at).slot i) (state_of p) (state_of s)
  removes_of = record {
    each = λ b e whole h. ⊎_elim
        (λ was. inl (h.0, subst (λ (rs : List Removal). Contains rs h.0) removals was, h.2, h.3, h.4))
        (λ new. inr (
          sym h.3 ∙ new.1 ∙ high,
          subst (λ n. Reaches (memory s) ((memory p at).slot i) n) h.2
              (subst (λ (x : Slot). Reaches (memory s) x h.0.at) is_led
              (subst (λ (now : Image). Reaches now led h.0.at) (sym same_memory) new.0)),
        ))
        (takes_reached none_begun f.takes h.0 h.1);
  }

  whole_of : ((b : ℕ) → target slot ≡ Local b → ⊥) → (x : Removal) → Contains s.removals x → Contains p.removals x ⊎ ((target ((memory p at).slot i) ≡ Local x.at) × (x.epoch ≡ p.one.high))
  whole_of nowhere x c = ⊎_elim
      (λ was. inl (subst (λ (rs : List Removal). Contains rs x) removals was))
      (λ new. inr (ap target (sym is_led) ∙ new.0, new.1 ∙ high))
      (takes_alone none_begun f.takes nowhere x c)

-- where nothing is put, nothing comes into the tree
calm_of : (r s : Parts) {at i cost : ℕ} {kind : Kind} {led slot : Slot} → ((b : ℕ) → target slot ≡ Local b → ⊥) → Follows (record { at = at; kind = kind; i = i; old = led; new = slot }) cost r s → (b : ℕ) → IsNewborn r.facts b → IsNewborn s.facts b
calm_of r s {at} {i} {cost} {kind} {led} {slot} nowhere f b newborn = by (fact_at r.facts at).linked refl
  where
    by : (k : Bool) → (fact_at r.facts at).linked ≡ k → IsNewborn s.facts b
    by true e =
        let l = f.linked e in
        ⊎_elim
        (λ same. ap (λ (x : Fact). x.linked) same ∙ newborn)
        (λ h. absurd (unreached r.held r.region r.facts (target slot) nowhere b (l.only b h.0)))
        (l.joins.facts b)
    by false e = ap (λ (fs : List Fact). (fact_at fs b).linked) (f.stays e).0 ∙ newborn

-- ---- all of it

pub record SlotResult (at i cost : ℕ) (slot : Slot) (p s : Parts) : Type 0 where
  pub now : PutsSlot at i slot (memory p) (memory s)
  pub frame : Frame (λ b. b ≡ at) (λ b. (b ≡ at) ⊎ (target slot ≡ Local b)) cost (state_of p) (state_of s)
  pub hangs : Hangs at i slot (state_of p) (state_of s)
  pub order : KeepsOrder none (state_of p) (state_of s)
  pub no_wait : AddsNoWait none (state_of p) (state_of s)
  pub keeps : CacheKeeps p s
  pub queues : Queues ((memory p at).slot i) slot (length p.removals) (length s.removals)
  -- what is queued was, or is what the walk gives; where nothing is put, that is what the slot led to, and nothing comes into the tree
  pub removes : AddsRemovals ((memory p at).slot i) (state_of p) (state_of s)
  pub whole : ((b : ℕ) → target slot ≡ Local b → ⊥) → (r : Removal) → Contains s.removals r → Contains p.removals r ⊎ ((target ((memory p at).slot i) ≡ Local r.at) × (r.epoch ≡ p.one.high))
  pub calm : ((b : ℕ) → target slot ≡ Local b → ⊥) → (b : ℕ) → IsNewborn p.facts b → IsNewborn s.facts b
  pub waits : s.waits ≡ p.waits
  pub clears : s.clears ≡ p.clears

block_is : (bytes : List ℕ) (x : Buffer) → Some bytes ≡ Some x.block → bytes ≡ x.block
block_is bytes x e = cc

-- what the three steps together leave
rest_of : {put_at i cost : ℕ} {to : Pointer} {raised : Bool} {bytes : List ℕ} {kind : Kind} {led slot : Slot} {p q r s : Parts} → Refilled put_at bytes p q → Hung put_at to raised q r → Follows (record { at = put_at; kind = kind; i = i; old = led; new = slot }) cost r s
    → s ≡ record p { held = q.held; turns = s.turns; facts = s.facts; room = s.room; removals = s.removals; walk = s.walk }
rest_of {p = p} {q = q} {r = r} {s = s} f h l =
    l.rest
    ∙ ap (λ (z : Parts). record z { turns = s.turns; facts = s.facts; room = s.room; removals = s.removals; walk = s.walk }) h.rest
    ∙ ap (λ (z : Parts). record z { turns = s.turns; facts = s.facts; room = s.room; removals = s.removals; walk = s.walk }) f.rest

pub slot_result : {p s : Parts} {first count at i cost : ℕ} {slot : Slot} → Placed p.region p.turns p.facts first count → Holding p.one.low first count p.region p.held → IsHeld p.held at → ((b : ℕ) → target slot ≡ Local b → b ≢ at) → Slotted at i cost slot p s → SlotResult at i cost slot p s
slot_result {p} {s} {first} {count} {at} {i} {cost} {slot} placed holding some leads z =
    let q = z.filled in
    let r = z.hung in
    let x = refills_of at z.bytes p.held q.held holding some z.long z.refilled.held in
    let same : z.was ≡ x.was.block = block_is z.was x.was (z.copied ∙ ap (option_map block_in) x.held) in
    let puts = subst (λ (bs : List ℕ). PutsInto (label_at p.region at).kind i slot bs z.bytes) same (subst (λ (k : Kind). PutsInto k i slot z.was z.bytes) z.is_kind z.puts) in
    let raises = subst (λ (bs : List ℕ). OnTrue z.raised (Raises (fact_at p.facts at) (label_at p.region at).kind i bs)) same (subst (λ (k : Kind). OnTrue z.raised (Raises (fact_at p.facts at) k i z.was)) z.is_kind (subst (λ (f : Fact). OnTrue z.raised (Raises f z.kind i z.was)) z.is_fact z.raises)) in
    let raises_not = subst (λ (bs : List ℕ). OnFalse z.raised (Raises (fact_at p.facts at) (label_at p.region at).kind i bs → ⊥)) same (subst (λ (k : Kind). OnFalse z.raised (Raises (fact_at p.facts at) k i z.was → ⊥)) z.is_kind (subst (λ (f : Fact). OnFalse z.raised (Raises f z.kind i z.was → ⊥)) z.is_fact z.raises_not)) in
    let w = within_facts at placed holding some in
    let marks = subst (SameMarks p.facts) (sym z.refilled.facts) (marks_turned p.facts p.turns at w.0 w.1) in
    let flags : (b : ℕ) → b ≢ at → flag_at q.turns b ≡ flag_at p.turns b = λ b ne. ap (λ (t : Turns). flag_at t b) z.refilled.turns ∙ flags_turned p.facts p.turns at w.0 w.1 b ne in
    let seen = seen_of marks z.hangs.marked z.follows.joins in
    let turns : r.turns ≡ q.turns = ap (λ (y : Parts). y.turns) z.hangs.rest in
    let held : r.held ≡ q.held = ap (λ (y : Parts). y.held) z.hangs.rest in
    let back : (b : ℕ) → IsDirty s.turns q.held b → IsDirty p.turns p.held b ⊎ (b ≡ at) = λ b d.
    dirty_was p first count at z.bytes q.held q.turns q.facts placed holding x marks flags b
    (subst (λ (t : Turns). IsDirty t q.held b) turns (subst (λ (h : Held). IsDirty r.turns h b) held (dirty_joins z.follows.joins b (subst (λ (h : Held). IsDirty s.turns h b) (sym held) d)))) in
    let used : s.room + cost ≡ p.room = z.follows.room ∙ ap (λ (y : Parts). y.room) z.hangs.rest ∙ ap (λ (y : Parts). y.room) z.refilled.rest in
    let apart_at : target slot ≢ Local at = λ e. leads at e refl in
    let removals : r.removals ≡ p.removals = ap (λ (y : Parts). y.removals) z.hangs.rest ∙ ap (λ (y : Parts). y.removals) z.refilled.rest in
    let queues = queues_of p r s z.is_led removals z.follows in
    let walk : r.walk ≡ p.walk = ap (λ (y : Parts). y.walk) z.hangs.rest ∙ ap (λ (y : Parts). y.walk) z.refilled.rest in
    let high : r.one.high ≡ p.one.high = ap (λ (y : Parts). y.one.high) z.hangs.rest ∙ ap (λ (y : Parts). y.one.high) z.refilled.rest in
    let all = rest_of z.refilled z.hangs z.follows in
    record {
      now = subst (λ (y : Parts). PutsSlot at i slot (memory p) (memory y)) (sym all) (slot_put p first count at i cost slot z.bytes z.raised q.held s.turns s.facts s.room s.removals s.walk placed holding x puts seen raises raises_not back used apart_at);
      frame = subst (λ (y : Parts). Frame (λ b. b ≡ at) (λ b. (b ≡ at) ⊎ (target slot ≡ Local b)) cost (state_of p) (state_of y)) (sym all) (frame_put p first count at i cost slot z.bytes z.raised q.held s.turns s.facts s.room s.removals s.walk placed holding x puts seen raises raises_not back used apart_at);
      hangs = subst (λ (y : Parts). Hangs at i slot (state_of p) (state_of y)) (sym all) (hangs_put p first count at i cost slot z.bytes z.raised q.held s.turns s.facts s.room s.removals s.walk placed holding x puts seen raises raises_not back used apart_at);
      order = subst (λ (y : Parts). KeepsOrder none (state_of p) (state_of y)) (sym all) (order_put p first count at i cost slot z.bytes z.raised q.held s.turns s.facts s.room s.removals s.walk placed holding x puts seen raises raises_not back used apart_at);
      no_wait = subst (λ (y : Parts). AddsNoWait none (state_of p) (state_of y)) (sym all) (no_wait_slot p first count at i cost slot z.bytes z.raised q.held s.turns s.facts s.room s.removals s.walk placed holding x puts seen raises raises_not back used apart_at);
      keeps = subst (CacheKeeps p) (sym all) (record { first = refl; count = refl; high = refl; low = refl; root = refl; faults = omega arith });
      queues = queues;
      removes = removes_of p r s z.idle walk removals high z.is_led z.follows;
      whole = whole_of p r s z.idle walk removals high z.is_led z.follows;
      calm = λ nowhere b newborn. calm_of r s nowhere z.follows b ((z.hangs.marked.others b).0 ∙ marks.linked b ∙ newborn);
      waits = ap (λ (y : Parts). y.waits) all;
      clears = ap (λ (y : Parts). y.clears) all;
    }

-- the same, at the cost of the trait
pub record SlotSeen (at i : ℕ) (slot : Slot) (p s : Parts) : Type 0 where
  pub seen : SlotResult at i (cost ((memory p at).slot i) slot) slot p s
  pub slotted : Slotted at i (cost ((memory p at).slot i) slot) slot p s

pub slot_seen : {p s : Parts} {first count at i price : ℕ} {slot old : Slot} → Placed p.region p.turns p.facts first count → Holding p.one.low first count p.region p.held → IsPinned p.held at → ((b : ℕ) → target slot ≡ Local b → b ≢ at)
    → price ≡ cost old slot → old ≡ (memory p at).slot i → Slotted at i price slot p s → SlotSeen at i slot p s
slot_seen {p} {s} {first} {count} {at} {i} {price} {slot} {old} placed holding pinned leads is_price is_old z =
    let here : Slotted at i (cost ((memory p at).slot i) slot) slot p s = subst (λ n. Slotted at i n slot p s) (is_price ∙ ap (λ (o : Slot). cost o slot) is_old) z in
    record { seen = slot_result placed holding (held_pinned p.held at pinned) leads here; slotted = here }
