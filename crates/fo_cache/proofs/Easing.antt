-- Steps of a settling, one after another.
use Rattle.std.proofs.Common.{◌≡◌, ◌≢◌, inl, inr, ⊎_elim, ℕ, ◌≤◌, Bool, true, false, cond, nat_eq, List, [], Result, Ok, Err, Option, None, refl, sym, ap, ◌∙◌, subst, arith, eq-eqb}
use Rattle.std.specs.Map.{lookup}
use Rattle.std.specs.Result.{OnOk, OnErr}
use Rattle.fo_disk.specs.Disk.{DiskState, latest_of, versions_of}
use Rattle.fo_disk.specs.Disk.{Content as Holds}
use Rattle.fo_image.specs.declared.types.Label.{Label}
use Rattle.fo_image.specs.declared.types.State.TheVariants.{Closed, Live}
use Rattle.fo_image.specs.Place.{label_block}
use Rattle.fo_buffers.specs.Held.{held_at}
use Rattle.fo_order.specs.Keeps.{Turns}
use Rattle.fo_order.specs.Turns.{flag_at}
use Rattle.fo_crash.specs.Images.{Content, target}
use Rattle.fo_crash.specs.Steps.{cleared}
use Rattle.fo_ports.specs.declared.error.BlockError.{BlockError}
use Rattle.fo_ports.specs.State.{IsChanging, IsClosing, IsShut, KeepsSlot, MayRemove, Rests, State, StaysKnown}
use Rattle.fo_buffers.specs.of_slots.Read.{read}
use Rattle.fo_mind.specs.Laws.{keeps_joins}
use Rattle.fo_mind.specs.Parts.{CacheKeeps, IsBlock, Parts, bytes_of, label_at, memory, one_content, content_at, state_of}
use Rattle.fo_mind.specs.Sealed.{SealsPinned}
use Rattle.fo_cache.specs.Easing.{Eases}
use Rattle.fo_cache.specs.Settling.{Rested}
use Rattle.fo_cache.specs.Supers.{Overruled}
use Rattle.fo_cache.proofs.Numbering.{latest_rested}

never : {A : Type 0} → true ≡ false → A
never e = cc

-- what was closed isn't live
pub shut_dead : (s t : State) (b : ℕ) → IsShut s t b → (t.label b).state ≡ Live → ⊥
shut_dead s t b h live = clash (sym (ap (λ (l : Label). l.state) h.is) ∙ live)
  where
    clash : Closed ≡ Live → ⊥
    clash e = cc

-- ---- turns, and the super block in doubt

module _ (p : Parts) (turns : Turns) (doubt : Option (List ℕ)) (holds : Holds) (faults : ℕ) (dirty : (b : ℕ) → (flag_at turns b).dirty ≡ (flag_at p.turns b).dirty)
    (last : (b : ℕ) → b ≢ 1 → latest_of (versions_of holds b) ≡ latest_of (versions_of p.disk b)) where
  abbrev Q : Parts
  Q = record p { turns = turns; doubt = doubt; disk = holds; faults = faults }

  same_block : (b : ℕ) → memory Q b ≡ memory p b
  same_block b = by (nat_eq b 1) refl
    where
      by : (c : Bool) → nat_eq b 1 ≡ c → cond c (one_content p.one p.one_bytes) (content_at p.region p.held holds b) ≡ cond c (one_content p.one p.one_bytes) (content_at p.region p.held p.disk b)
      by true e = refl
      by false e = ap (λ (l : List ℕ). read (label_at p.region b).kind (bytes_of (held_at p.held b) (lookup (nat_eq b) p.held.clean) l)) (last b (λ is. never (sym (eq-eqb b 1 is) ∙ e)))

  known_beside : (b : ℕ) → StaysKnown (state_of p) (state_of Q) b
  known_beside b = record { bytes = ap (λ (c : Content). c.bytes) (same_block b); slots = λ j. inl (ap (λ (c : Content). c.slot j) (same_block b), λ h. h) }

  dirty_was : (b : ℕ) → (state_of Q).dirty b → (state_of p).dirty b
  dirty_was b d = ⊎_elim (λ turn. inl (sym (dirty b) ∙ turn)) (λ h. inr h) d

  rests_beside : Rests (state_of p) (state_of Q)
  rests_beside = record {
    blocks = λ tells. absurd tells;
    images = record { each = λ image h. absurd h };
    passes = record { later = omega arith; before = λ n image le h. h; within = λ n image lo hi h. absurd h };
    fills = λ tells. absurd tells;
    order = λ b j h. h;
    no_wait = record { each = λ a on j none w. w };
    dirty = λ b d. inl (dirty_was b d);
    closes = λ tells. absurd tells;
    leaves = λ tells. absurd tells;
    apart = λ b. (λ h. h, λ h. h);
    instead = λ b x. (λ h. h, λ h. h);
    newborn = λ b h. h;
    newborns = λ b h. h;
    kept = λ b is was now. known_beside b;
    labels = λ b. inl refl;
    removes = λ r e w h. inl h;
    queues = λ some. inl some;
    usable = omega arith;
    settled = λ was. (record { settled = record { each = λ image h. absurd h }; clean = λ b d. ((was.clean b (dirty_was b d)).0, λ tells. absurd tells); empty = was.empty; cleared = was.cleared }, refl);
    numbers = record { next = refl; grants = λ h. h };
  }

  pub eases_beside : p.faults ≤ faults → Eases p Q
  eases_beside le = record {
    rests = rests_beside;
    known = λ b pinned. known_beside b;
    blocks = λ b. (refl, λ h. h, λ h. h);
    room = (refl, refl, refl);
    queued = omega arith;
    keeps = record { first = refl; count = refl; high = refl; low = refl; root = refl; faults = le };
  }

pub eases_none : (p : Parts) → Eases p p
eases_none p = eases_beside p p.turns p.doubt p.disk p.faults (λ b. refl) (λ b ne. refl) (omega arith)

pub eases_doubt : {T : Type 0} (s t : DiskState) (p q : Parts) (f g : ℕ) (r : Result T BlockError) → ((k : ℕ) → k ≢ 1 → Rested (versions_of s.holds k) (versions_of t.holds k)) → OnOk r (Overruled s t p q) → OnErr r (q ≡ p) → f ≤ g
    → Eases (record p { disk = s.holds; faults = f }) (record q { disk = t.holds; faults = g })
eases_doubt s t p q f g (Ok x) others o e le = subst (λ (z : Parts). Eases (record p { disk = s.holds; faults = f }) (record z { disk = t.holds; faults = g })) (sym o.rest)
    (eases_beside (record p { disk = s.holds; faults = f }) q.turns None t.holds g (λ b. ap (λ h. h.dirty) (o.turns.each b)) (λ b ne. latest_rested (versions_of s.holds b) (versions_of t.holds b) (others b ne)) le)
eases_doubt s t p q f g (Err x) others o e le = subst (λ (z : Parts). Eases (record p { disk = s.holds; faults = f }) (record z { disk = t.holds; faults = g })) (sym e)
    (eases_beside (record p { disk = s.holds; faults = f }) p.turns p.doubt t.holds g (λ b. refl) (λ b ne. latest_rested (versions_of s.holds b) (versions_of t.holds b) (others b ne)) le)

-- ---- one step after another

module _ (p m q : Parts) (a : Rests (state_of p) (state_of m)) (b : Rests (state_of m) (state_of q)) (keeps : CacheKeeps p m) (same : (x : ℕ) → label_at q.region x ≢ label_at m.region x → IsBlock p (label_block x) → ⊥) where
  slot_joins : (k j : ℕ) → KeepsSlot (state_of p) (state_of m) k j → KeepsSlot (state_of m) (state_of q) k j → KeepsSlot (state_of p) (state_of q) k j
  slot_joins k j (inl x) (inl y) = inl (y.0 ∙ x.0, λ h. y.1 (x.1 h))
  slot_joins k j (inl x) (inr y) = inr (a.order k j y.0, y.1, y.2 ∙ ap cleared x.0)
  slot_joins k j (inr x) (inl y) = inr (x.0, λ h. x.1 (b.order k j h), y.0 ∙ x.2)
  slot_joins k j (inr x) (inr y) = absurd (x.1 y.0)

  pub known_joins : (k : ℕ) → StaysKnown (state_of p) (state_of m) k → StaysKnown (state_of m) (state_of q) k → StaysKnown (state_of p) (state_of q) k
  known_joins k x y = record { bytes = y.bytes ∙ x.bytes; slots = λ j. slot_joins k j (x.slots j) (y.slots j) }

  closing_was : IsClosing (state_of m) → IsClosing (state_of p)
  closing_was c = ⊎_elim (λ some. a.queues some) (λ w. inr (w.0, w.1, a.order w.0 w.1 w.2)) c

  -- a label that is another one after both steps, where one of them changed it
  changed_first : (x : ℕ) → label_at m.region x ≢ label_at p.region x → label_at q.region x ≢ label_at p.region x
  changed_first x ne e = ⊎_elim
      (λ is. ne is)
      (λ u. ⊎_elim
      (λ is. ne (sym is ∙ e))
      (λ v. shut_dead (state_of p) (state_of m) x u v.live)
      (b.labels x))
      (a.labels x)

  changed_second : (x : ℕ) → label_at q.region x ≢ label_at m.region x → label_at q.region x ≢ label_at p.region x
  changed_second x ne e = ⊎_elim
      (λ is. ne (e ∙ sym is))
      (λ u. ⊎_elim (λ is. ne is) (λ v. shut_dead (state_of p) (state_of m) x u v.live) (b.labels x))
      (a.labels x)

  block_still : (k : ℕ) → IsBlock p k → IsBlock m k
  block_still k is =
      let e = keeps.first in
      let f = keeps.count in
      let lo = is.0 in
      let hi = is.1 in
      (omega (arith, lo, e), omega (arith, hi, e, f))

  changing_was : (k : ℕ) → IsBlock p k → IsChanging (state_of q) k → IsChanging (state_of m) k
  changing_was k is c = ⊎_elim
      (λ d. ⊎_elim
      (λ old. inl old)
      (λ h. ⊎_elim (λ w. inr (w.0, w.1)) (λ l. absurd (same l.0 l.1 (subst (IsBlock p) l.2 is))) h)
      (b.dirty k d))
      (λ w. inr (w.0, b.order k w.0 w.1))
      c

  -- the block with which a removal begins keeps its tag
  same_tag : (r : ℕ) → (label_at m.region r).tag ≡ (label_at p.region r).tag
  same_tag r = ⊎_elim (λ is. ap (λ (l : Label). l.tag) is) (λ u. ap (λ (l : Label). l.tag) u.is) (a.labels r)

  may_was : (r e : ℕ) (whole : Bool) → MayRemove (state_of m) r e whole → MayRemove (state_of p) r e whole
  may_was r e whole (inl h) = a.removes r e whole h
  may_was r e whole (inr (at, j, is, waits, leads, high)) =
      let x = is.0 in
      let y = is.1 in
      let f = keeps.first in
      let n = keeps.count in
      let here : IsBlock p at = (omega (arith, x, f), omega (arith, y, f, n)) in
      let was = a.order at j waits in
      ⊎_elim
      (λ same_slot. inr (at, j, here, was, ap target (sym same_slot.0) ∙ leads, high ∙ keeps.high))
      (λ gone. absurd (gone.1 waits))
      ((a.kept at here (inr (j, was)) (inr (j, waits))).slots j)

  shut_second : (k : ℕ) → label_at m.region k ≡ label_at p.region k → IsShut (state_of m) (state_of q) k → IsShut (state_of p) (state_of q) k
  shut_second k e v = record {
    closing = closing_was v.closing;
    removal = v.removal;
    epoch = v.epoch;
    whole = v.whole;
    may = may_was v.removal v.epoch v.whole v.may;
    alone = v.alone;
    live = ap (λ (l : Label). l.state) (sym e) ∙ v.live;
    is = v.is ∙ ap (λ (l : Label). record l { state = Closed; closing = v.epoch }) e;
    tag = ap (λ (l : Label). l.tag) (sym e) ∙ v.tag ∙ same_tag v.removal;
    begun = subst (λ (l : Label). l.epoch ≤ v.epoch) e v.begun;
    other = λ is. v.other (is ∙ sym keeps.root);
    linked = λ h. v.linked (a.newborns k h);
  }

  shut_first : (k : ℕ) → label_at q.region k ≡ label_at m.region k → IsShut (state_of p) (state_of m) k → IsShut (state_of p) (state_of q) k
  shut_first k f u = record {
    closing = u.closing;
    removal = u.removal;
    epoch = u.epoch;
    whole = u.whole;
    may = u.may;
    alone = u.alone;
    live = u.live;
    is = f ∙ u.is;
    tag = u.tag;
    begun = u.begun;
    other = u.other;
    linked = u.linked;
  }

  pub rests_joins : Rests (state_of p) (state_of q)
  rests_joins = record {
    blocks = λ tells. absurd tells;
    images = record { each = λ image h. absurd h };
    passes = record { later = omega arith; before = λ n image le h. h; within = λ n image lo hi h. absurd h };
    fills = λ tells. absurd tells;
    order = λ k j h. a.order k j (b.order k j h);
    no_wait = record { each = λ x on j none w. a.no_wait.each x on j none (b.no_wait.each x on j none w) };
    dirty = λ k d. ⊎_elim
        (λ old. ⊎_elim (λ was. inl was) (λ h. ⊎_elim (λ w. inr (inl (w.0, w.1, λ now. w.2 (b.order k w.0 now)))) (λ l. inr (inr (l.0, changed_first l.0 l.1, l.2))) h) (a.dirty k old))
        (λ h. ⊎_elim (λ w. inr (inl (w.0, a.order k w.0 w.1, w.2))) (λ l. inr (inr (l.0, changed_second l.0 l.1, l.2))) h)
        (b.dirty k d);
    closes = λ tells. absurd tells;
    leaves = λ tells. absurd tells;
    apart = λ k. (λ h. (a.apart k).0 ((b.apart k).0 h), λ h. (b.apart k).1 ((a.apart k).1 h));
    instead = λ k x. (λ h. (a.instead k x).0 ((b.instead k x).0 h), λ h. (b.instead k x).1 ((a.instead k x).1 h));
    newborn = λ k h. a.newborn k (b.newborn k h);
    newborns = λ k h. b.newborns k (a.newborns k h);
    kept = λ k is was now. let mid = changing_was k is now in known_joins k (a.kept k is was mid) (b.kept k (block_still k is) mid now);
    labels = λ k. ⊎_elim
        (λ e. ⊎_elim (λ f. inl (f ∙ e)) (λ v. inr (shut_second k e v)) (b.labels k))
        (λ u. ⊎_elim (λ f. inr (shut_first k f u)) (λ v. absurd (shut_dead (state_of p) (state_of m) k u v.live)) (b.labels k))
        (a.labels k);
    removes = λ r e w h. may_was r e w (b.removes r e w h);
    queues = λ some. closing_was (b.queues some);
    usable = let x = a.usable in let y = b.usable in omega (arith, x, y);
    settled = λ was. let x = a.settled was in let y = b.settled x.0 in (y.0, y.1 ∙ x.1);
    numbers = record { next = b.numbers.next ∙ a.numbers.next; grants = λ h. b.numbers.grants (a.numbers.grants h) };
  }

pub eases_on : {p m q : Parts} → Eases p m → Eases m q → Eases p q
eases_on {p} {m} {q} a b = record {
  rests = rests_joins p m q a.rests b.rests a.keeps same;
  known = λ k pinned. known_joins p m q a.rests b.rests a.keeps same k (a.known k pinned) (b.known k ((a.blocks k).1 pinned));
  blocks = λ k. ((b.blocks k).0 ∙ (a.blocks k).0, λ h. (b.blocks k).1 ((a.blocks k).1 h), λ h. (b.blocks k).2 ((a.blocks k).2 h));
  room = (b.room.0 ∙ a.room.0, b.room.1 ∙ a.room.1, b.room.2 ∙ a.room.2);
  queued = let x = a.queued in let y = b.queued in omega (arith, x, y);
  keeps = keeps_joins p m q a.keeps b.keeps;
}
  where
    same : (x : ℕ) → label_at q.region x ≢ label_at m.region x → IsBlock p (label_block x) → ⊥
    same x ne is = ne (b.blocks x).0

-- ---- waits end

pub eases_waits : (p : Parts) → Eases p (record p { waits = [] })
eases_waits p = record {
  rests = record {
    blocks = λ tells. absurd tells;
    images = record { each = λ image h. absurd h };
    passes = record { later = omega arith; before = λ n image le h. h; within = λ n image lo hi h. absurd h };
    fills = λ tells. absurd tells;
    order = λ b j h. h;
    no_wait = record { each = λ a on j none w. absurd w };
    dirty = λ b d. inl d;
    closes = λ tells. absurd tells;
    leaves = λ tells. absurd tells;
    apart = λ b. (λ h. h, λ h. h);
    instead = λ b x. (λ h. h, λ h. h);
    newborn = λ b h. h;
    newborns = λ b h. h;
    kept = λ b is was now. known b;
    labels = λ b. inl refl;
    removes = λ r e w h. inl h;
    queues = λ some. inl some;
    usable = omega arith;
    settled = λ was. (record { settled = record { each = λ image h. absurd h }; clean = λ b d. ((was.clean b d).0, λ tells. absurd tells); empty = was.empty; cleared = was.cleared }, refl);
    numbers = record { next = refl; grants = λ h. h };
  };
  known = λ b pinned. known b;
  blocks = λ b. (refl, λ h. h, λ h. h);
  room = (refl, refl, refl);
  queued = omega arith;
  keeps = record { first = refl; count = refl; high = refl; low = refl; root = refl; faults = omega arith };
}
  where
    known : (b : ℕ) → StaysKnown (state_of p) (state_of (record p { waits = [] })) b
    known b = record { bytes = refl; slots = λ j. inl (refl, λ h. h) }

-- ---- pinned blocks are sealed

pub eases_sealed : (p q : Parts) → SealsPinned p q → Eases p q
eases_sealed p q z = subst (Eases p) (sym z.rest) (record {
  rests = record {
    blocks = λ tells. absurd tells;
    images = record { each = λ image h. absurd h };
    passes = record { later = omega arith; before = λ n image le h. h; within = λ n image lo hi h. absurd h };
    fills = λ tells. absurd tells;
    order = λ b j h. h;
    no_wait = record { each = λ a on j none w. w };
    dirty = λ b d. inl d;
    closes = λ tells. absurd tells;
    leaves = λ tells. absurd tells;
    apart = λ b. (λ h. sym (z.seals.apart b) ∙ h, λ h. z.seals.apart b ∙ h);
    instead = λ b x. (λ h. (sym (z.seals.apart b) ∙ h.0, sym (z.seals.origin b) ∙ h.1), λ h. (z.seals.apart b ∙ h.0, z.seals.origin b ∙ h.1));
    newborn = λ b h. sym (z.seals.counts.each b).1 ∙ h;
    newborns = λ b h. (z.seals.counts.each b).1 ∙ h;
    kept = λ b is was now. known b;
    labels = λ b. inl refl;
    removes = λ r e w h. inl h;
    queues = λ some. inl some;
    usable = omega arith;
    settled = λ was. (record { settled = record { each = λ image h. absurd h }; clean = λ b d. ((z.seals.counts.each b).1 ∙ (was.clean b d).0, λ tells. absurd tells); empty = was.empty; cleared = was.cleared }, refl);
    numbers = record { next = refl; grants = λ h. h };
  };
  known = λ b pinned. known b;
  blocks = λ b. (refl, λ h. h, λ h. z.seals.sealed b h);
  room = (refl, refl, refl);
  queued = omega arith;
  keeps = record { first = refl; count = refl; high = refl; low = refl; root = refl; faults = omega arith };
})
  where
    known : (b : ℕ) → StaysKnown (state_of p) (state_of (record p { facts = q.facts })) b
    known b = record { bytes = refl; slots = λ j. inl (refl, λ h. h) }
