-- Blocks are pinned no more.
use Rattle.std.proofs.Common.{◌≡◌, ◌≢◌, inl, inr, ⊎_elim, ℕ, zero, suc, ◌≤◌, ◌<◌, Bool, true, false, cond, List, length, set, Option, Some, None, refl, sym, ap, ◌∙◌, subst, arith, length-set}
use Rattle.std.specs.List.{Contains}
use Rattle.std.specs.Option.{option_map_or}
use Rattle.std.proofs.lemmas.Bool.{cases_eq, cases_lt}
use Rattle.std.proofs.lemmas.List.{get_or-set_same, get_or-set_other, get_or_past}
use Rattle.fo_disk.specs.Disk.{Content as Holds}
use Rattle.fo_buffers.specs.declared.block.Buffer.{Buffer}
use Rattle.fo_buffers.specs.Held.{Held, held_at, is_dirty, is_pinned}
use Rattle.fo_order.specs.Turns.{flag_at}
use Rattle.fo_facts.specs.declared.fact.Fact.{Fact}
use Rattle.fo_facts.specs.Known.{fact_at, no_fact}
use Rattle.fo_ports.specs.State.{IsChanging}
use Rattle.fo_unlink.specs.declared.removal.Removal.{Removal}
use Rattle.fo_waits.specs.Listed.{Clears}
use Rattle.fo_closing.proofs.Clearing.{none_clears}
use Rattle.fo_mind.specs.Laws.{pinned_held}
use Rattle.fo_mind.specs.Parts.{IsBlock, IsPinned, Parts, label_at, memory, state_of}
use Rattle.fo_mind.specs.Sound.{Holding, Placed, Standing}
use Rattle.fo_mind.specs.Turning.{Released, Turning, Unpinned, is_changed, is_pinned_at, may_release, unpinned_fact}
use Rattle.fo_mind.proofs.Releasing.{Cuts, MayBe, cuts_of, may_be}
use Rattle.fo_mind.proofs.Unpinning.{Unpins, unpins_of}
use Rattle.fo_turning.specs.Freed.{Loosens, Yields, pins_below}
use Rattle.fo_turning.proofs.Yielding.{Still, changing_held, same_memory, yields_on, yields_still}

never : {A : Type 0} → true ≡ false → A
never e = cc

none_some : {A : Type 0} {x : Buffer} → None ≡ Some x → A
none_some e = cc

same_some : {x y : Buffer} → Some x ≡ Some y → x ≡ y
same_some e = cc

-- ---- how many are pinned

one_le : (a b : Bool) → (a ≡ true → b ≡ true) → cond a 1 0 ≤ cond b 1 0
one_le true true h = omega arith
one_le true false h = never (sym (h refl))
one_le false true h = omega arith
one_le false false h = omega arith

pub pins_up_to : (n : ℕ) (h k : Held) → ((b : ℕ) → b < n → is_pinned_at k b ≡ true → is_pinned_at h b ≡ true) → pins_below n k ≤ pins_below n h
pins_up_to zero h k each = omega arith
pins_up_to (suc n) h k each =
    let here = one_le (is_pinned_at k n) (is_pinned_at h n) (each n (omega arith)) in
    let rest = pins_up_to n h k (λ b lt e. each b (omega (arith, lt)) e) in
    omega (arith, here, rest)

pub pins_fewer : (n at : ℕ) (h k : Held) → at < n → is_pinned_at h at ≡ true → is_pinned_at k at ≡ false → ((b : ℕ) → b ≢ at → is_pinned_at k b ≡ true → is_pinned_at h b ≡ true) → pins_below n k < pins_below n h
pins_fewer zero at h k lt was is others = absurd (omega (arith, lt))
pins_fewer (suc n) at h k lt was is others = ⊎_elim
    (λ e.
    let rest = pins_up_to n h k (λ b below p. others b (λ same. omega (arith, same, e, below)) p) in
    let one : ◌≡◌ {A = ℕ} (cond (is_pinned_at h n) 1 0) 1 = ap (λ b. cond b 1 0) (ap (is_pinned_at h) e ∙ was) in
    let none : ◌≡◌ {A = ℕ} (cond (is_pinned_at k n) 1 0) 0 = ap (λ b. cond b 1 0) (ap (is_pinned_at k) e ∙ is) in
    omega (arith, rest, one, none))
    (λ ne.
    let rest = pins_fewer n at h k (let far : n ≢ at = ne in omega (arith, lt, far)) was is others in
    let here = one_le (is_pinned_at k n) (is_pinned_at h n) (others n ne) in
    omega (arith, here, rest))
    (cases_eq n at)

-- ---- one fact changes

set_keeps : {A : Type 0} (field : Fact → A) (facts : List Fact) (at : ℕ) (f : Fact) → field f ≡ field (fact_at facts at) → (b : ℕ) → field (fact_at (set facts at f) b) ≡ field (fact_at facts b)
set_keeps field facts at f same b = ⊎_elim
    (λ e. ⊎_elim
    (λ lt. ap (λ n. field (fact_at (set facts at f) n)) e ∙ ap field (get_or-set_same facts at f no_fact lt) ∙ same ∙ ap (λ n. field (fact_at facts n)) (sym e))
    (λ ge.
    let n = length-set facts at f in
    ap (λ k. field (fact_at (set facts at f) k)) e ∙ ap field (get_or_past (set facts at f) at no_fact (omega (arith, n, ge))) ∙ ap field (sym (get_or_past facts at no_fact ge)) ∙ ap (λ k. field (fact_at facts k)) (sym e))
    (cases_lt at (length facts)))
    (λ ne. ap field (get_or-set_other facts at b f no_fact ne))
    (cases_eq b at)

-- ---- nothing changes, and one step after another

still_none : (p : Parts) → Still p p
still_none p = record {
  region = refl;
  one = refl;
  apart = λ b. refl;
  origin = λ b. refl;
  linked = λ b. refl;
  clears = refl;
  waits = refl;
  removals = omega arith;
  only = λ r h. h;
  next = refl;
  granted = refl;
  dirty = λ b d. d;
  known = λ b is was now. refl;
  faults = omega arith;
}

pub yields_none : (p : Parts) → Yields p p
yields_none p = yields_still p p (still_none p)

pub loosens_same : (p q : Parts) → q ≡ p → Loosens p q
loosens_same p q e = subst (Loosens p) (sym e) (record { yields = yields_none p; rest = refl })

pub loosens_on : {p m q : Parts} → Loosens p m → Loosens m q → Loosens p q
loosens_on {p} {m} {q} a b = record {
  yields = yields_on a.yields b.yields;
  rest = b.rest ∙ ap (λ (z : Parts). record z { held = q.held; facts = q.facts }) a.rest;
}

-- ---- a block is pinned no more

module _ (p q : Parts) (at : ℕ) {first : ℕ} (u : Unpinned at p q) (turning : Turning first p.held p.turns p.facts) (standing : Standing p.held p.facts p.clears) (is_first : p.region.first ≡ first) where
  x : Unpins at p.held q.held
  x = unpins_of at p.held q.held (record { is = u.pinned }) u.held

  held_dirty : (b : ℕ) → option_map_or is_dirty (held_at q.held b) false ≡ option_map_or is_dirty (held_at p.held b) false
  held_dirty b = ⊎_elim
      (λ e. ap (λ n. option_map_or is_dirty (held_at q.held n) false) e ∙ ap (λ (o : Option Buffer). option_map_or is_dirty o false) (x.here) ∙ sym (ap (λ (o : Option Buffer). option_map_or is_dirty o false) x.held) ∙ ap (λ n. option_map_or is_dirty (held_at p.held n) false) (sym e))
      (λ ne. ap (λ (o : Option Buffer). option_map_or is_dirty o false) (x.others b ne))
      (cases_eq b at)

  fact_same : {A : Type 0} (field : Fact → A) → field (unpinned_fact (fact_at p.facts at)) ≡ field (fact_at p.facts at) → (b : ℕ) → field (fact_at q.facts b) ≡ field (fact_at p.facts b)
  fact_same field same b = ap (λ (fs : List Fact). field (fact_at fs b)) u.facts ∙ set_keeps field p.facts at (unpinned_fact (fact_at p.facts at)) same b

  still_unpinned : Still p q
  still_unpinned = record {
    region = ap (λ (z : Parts). z.region) u.rest;
    one = ap (λ (z : Parts). z.one) u.rest;
    apart = fact_same (λ (f : Fact). f.apart) refl;
    origin = fact_same (λ (f : Fact). f.origin) refl;
    linked = fact_same (λ (f : Fact). f.linked) refl;
    clears = ap (λ (z : Parts). z.clears) u.rest;
    waits = ap (λ (z : Parts). z.waits) u.rest;
    removals = let e = ap (λ (z : Parts). length z.removals) u.rest in omega (arith, e);
    only = λ r h. subst (λ (rs : List Removal). Contains rs r) (ap (λ (z : Parts). z.removals) u.rest) h;
    next = ap (λ (z : Parts). z.next) u.rest;
    granted = ap (λ (z : Parts). z.granted) u.rest;
    dirty = λ b d. ⊎_elim (λ turn. inl (sym (ap (λ (z : Parts). (flag_at z.turns b).dirty) u.rest) ∙ turn)) (λ c. inr (sym (held_dirty b) ∙ c)) d;
    known = λ b is was now. known b (changing_held p b turning standing is_first is was);
    faults = let e = ap (λ (z : Parts). z.faults) u.rest in omega (arith, e);
  }
    where
      label : (b : ℕ) → label_at q.region b ≡ label_at p.region b
      label b = ap (λ (z : Parts). label_at z.region b) u.rest

      known : (b : ℕ) → (y : Buffer) × (held_at p.held b ≡ Some y) → memory q b ≡ memory p b
      known b h = ⊎_elim
          (λ e. same_memory p q b h.0 (record x.was { pinned = false }) (label b) (ap (λ (z : Parts). z.one) u.rest) (ap (λ (z : Parts). z.one_bytes) u.rest) h.1 (ap (held_at q.held) e ∙ x.here)
          (ap (λ (z : Buffer). z.block) (same_some (sym x.held ∙ ap (held_at p.held) (sym e) ∙ h.1))))
          (λ ne. same_memory p q b h.0 h.0 (label b) (ap (λ (z : Parts). z.one) u.rest) (ap (λ (z : Parts). z.one_bytes) u.rest) h.1 (x.others b ne ∙ h.1) refl)
          (cases_eq b at)

  pub loosens_unpinned : Loosens p q
  loosens_unpinned = record { yields = yields_still p q still_unpinned; rest = u.rest }

  pub unpinned_fewer : (n : ℕ) → at < n → pins_below n q.held < pins_below n p.held
  unpinned_fewer n lt = pins_fewer n at p.held q.held lt u.pinned (ap (λ (o : Option Buffer). option_map_or is_pinned o false) x.here) (λ b ne e. sym (ap (λ (o : Option Buffer). option_map_or is_pinned o false) (x.others b ne)) ∙ e)

-- a pinned block is a data block
pub pinned_block : (p : Parts) {low first count : ℕ} (at : ℕ) → Placed p.region p.turns p.facts first count → Holding low first count p.region p.held → IsPinned p.held at → IsBlock p at
pinned_block p at placed holding pinned =
    let h = pinned_held (held_at p.held at) pinned in
    let b = holding.block at h.0 h.1 in
    (subst (λ n. n ≤ at) (sym placed.is_first) b.0, subst (λ n. at < n) (sym placed.is_count) b.1)

-- ---- a block is given up, or stays

module _ (p q : Parts) (at : ℕ) {first : ℕ} (turning : Turning first p.held p.turns p.facts) (standing : Standing p.held p.facts p.clears) (is_first : p.region.first ≡ first) where
  module _ (may : may_release p at ≡ true) (r : Released at p q) where
    m : MayBe p at
    m = may_be p at may

    c : Cuts at p.held q.held
    c = cuts_of at p.held q.held r.was.block r.is

    held_less : (b : ℕ) → option_map_or is_dirty (held_at q.held b) false ≡ true → option_map_or is_dirty (held_at p.held b) false ≡ true
    held_less b d = ⊎_elim
        (λ e. never (sym d ∙ ap (λ n. option_map_or is_dirty (held_at q.held n) false) e ∙ ap (λ (o : Option Buffer). option_map_or is_dirty o false) c.here))
        (λ ne. sym (ap (λ (o : Option Buffer). option_map_or is_dirty o false) (c.others b ne)) ∙ d)
        (cases_eq b at)

    not_changing : (b : ℕ) → b ≡ at → IsBlock p b → IsChanging (state_of p) b → ⊥
    not_changing b e is w = ⊎_elim
        (λ d. ⊎_elim
        (λ turn. never (sym ((turning.each b).held turn (subst (λ n. n ≤ b) is_first is.0)) ∙ ap (λ n. is_changed (held_at p.held n)) e ∙ m.calm))
        (λ changed. never (sym changed ∙ ap (λ n. is_changed (held_at p.held n)) e ∙ m.calm))
        d)
        (λ k. none_clears at p.clears m.uncleared k.0 (subst (λ n. Clears p.clears n k.0) e k.1))
        w

    still_released : Still p q
    still_released = record {
      region = ap (λ (z : Parts). z.region) r.rest;
      one = ap (λ (z : Parts). z.one) r.rest;
      apart = λ b. ap (λ (z : Parts). (fact_at z.facts b).apart) r.rest;
      origin = λ b. ap (λ (z : Parts). (fact_at z.facts b).origin) r.rest;
      linked = λ b. ap (λ (z : Parts). (fact_at z.facts b).linked) r.rest;
      clears = ap (λ (z : Parts). z.clears) r.rest;
      waits = ap (λ (z : Parts). z.waits) r.rest;
      removals = let e = ap (λ (z : Parts). length z.removals) r.rest in omega (arith, e);
      only = λ x h. subst (λ (rs : List Removal). Contains rs x) (ap (λ (z : Parts). z.removals) r.rest) h;
      next = ap (λ (z : Parts). z.next) r.rest;
      granted = ap (λ (z : Parts). z.granted) r.rest;
      dirty = λ b d. ⊎_elim (λ turn. inl (sym (ap (λ (z : Parts). (flag_at z.turns b).dirty) r.rest) ∙ turn)) (λ k. inr (held_less b k)) d;
      known = λ b is was now. ⊎_elim
          (λ e. absurd (not_changing b e is was))
          (λ ne.
          let h = changing_held p b turning standing is_first is was in
          same_memory p q b h.0 h.0 (ap (λ (z : Parts). label_at z.region b) r.rest) (ap (λ (z : Parts). z.one) r.rest) (ap (λ (z : Parts). z.one_bytes) r.rest) h.1 (c.others b ne ∙ h.1) refl)
          (cases_eq b at);
      faults = let e = ap (λ (z : Parts). z.faults) r.rest in omega (arith, e);
    }

    loosens_given : Loosens p q
    loosens_given = record { yields = yields_still p q still_released; rest = r.rest ∙ ap (λ (z : Parts). record p { held = q.held; facts = z.facts }) (sym r.rest) }

    fewer_given : (n : ℕ) → pins_below n q.held ≤ pins_below n p.held
    fewer_given n = pins_up_to n p.held q.held (λ b lt e. ⊎_elim
        (λ same. never (sym e ∙ ap (λ k. is_pinned_at q.held k) same ∙ ap (λ (o : Option Buffer). option_map_or is_pinned o false) c.here))
        (λ ne. sym (ap (λ (o : Option Buffer). option_map_or is_pinned o false) (c.others b ne)) ∙ e)
        (cases_eq b at))

  module _ (gone : may_release p at ≡ true → Released at p q) (kept : may_release p at ≡ false → q ≡ p) where
    pub loosens_released : Loosens p q
    loosens_released = by (may_release p at) refl
      where
        by : (b : Bool) → may_release p at ≡ b → Loosens p q
        by true e = loosens_given e (gone e)
        by false e = loosens_same p q (kept e)

    pub released_fewer : (n : ℕ) → pins_below n q.held ≤ pins_below n p.held
    released_fewer n = by (may_release p at) refl
      where
        by : (b : Bool) → may_release p at ≡ b → pins_below n q.held ≤ pins_below n p.held
        by true e = fewer_given e (gone e) n
        by false e = let same = ap (λ (z : Parts). pins_below n z.held) (kept e) in omega (arith, same)

-- ---- over any device

pub unpinned_at : (disk : Holds) (faults : ℕ) (p q : Parts) (at : ℕ) → Unpinned at p q → Unpinned at (record p { disk = disk; faults = faults }) (record q { disk = disk; faults = faults })
unpinned_at disk faults p q at u = record { pinned = u.pinned; held = u.held; facts = u.facts; rest = ap (λ (z : Parts). record z { disk = disk; faults = faults }) u.rest }

pub released_at : (disk : Holds) (faults : ℕ) (p q : Parts) (at : ℕ) → Released at p q → Released at (record p { disk = disk; faults = faults }) (record q { disk = disk; faults = faults })
released_at disk faults p q at r = record { was = r.was; held = r.held; is = r.is; alone = r.alone; rest = ap (λ (z : Parts). record z { disk = disk; faults = faults }) r.rest }

-- one that is unpinned, and then given up or not
module _ (disk : Holds) (faults : ℕ) (p m q : Parts) (at : ℕ) {first second : ℕ} (u : Unpinned at p m) (gone : may_release m at ≡ true → Released at m q) (kept : may_release m at ≡ false → q ≡ m)
    (turning : Turning first p.held p.turns p.facts) (standing : Standing p.held p.facts p.clears) (is_first : p.region.first ≡ first) (mid_turning : Turning second m.held m.turns m.facts) (mid_standing : Standing m.held m.facts m.clears) (is_second : m.region.first ≡ second) where
  abbrev at_disk : Parts → Parts
  at_disk z = record z { disk = disk; faults = faults }

  pub loosens_next : Loosens (at_disk p) (at_disk q)
  loosens_next = loosens_on
      (loosens_unpinned (at_disk p) (at_disk m) at (unpinned_at disk faults p m at u) turning standing is_first)
      (loosens_released (at_disk m) (at_disk q) at mid_turning mid_standing is_second (λ e. released_at disk faults m q at (gone e)) (λ e. ap at_disk (kept e)))

  pub fewer_next : (n : ℕ) → at < n → pins_below n q.held < pins_below n p.held
  fewer_next n lt =
      let one = unpinned_fewer p m at u turning standing is_first n lt in
      let two = released_fewer m q at mid_turning mid_standing is_second gone kept n in
      omega (arith, one, two)
