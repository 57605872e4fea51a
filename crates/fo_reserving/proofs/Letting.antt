-- Pins end, and blocks are given up.
use Rattle.std.proofs.Common.{◌≡◌, inl, inr, ⊎_elim, ℕ, ◌<◌, ◌≤◌, ◌||◌, ◌==◌, Bool, true, false, cond, nat_eq, List, [], ◌∷◌, length, set, Option, Some, None, is_some, refl, sym, ap, ◌∙◌, subst, arith}
use Rattle.std.specs.Cmp.{nat_eq_equiv}
use Rattle.std.specs.List.{list_any}
use Rattle.std.specs.Map.{lookup}
use Rattle.std.specs.Option.{option_map, option_map_or}
use Rattle.std.proofs.lemmas.Bool.{cases_eq}
use Rattle.std.proofs.lemmas.List.{get_or-set_same, get_or-set_other}
use Rattle.fo_disk.specs.Disk.{Content as Holds}
use Rattle.fo_disk.specs.Disk.{latest_of, versions_of}
use Rattle.fo_buffers.specs.declared.block.Buffer.{Buffer}
use Rattle.fo_buffers.specs.Held.{block_in, held_at, is_pinned, pinned_as}
use Rattle.fo_crash.specs.Images.{Content}
use Rattle.fo_ports.specs.State.{IsChanging, Rests, StaysKnown}
use Rattle.fo_buffers.specs.of_slots.Read.{read}
use Rattle.fo_facts.specs.declared.fact.Fact.{Fact}
use Rattle.fo_facts.specs.Known.{fact_at, no_fact, owing_no_more}
use Rattle.fo_waits.specs.declared.listed.Clearing.{Clearing}
use Rattle.fo_waits.specs.Listed.{Clears}
use Rattle.fo_closing.specs.of_mind.Laws.{held_pinned}
use Rattle.fo_closing.specs.of_mind.Parts.{IsBlock, IsDirty, IsPinned, Parts, bytes_at, bytes_of, label_at, memory, one_content, state_of}
use Rattle.fo_closing.specs.of_mind.Sound.{Holding, Placed, Standing}
use Rattle.fo_closing.specs.of_mind.Turning.{Released, Turning, Unpinned, is_changed, may_release, unpinned_fact}
use Rattle.fo_closing.proofs.of_mind.Refilling.{within_facts}
use Rattle.fo_closing.proofs.of_mind.Releasing.{Cuts, MayBe, cuts_of, may_be}
use Rattle.fo_closing.proofs.of_mind.Unpinning.{Unpins, unpins_of}
use Rattle.fo_settling.specs.of_cache.Fits.{Fits}
use Rattle.fo_settling.proofs.of_cache.Outcomes.{lookup_contains}
use Rattle.fo_settling.specs.Clearings.{Lasts}
use Rattle.fo_reserving.specs.Steps.{Lets, Reserves, as_held}
use Rattle.fo_reserving.proofs.Joining.{reserves_lasting}

never : {A : Type 0} → false ≡ true → A
never e = cc

-- ---- what is held, pinned or not

abbrev freed : Option Buffer → Option Buffer
freed o = option_map (pinned_as false) o

changed_freed : (o : Option Buffer) → is_changed (freed o) ≡ is_changed o
changed_freed (Some x) = refl
changed_freed None = refl

freed_none : (o : Option Buffer) → freed o ≡ None → o ≡ None
freed_none (Some x) e = absurd (clash e)
  where
    clash : freed (Some x) ≡ None → ⊥
    clash h = cc
freed_none None e = refl

pub same_changed : (o n : Option Buffer) → freed n ≡ freed o → is_changed n ≡ is_changed o
same_changed o n e = sym (changed_freed n) ∙ ap is_changed e ∙ changed_freed o

freed_bytes : (o n : Option Buffer) (c d : Option (List ℕ)) (l m : List ℕ) → freed n ≡ freed o → is_some o ≡ true → bytes_of n c l ≡ bytes_of o d m
freed_bytes (Some x) (Some y) c d l m e h = ap (λ (o : Option Buffer). option_map_or (λ (z : Buffer). z.block) o []) e
freed_bytes (Some x) None c d l m e h = absurd (clash e)
  where
    clash : None ≡ freed (Some x) → ⊥
    clash f = cc
freed_bytes None n c d l m e h = never h

-- ---- one after another

pub lets_none : (p : Parts) → Lets p p
lets_none p = record { held = λ b. inl refl; pinned = λ b h. h; facts = λ b. refl; rest = refl }

pub lets_on : {p m q : Parts} → Lets p m → Lets m q → Lets p q
lets_on {p} {m} {q} a b = record {
  held = λ k. ⊎_elim
      (λ same. ⊎_elim
      (λ was. inl (same ∙ was))
      (λ let_go. inr (freed_none (held_at q.held k) (same ∙ ap freed let_go.0), let_go.1, let_go.2))
      (a.held k))
      (λ let_go. ⊎_elim
      (λ was. inr (let_go.0, sym (same_changed (held_at p.held k) (held_at m.held k) was) ∙ let_go.1, λ j c. let_go.2 j (subst (λ (z : Parts). Clears z.clears k j) (sym a.rest) c)))
      (λ before. inr (let_go.0, before.1, before.2))
      (a.held k))
      (b.held k);
  pinned = λ k h. a.pinned k (b.pinned k h);
  facts = λ k. b.facts k ∙ a.facts k;
  rest = b.rest ∙ ap (λ (z : Parts). record z { held = q.held; facts = q.facts }) a.rest;
}

-- ---- a block is pinned no more

pub lets_unpinned : (p q : Parts) (at : ℕ) {first count : ℕ} → Placed p.region p.turns p.facts first count → Holding p.one.low first count p.region p.held → Unpinned at p q → Lets p q
lets_unpinned p q at placed holding u = record {
  held = λ b. inl (⊎_elim
      (λ e. ap (as_held q.held) e ∙ ap freed z.here ∙ sym (ap (as_held p.held) e ∙ ap freed z.held))
      (λ ne. ap freed (z.others b ne))
      (cases_eq b at));
  pinned = λ b h. ⊎_elim
      (λ e. subst (IsPinned p.held) (sym e) u.pinned)
      (λ ne. sym (ap (λ (o : Option Buffer). option_map_or is_pinned o false) (z.others b ne)) ∙ h)
      (cases_eq b at);
  facts = λ b. ap (λ (fs : List Fact). owing_no_more (fact_at fs b)) u.facts ∙ ⊎_elim
      (λ e. ap (λ n. owing_no_more (fact_at (set p.facts at (unpinned_fact (fact_at p.facts at))) n)) e ∙ ap owing_no_more (get_or-set_same p.facts at (unpinned_fact (fact_at p.facts at)) no_fact lt) ∙ sym (ap (λ n. owing_no_more (fact_at p.facts n)) e))
      (λ ne. ap owing_no_more (get_or-set_other p.facts at b (unpinned_fact (fact_at p.facts at)) no_fact ne))
      (cases_eq b at);
  rest = u.rest;
}
  where
    z : Unpins at p.held q.held
    z = unpins_of at p.held q.held (record { is = u.pinned }) u.held

    lt : at < length p.facts
    lt = (within_facts at placed holding (held_pinned p.held at u.pinned)).0

pub free_unpinned : (p q : Parts) (at : ℕ) → Unpinned at p q → IsPinned q.held at → ⊥
free_unpinned p q at u h =
    let z = unpins_of at p.held q.held (record { is = u.pinned }) u.held in
    never (sym (ap (λ (o : Option Buffer). option_map_or is_pinned o false) z.here) ∙ h)

-- ---- a block is given up

none_clears : (cs : List Clearing) (at : ℕ) → list_any (λ (c : Clearing). c.at == at) cs ≡ false → (j : ℕ) → Clears cs at j → ⊥
none_clears [] at e j c = c
none_clears (c ∷ cs) at e j h =
    let p = parts_false (c.at == at) (list_any (λ (x : Clearing). x.at == at) cs) e in
    ⊎_elim (λ here. same here.0 p.0) (λ later. none_clears cs at p.1 j later) h
  where
    parts_false : (a b : Bool) → (a || b) ≡ false → (a ≡ false) × (b ≡ false)
    parts_false false b e = (refl, e)
    parts_false true b e = never (sym e)

    same : c.at ≡ at → (c.at == at) ≡ false → ⊥
    same e f = never (sym f ∙ ap (λ n. n == at) e ∙ nat_eq_equiv.refl at)

module _ (p q : Parts) (at : ℕ) where
  pub lets_gone : may_release p at ≡ true → Released at p q → Lets p q
  lets_gone may r = record {
    held = λ b. ⊎_elim
        (λ e. inr (
          ap (held_at q.held) e ∙ cuts.here,
          ap (λ n. is_changed (held_at p.held n)) e ∙ m.calm,
          λ j c. none_clears p.clears at m.uncleared j (subst (λ n. Clears p.clears n j) e c),
        ))
        (λ ne. inl (ap freed (cuts.others b ne)))
        (cases_eq b at);
    pinned = λ b h. ⊎_elim
        (λ e. never (sym (ap (λ n. option_map_or is_pinned (held_at q.held n) false) e ∙ ap (λ (o : Option Buffer). option_map_or is_pinned o false) cuts.here) ∙ h))
        (λ ne. sym (ap (λ (o : Option Buffer). option_map_or is_pinned o false) (cuts.others b ne)) ∙ h)
        (cases_eq b at);
    facts = λ b. ap (λ (z : Parts). owing_no_more (fact_at z.facts b)) r.rest;
    rest = r.rest ∙ ap (λ (fs : List Fact). record p { held = q.held; facts = fs }) (sym (ap (λ (z : Parts). z.facts) r.rest));
  }
    where
      m : MayBe p at
      m = may_be p at may

      cuts : Cuts at p.held q.held
      cuts = cuts_of at p.held q.held r.was.block r.is

  pub lets_released : (may_release p at ≡ true → Released at p q) → (may_release p at ≡ false → q ≡ p) → Lets p q
  lets_released gone kept = by (may_release p at) refl
    where
      by : (t : Bool) → may_release p at ≡ t → Lets p q
      by true e = lets_gone e (gone e)
      by false e = subst (Lets p) (sym (kept e)) (lets_none p)

-- ---- in the words of calls on blocks

module _ (p q : Parts) (disk : Holds) (faults : ℕ) {first count : ℕ} (placed : Placed p.region p.turns p.facts first count) (turning : Turning first p.held p.turns p.facts) (standing : Standing p.held p.facts p.clears) (l : Lets p q) where
  abbrev P : Parts
  P = record p { disk = disk; faults = faults }

  abbrev Q : Parts
  Q = record p { held = q.held; facts = q.facts; disk = disk; faults = faults }

  dirty_was : (b : ℕ) → IsDirty p.turns q.held b → IsDirty p.turns p.held b
  dirty_was b d = ⊎_elim
      (λ turn. inl turn)
      (λ changed. ⊎_elim
      (λ same. inr (sym (same_changed (held_at p.held b) (held_at q.held b) same) ∙ changed))
      (λ let_go. never (sym (ap is_changed let_go.0) ∙ changed))
      (l.held b))
      d

  some_changed : (o : Option Buffer) → is_changed o ≡ true → is_some o ≡ true
  some_changed (Some x) e = refl
  some_changed None e = never e

  -- what memory has changed is held, and not given up
  changed_is : (b : ℕ) → IsBlock p b → IsDirty p.turns p.held b → is_changed (held_at p.held b) ≡ true
  changed_is b is d = ⊎_elim (λ turn. (turning.each b).held turn (let f = placed.is_first in let lo = is.0 in omega (arith, f, lo))) (λ h. h) d

  known : (b : ℕ) → IsBlock p b → IsChanging (state_of P) b → StaysKnown (state_of P) (state_of Q) b
  known b is was = ⊎_elim
      (λ same.
      let e : memory Q b ≡ memory P b = ap (λ (bytes : List ℕ). cond (nat_eq b 1) (one_content p.one p.one_bytes) (read (label_at p.region b).kind bytes))
      (freed_bytes (held_at p.held b) (held_at q.held b) (lookup (nat_eq b) q.held.clean) (lookup (nat_eq b) p.held.clean) (latest_of (versions_of disk b)) (latest_of (versions_of disk b)) same some) in
      record { bytes = ap (λ (c : Content). c.bytes) e; slots = λ j. inl (ap (λ (c : Content). c.slot j) e, λ h. h) })
      (λ let_go. absurd (⊎_elim
      (λ d. never (sym let_go.1 ∙ changed_is b is d))
      (λ w. let_go.2 w.0 w.1)
      was))
      (l.held b)
    where
      some : is_some (held_at p.held b) ≡ true
      some = ⊎_elim (λ d. some_changed (held_at p.held b) (changed_is b is d)) (λ w. standing.still b w.0 w.1) was

  apart_same : (b : ℕ) → (fact_at q.facts b).apart ≡ (fact_at p.facts b).apart
  apart_same b = ap (λ (x : Fact). x.apart) (l.facts b)

  origin_same : (b : ℕ) → (fact_at q.facts b).origin ≡ (fact_at p.facts b).origin
  origin_same b = ap (λ (x : Fact). x.origin) (l.facts b)

  linked_same : (b : ℕ) → (fact_at q.facts b).linked ≡ (fact_at p.facts b).linked
  linked_same b = ap (λ (x : Fact). x.linked) (l.facts b)

  rests_let : Rests (state_of P) (state_of Q)
  rests_let = record {
    blocks = λ tells. absurd tells;
    images = record { each = λ image h. absurd h };
    passes = record { later = omega arith; before = λ n image le h. h; within = λ n image lo hi h. absurd h };
    fills = λ tells. absurd tells;
    order = λ b j h. h;
    no_wait = record { each = λ a on j out w. w };
    dirty = λ b d. inl (dirty_was b d);
    closes = λ tells. absurd tells;
    leaves = λ tells. absurd tells;
    apart = λ b. (λ h. sym (apart_same b) ∙ h, λ h. apart_same b ∙ h);
    instead = λ b x. (λ h. (sym (apart_same b) ∙ h.0, sym (origin_same b) ∙ h.1), λ h. (apart_same b ∙ h.0, origin_same b ∙ h.1));
    newborn = λ b h. sym (linked_same b) ∙ h;
    newborns = λ b h. linked_same b ∙ h;
    kept = λ b is was now. known b is was;
    labels = λ b. inl refl;
    removes = λ r e w h. inl h;
    queues = λ some. inl some;
    usable = omega arith;
    settled = λ was. (record { settled = record { each = λ image h. absurd h }; clean = λ b d. (linked_same b ∙ (was.clean b (dirty_was b d)).0, λ tells. absurd tells); empty = was.empty; cleared = was.cleared }, refl);
    numbers = record { next = refl; grants = λ h. h };
  }

  module _ (unsure : List Bool) (was : Fits (record p { disk = disk }) unsure) (is : Fits (record q { disk = disk }) unsure) where
    -- what isn't changed is in memory as the device has it
    calm_bytes : (z : Parts) → Fits (record z { disk = disk }) unsure → (b : ℕ) → z.region.first ≤ b → b < length disk → (o : Option Buffer) → held_at z.held b ≡ o → is_changed o ≡ false → bytes_at z.held disk b ≡ latest_of (versions_of disk b)
    calm_bytes z fits b le lt (Some x) has calm = ap (λ (o : Option Buffer). bytes_of o (lookup (nat_eq b) z.held.clean) (latest_of (versions_of disk b))) has ∙ sym ((fits.each b le lt).held x has calm)
    calm_bytes z fits b le lt None has calm = ap (λ (o : Option Buffer). bytes_of o (lookup (nat_eq b) z.held.clean) (latest_of (versions_of disk b))) has ∙ by (lookup (nat_eq b) z.held.clean) refl
      where
        by : (c : Option (List ℕ)) → lookup (nat_eq b) z.held.clean ≡ c → bytes_of None c (latest_of (versions_of disk b)) ≡ latest_of (versions_of disk b)
        by (Some bytes) e = sym ((fits.each b le lt).listed bytes has (lookup_contains b z.held.clean bytes e))
        by None e = refl

    bytes_let : (b : ℕ) → p.region.first ≤ b → b < length disk → bytes_at q.held disk b ≡ bytes_at p.held disk b
    bytes_let b le lt = ⊎_elim
        (λ same. by (held_at p.held b) refl same)
        (λ gone. calm_bytes q is b now lt None gone.0 refl ∙ sym (calm_bytes p was b le lt (held_at p.held b) refl gone.1))
        (l.held b)
      where
        now : q.region.first ≤ b
        now = subst (λ (z : Parts). z.region.first ≤ b) (sym l.rest) le

        by : (o : Option Buffer) → held_at p.held b ≡ o → as_held q.held b ≡ as_held p.held b → bytes_at q.held disk b ≡ bytes_at p.held disk b
        by (Some x) has same = freed_bytes (held_at p.held b) (held_at q.held b) (lookup (nat_eq b) q.held.clean) (lookup (nat_eq b) p.held.clean) (latest_of (versions_of disk b)) (latest_of (versions_of disk b)) same (ap is_some has)
        by None has same = calm_bytes q is b now lt None (freed_none (held_at q.held b) (same ∙ ap freed has)) refl ∙ sym (calm_bytes p was b le lt None has refl)

    freed_blocks : (o : Option Buffer) → option_map block_in (freed o) ≡ option_map block_in o
    freed_blocks (Some x) = refl
    freed_blocks None = refl

    lasts_let : Lasts P Q
    lasts_let = record {
      region = refl;
      high = refl;
      removals = refl;
      clears = refl;
      over = λ b e. e;
      linked = linked_same;
      held = λ b. ⊎_elim (λ same. inl (sym (freed_blocks (held_at q.held b)) ∙ ap (option_map block_in) same ∙ freed_blocks (held_at p.held b))) (λ gone. inr gone.0) (l.held b);
      count = refl;
      bytes = bytes_let;
    }

    pub reserves_let : Reserves (record p { disk = disk; faults = faults }) (record q { disk = disk; faults = faults })
    reserves_let = subst (λ (z : Parts). Reserves P (record z { disk = disk; faults = faults })) (sym l.rest)
        (reserves_lasting P Q rests_let (record { first = refl; count = refl; high = refl; low = refl; root = refl; faults = omega arith }) lasts_let)
