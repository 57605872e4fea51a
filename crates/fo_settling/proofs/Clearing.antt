-- Which slots steps of a settling clear, and what stays beside that.
use Rattle.std.proofs.Common.{◌≡◌, ◌≢◌, ◌⊎◌, inl, inr, ⊎_elim, ℕ, ◌≤◌, true, nat_eq, List, [], ◌∷◌, ◌++◌, length, Option, Some, None, refl, sym, ap, ◌∙◌, subst, arith}
use Rattle.std.specs.Map.{lookup}
use Rattle.std.specs.Option.{option_map}
use Rattle.std.proofs.lemmas.Bool.{cases_eq}
use Rattle.fo_disk.specs.Disk.{DiskState, versions_of}
use Rattle.fo_disk.specs.Disk.{Content as Holds}
use Rattle.fo_cache.specs.of_buffers.declared.block.Buffer.{Buffer}
use Rattle.fo_cache.specs.of_buffers.Held.{block_in, held_at, settled}
use Rattle.fo_image.specs.declared.types.Super.{Super}
use Rattle.fo_cache.specs.of_labels.Region.{Region}
use Rattle.fo_facts.specs.declared.fact.Fact.{Fact}
use Rattle.fo_facts.specs.Known.{fact_at}
use Rattle.fo_cache.specs.of_waits.declared.listed.Clearing.{Clearing}
use Rattle.fo_cache.specs.of_waits.Ended.{TakesOut}
use Rattle.fo_cache.specs.of_waits.Listed.{Clears, ClearsAfter}
use Rattle.fo_cache.specs.of_mind.Due.{ClearedDue, IsDueSlot, is_over}
use Rattle.fo_cache.specs.of_mind.Parts.{Parts, bytes_at, bytes_of}
use Rattle.fo_cache.specs.of_mind.Sealed.{SealsPinned}
use Rattle.fo_cache.specs.of_mind.Sound.{Placed}
use Rattle.fo_cache.specs.Numbering.{Renumbers}
use Rattle.fo_cache.specs.Settling.{Settles}
use Rattle.fo_cache.proofs.Lessening.{due_others}
use Rattle.fo_cache.proofs.Numbering.{latest_rested}
use Rattle.fo_cache.proofs.Settling.{over_same}
use Rattle.fo_settling.specs.Clearings.{AfterLeaves, Clearings, ClearsBy, Due, IsCleared, IsDue, Lasts, WasDue}

-- ---- what stays

pub lasts_none : (p : Parts) → Lasts p p
lasts_none p = record { region = refl; high = refl; removals = refl; clears = refl; over = λ b e. e; linked = λ b. refl; held = λ b. inl refl; count = refl; bytes = λ b le lt. refl }

none_held : (o : Option Buffer) → option_map block_in o ≡ None → o ≡ None
none_held (Some x) e = absurd (clash e)
  where
    clash : Some x.block ≡ None → ⊥
    clash h = cc
none_held None e = refl

pub lasts_on : {p m q : Parts} → Lasts p m → Lasts m q → Lasts p q
lasts_on {p} {m} {q} a b = record {
  region = b.region ∙ a.region;
  high = b.high ∙ a.high;
  removals = b.removals ∙ a.removals;
  clears = b.clears ∙ a.clears;
  over = λ k e. b.over k (a.over k e);
  linked = λ k. b.linked k ∙ a.linked k;
  held = λ k. ⊎_elim
      (λ same. ⊎_elim (λ was. inl (same ∙ was)) (λ gone. inr (none_held (held_at q.held k) (same ∙ ap (option_map block_in) gone))) (a.held k))
      (λ gone. inr gone)
      (b.held k);
  count = b.count ∙ a.count;
  bytes = λ k le lt. b.bytes k (subst (λ (r : Region). r.first ≤ k) (sym a.region) le) (let n = a.count in omega (arith, lt, n)) ∙ a.bytes k le lt;
}

same_blocks : (o n : Option Buffer) → option_map settled n ≡ option_map settled o → option_map block_in n ≡ option_map block_in o
same_blocks o n e = sym (plain n) ∙ ap (option_map block_in) e ∙ plain o
  where
    plain : (x : Option Buffer) → option_map block_in (option_map settled x) ≡ option_map block_in x
    plain (Some x) = refl
    plain None = refl

-- turns are taken
pub lasts_turned : (s t : DiskState) (p q : Parts) (f g : ℕ) → Settles s t p q → Lasts (record p { disk = s.holds; faults = f }) (record q { disk = t.holds; faults = g })
lasts_turned s t p q f g k = record {
  region = ap (λ (z : Parts). z.region) k.rest;
  high = ap (λ (z : Parts). z.one.high) k.rest;
  removals = ap (λ (z : Parts). z.removals) k.rest;
  clears = ap (λ (z : Parts). z.clears) k.rest;
  over = k.over;
  linked = λ b. ap (λ (x : Fact). x.linked) (k.lasts b);
  held = λ b. inl (same_blocks (held_at p.held b) (held_at q.held b) (k.held b));
  count = k.count;
  bytes = λ b le lt. k.bytes b le;
}

-- block 1 is settled
pub lasts_renumbered : (s t : DiskState) (p q : Parts) (f g : ℕ) {first count : ℕ} → Placed p.region p.turns p.facts first count → Renumbers s t p q → Lasts (record p { disk = s.holds; faults = f }) (record q { disk = t.holds; faults = g })
lasts_renumbered s t p q f g placed k = record {
  region = ap (λ (z : Parts). z.region) k.rest;
  high = ap (λ (x : Super). x.high) k.one;
  removals = ap (λ (z : Parts). z.removals) k.rest;
  clears = ap (λ (z : Parts). z.clears) k.rest;
  over = k.over;
  linked = λ b. ap (λ (z : Parts). (fact_at z.facts b).linked) k.rest;
  held = λ b. inl (ap (λ (z : Parts). option_map block_in (held_at z.held b)) k.rest);
  count = k.count;
  bytes = λ b le lt.
      ap (λ (z : Parts). bytes_at z.held t.holds b) k.rest
      ∙ ap (bytes_of (held_at p.held b) (lookup (nat_eq b) p.held.clean)) (latest_rested (versions_of s.holds b) (versions_of t.holds b) (k.others b (λ e. let m = placed.is_first in let n = placed.begins in absurd (omega (arith, e, m, n, le)))));
}

-- over a device that stays, where waits end or blocks are sealed
pub lasts_beside : (p q : Parts) (h k : Holds) (f g : ℕ) → k ≡ h → q ≡ record p { waits = q.waits; facts = q.facts } → ((b : ℕ) → (fact_at q.facts b).linked ≡ (fact_at p.facts b).linked) → Lasts (record p { disk = h; faults = f }) (record q { disk = k; faults = g })
lasts_beside p q h k f g disk is linked = subst (λ (x : Holds). Lasts (record p { disk = h; faults = f }) (record q { disk = x; faults = g })) (sym disk)
    (subst (λ (z : Parts). Lasts (record p { disk = h; faults = f }) (record z { disk = h; faults = g })) (sym is)
    (record { region = refl; high = refl; removals = refl; clears = refl; over = λ b e. e; linked = linked; held = λ b. inl refl; count = refl; bytes = λ b le lt. refl }))

pub lasts_waited : (p q : Parts) (h k : Holds) (f g : ℕ) → k ≡ h → q ≡ record p { waits = [] } → Lasts (record p { disk = h; faults = f }) (record q { disk = k; faults = g })
lasts_waited p q h k f g disk over = lasts_beside p q h k f g disk (over ∙ ap (λ (z : Parts). record p { waits = z.waits; facts = z.facts }) (sym over)) (λ b. ap (λ (z : Parts). (fact_at z.facts b).linked) over)

pub lasts_sealed : (p q : Parts) (h k : Holds) (f g : ℕ) → k ≡ h → SealsPinned p q → Lasts (record p { disk = h; faults = f }) (record q { disk = k; faults = g })
lasts_sealed p q h k f g disk z = lasts_beside p q h k f g disk (z.rest ∙ ap (λ (x : Parts). record p { waits = x.waits; facts = q.facts }) (sym z.rest)) (λ b. (z.seals.counts.each b).1)

-- ---- leaves are settled before

pub waits_of : (cs : List Clearing) (b j leaf : ℕ) → ClearsAfter cs b j leaf → Clears cs b j
waits_of [] b j leaf h = absurd h
waits_of (c ∷ cs) b j leaf (inl e) = inl (e.0, e.1)
waits_of (c ∷ cs) b j leaf (inr h) = inr (waits_of cs b j leaf h)

-- what a slot that is cleared leaves of the others
pub due_out : (at i : ℕ) (p q : Parts) → ClearedDue at i p q → TakesOut at i p.clears q.clears
due_out at i p q z = subst (λ (cs : List Clearing). TakesOut at i p.clears cs) (sym now) (subst (λ (cs : List Clearing). TakesOut at i cs z.recalled.clears) (ap (λ (y : Parts). y.clears) z.ended.rest) z.recalls.out)
  where
    now : q.clears ≡ z.recalled.clears
    now = ap (λ (y : Parts). y.clears) z.slotted.follows.rest ∙ ap (λ (y : Parts). y.clears) z.slotted.hangs.rest ∙ ap (λ (y : Parts). y.clears) z.slotted.refilled.rest

-- nobody begins to wait
no_more : (p q : Parts) (ds : List Due) → ClearsBy ds p q → (b j : ℕ) → Clears q.clears b j → Clears p.clears b j
no_more p q [] by b j h = subst (λ (cs : List Clearing). Clears cs b j) by.clears h
no_more p q (d ∷ ds) by b j h = subst (λ (cs : List Clearing). Clears cs b j) by.0.clears ((due_out d.at d.slot d.before d.after by.1.clears).only b j (no_more d.after q ds by.2 b j h))

-- what a slot that was cleared later was before
cleared_on : (p m q : Parts) → ((b j : ℕ) → Clears m.clears b j → Clears p.clears b j) → (leaf : ℕ) → IsCleared m q leaf → IsCleared p q leaf
cleared_on p m q fewer leaf c = (c.0, fewer leaf c.0 c.1, c.2)

-- A settled leaf is settled at the end, or a slot of it was cleared.
over_by : (p q : Parts) (ds : List Due) → ClearsBy ds p q → (leaf : ℕ) → is_over p.turns leaf ≡ true → (is_over q.turns leaf ≡ true) ⊎ IsCleared p q leaf
over_by p q [] by leaf e = inl (by.over leaf e)
over_by p q (d ∷ ds) by leaf e = ⊎_elim
    (λ same. inr (subst (λ n. IsCleared p q n) (sym same) (d.slot, was d.at d.slot (waits_of d.before.clears d.at d.slot by.1.due.0 by.1.due.1), λ h. out.over (no_more d.after q ds by.2 d.at d.slot h))))
    (λ ne. ⊎_elim
    (λ over. inl over)
    (λ c. inr (cleared_on p d.after q (λ b j h. was b j (out.only b j h)) leaf c))
    (over_by d.after q ds by.2 leaf (over_same d.before.turns d.after.turns leaf (due_others d.before d.after d.at d.slot by.1.clears leaf ne) (by.0.over leaf e))))
    (cases_eq leaf d.at)
  where
    out : TakesOut d.at d.slot d.before.clears d.after.clears
    out = due_out d.at d.slot d.before d.after by.1.clears

    was : (b j : ℕ) → Clears d.before.clears b j → Clears p.clears b j
    was b j h = subst (λ (cs : List Clearing). Clears cs b j) by.0.clears h

after_leaves : (p q : Parts) (ds : List Due) → ClearsBy ds p q → AfterLeaves p q
after_leaves p q [] by b j h = inl (subst (λ (cs : List Clearing). Clears cs b j) (sym by.clears) h)
after_leaves p q (d ∷ ds) by b j h = ⊎_elim
    (λ this. inr (subst (λ n. WasDue p q n j) (sym this.0) (subst (λ n. WasDue p q d.at n) (sym this.1) (by.1.due.0, was d.at d.slot by.1.due.0 by.1.due.1, now by.1.due.0 by.1.due.2))))
    (λ waits. ⊎_elim
    (λ still. inl still)
    (λ gone. inr (gone.0, was b j gone.0 (out.same_leaves b j gone.0 gone.1), ⊎_elim (λ over. inl over) (λ c. inr (cleared_on p d.after q fewer gone.0 c)) gone.2))
    (after_leaves d.after q ds by.2 b j waits))
    (out.still b j (subst (λ (cs : List Clearing). Clears cs b j) (sym by.0.clears) h))
  where
    out : TakesOut d.at d.slot d.before.clears d.after.clears
    out = due_out d.at d.slot d.before d.after by.1.clears

    was : (b j leaf : ℕ) → ClearsAfter d.before.clears b j leaf → ClearsAfter p.clears b j leaf
    was b j leaf h = subst (λ (cs : List Clearing). ClearsAfter cs b j leaf) by.0.clears h

    still : (b j : ℕ) → Clears d.before.clears b j → Clears p.clears b j
    still b j h = subst (λ (cs : List Clearing). Clears cs b j) by.0.clears h

    fewer : (b j : ℕ) → Clears d.after.clears b j → Clears p.clears b j
    fewer b j h = still b j (out.only b j h)

    now : (leaf : ℕ) → is_over d.before.turns leaf ≡ true → (is_over q.turns leaf ≡ true) ⊎ IsCleared p q leaf
    now leaf e = ⊎_elim (λ over. inl over) (λ c. inr (cleared_on p d.before q still leaf c)) (over_by d.before q (d ∷ ds) (lasts_none d.before, by.1, by.2) leaf e)

pub clearings_by : (p q : Parts) (ds : List Due) → ClearsBy ds p q → Clearings p q
clearings_by p q ds by = record { dues = ds; clears = by; after = after_leaves p q ds by }

pub over_kept : {p q : Parts} → Clearings p q → (leaf : ℕ) → is_over p.turns leaf ≡ true → (is_over q.turns leaf ≡ true) ⊎ IsCleared p q leaf
over_kept {p} {q} c leaf e = over_by p q c.dues c.clears leaf e

-- ---- slots that are cleared

first_on : (p m q : Parts) (ds : List Due) → Lasts p m → ClearsBy ds m q → ClearsBy ds p q
first_on p m q [] a b = lasts_on a b
first_on p m q (d ∷ ds) a b = (lasts_on a b.0, b.1, b.2)

dues_on : (p m q : Parts) (ds es : List Due) → ClearsBy ds p m → ClearsBy es m q → ClearsBy (ds ++ es) p q
dues_on p m q [] es a b = first_on p m q es a b
dues_on p m q (d ∷ ds) es a b = (a.0, a.1, dues_on d.after m q ds es a.2 b)

pub clearings_on : {p m q : Parts} → Clearings p m → Clearings m q → Clearings p q
clearings_on {p} {m} {q} a b = clearings_by p q (a.dues ++ b.dues) (dues_on p m q a.dues b.dues a.clears b.clears)

pub clearings_of : {p q : Parts} → Lasts p q → Clearings p q
clearings_of {p} {q} l = clearings_by p q [] l

pub clearings_none : (p : Parts) → Clearings p p
clearings_none p = clearings_of (lasts_none p)

clears_one : (at i : ℕ) (p q : Parts) → length p.walk.pairs ≡ 0 → ClearedDue at i p q → IsDueSlot p.turns p.clears at i → Clearings p q
clears_one at i p q rests c due = clearings_by p q (record { at = at; slot = i; before = p; after = q } ∷ []) (lasts_none p, record { rests = rests; due = due; clears = c }, lasts_none q)

-- over a device that stays
pub clearings_one : (at i : ℕ) (p q : Parts) (h k : Holds) (f g : ℕ) → k ≡ h → g ≡ f → length p.walk.pairs ≡ 0 → ClearedDue at i (record p { disk = h; faults = f }) (record q { disk = h; faults = f }) → IsDueSlot p.turns p.clears at i → Clearings (record p { disk = h; faults = f }) (record q { disk = k; faults = g })
clearings_one at i p q h k f g disk faults rests c due = subst (λ (x : Holds). Clearings (record p { disk = h; faults = f }) (record q { disk = x; faults = g })) (sym disk)
    (subst (λ n. Clearings (record p { disk = h; faults = f }) (record q { disk = h; faults = n })) (sym faults)
    (clears_one at i (record p { disk = h; faults = f }) (record q { disk = h; faults = f }) rests c due))
