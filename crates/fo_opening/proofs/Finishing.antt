-- A cache is finished.
use Rattle.std.proofs.Common.{◌≡◌, ◌≢◌, inl, inr, ⊎_elim, ℕ, ◌<◌, ◌≤◌, ◌^◌, Bool, true, false, cond, nat_eq, List, [], length, Result, Ok, Err, Option, None, Some, refl, sym, ap, ◌∙◌, subst, arith}
use Rattle.std.specs.Map.{lookup}
use Rattle.std.specs.Option.{option_map, option_map_or}
use Rattle.std.specs.Result.{IfErr, OnOk, OnErr}
use Rattle.std.proofs.lemmas.Bool.{ne_eqb}
use Rattle.fo_base.specs.Cause.{Rose}
use Rattle.fo_disk.specs.Disk.{DiskState, latest_of, versions_of}
use Rattle.fo_disk.specs.Disk.{Content as Holds}
use Rattle.fo_image.specs.declared.types.Super.{Super}
use Rattle.fo_image.specs.Format.{SpellsSuper, SuperHolds}
use Rattle.fo_crash.specs.Images.{Content}
use Rattle.fo_buffers.specs.declared.block.Buffer.{Buffer}
use Rattle.fo_buffers.specs.Held.{Held, held_at, pinned_as}
use Rattle.fo_labels.specs.Region.{usable_count}
use Rattle.fo_order.specs.declared.marks.Flags.{Flags}
use Rattle.fo_order.specs.Flags.{settled_tried}
use Rattle.fo_order.specs.Keeps.{Turns}
use Rattle.fo_order.specs.Turns.{IsQuiet, IsSynced, flag_at}
use Rattle.fo_ports.specs.Causes.{Caused}
use Rattle.fo_ports.specs.State.{StaysKnown}
use Rattle.fo_ports.specs.declared.error.BlockError.{BlockError}
use Rattle.fo_ports.specs.declared.error.BlockError.TheVariants.{Full, Damaged, Fault, Arena, Memory}
use Rattle.fo_buffers.specs.of_slots.Read.{read}
use Rattle.fo_waits.specs.Listed.{Clears}
use Rattle.fo_mind.specs.Laws.{keeps_joins}
use Rattle.fo_mind.specs.Parts.{IsBlock, Parts, bytes_at, bytes_of, content_at, label_at, least_limit, memory, one_content, state_of}
use Rattle.fo_mind.specs.Sound.{Placed}
use Rattle.fo_mind.specs.Turning.{Turning, is_changed}
use Rattle.fo_cache.specs.Easing.{Eases}
use Rattle.fo_cache.specs.Fits.{Fits, FitsLabels, FitsOne}
use Rattle.fo_cache.specs.Numbering.{Renumbers}
use Rattle.fo_cache.specs.Settling.{Rested, Settles}
use Rattle.fo_cache.specs.Supers.{Counts, Doubted}
use Rattle.fo_cache.proofs.Easing.{rests_joins}
use Rattle.fo_cache.proofs.Numbering.{latest_rested}
use Rattle.fo_cache.proofs.Outcomes.{lookup_contains, quiet_is_memory}
use Rattle.fo_reserving.specs.Steps.{Lets, Reserves, as_held}
use Rattle.fo_opening.specs.Finished.{Ends, Finished, KeepsBytes, Settled, saved, saved_number}

-- ---- steps

pub ends_eased : {p q : Parts} → Eases p q → Ends p q
ends_eased e = record { rests = e.rests; keeps = e.keeps; labels = λ b. (e.blocks b).0; queued = e.queued }

pub ends_on : {p m q : Parts} → Ends p m → Ends m q → Ends p q
ends_on {p} {m} {q} a b = record {
  rests = rests_joins p m q a.rests b.rests a.keeps (λ x ne is. ne (b.labels x));
  keeps = keeps_joins p m q a.keeps b.keeps;
  labels = λ x. b.labels x ∙ a.labels x;
  queued = let x = a.queued in let y = b.queued in omega (arith, x, y);
}

-- pins end, over a device that stays
pub ends_let : (p q : Parts) (h k : Holds) (f g : ℕ) → Lets p q → Reserves (record p { disk = h; faults = f }) (record q { disk = k; faults = g }) → Ends (record p { disk = h; faults = f }) (record q { disk = k; faults = g })
ends_let p q h k f g l r = record {
  rests = r.rests;
  keeps = r.keeps;
  labels = λ b. ap (λ (z : Parts). label_at z.region b) l.rest;
  queued = let e = ap (λ (z : Parts). length z.removals) l.rest in omega (arith, e);
}

-- a refusal of a later call
pub caused_later : {T : Type 0} (f g h : ℕ) (r : Result T BlockError) → f ≤ g → IfErr r (Caused ⊥ (λ b. ⊥) (Rose g h) ⊥) → IfErr r (Caused ⊥ (λ b. ⊥) (Rose f h) ⊥)
caused_later f g h (Ok x) le c = tt
caused_later f g h (Err Full) le c = absurd c
caused_later f g h (Err (Damaged at)) le c = absurd c
caused_later f g h (Err (Fault which)) le c = omega (arith, le, c)
caused_later f g h (Err (Arena which)) le c = absurd c
caused_later f g h (Err Memory) le c = tt

-- ---- bytes

pub bytes_on : {s t u : DiskState} {p m q : Parts} → KeepsBytes s t p m → KeepsBytes t u m q → KeepsBytes s u p q
bytes_on a b = record { first = b.first ∙ a.first; bytes = λ x le. b.bytes x (subst (λ n. n ≤ x) (sym a.first) le) ∙ a.bytes x le }

pub bytes_turned : {s t : DiskState} {p q : Parts} → Settles s t p q → KeepsBytes s t p q
bytes_turned k = record { first = ap (λ (z : Parts). z.region.first) k.rest; bytes = k.bytes }

-- where no data block is written
pub bytes_beside : (s t : DiskState) (p q : Parts) {first count : ℕ} → Placed p.region p.turns p.facts first count → ((k : ℕ) → k ≢ 1 → Rested (versions_of s.holds k) (versions_of t.holds k)) → q.region ≡ p.region → q.held ≡ p.held → KeepsBytes s t p q
bytes_beside s t p q placed others region held = record {
  first = ap (λ r. r.first) region;
  bytes = λ b le.
      ap (λ (h : Held). bytes_at h t.holds b) held
      ∙ ap (bytes_of (held_at p.held b) (lookup (nat_eq b) p.held.clean)) (latest_rested (versions_of s.holds b) (versions_of t.holds b) (others b (λ e. let f = placed.is_first in let g = placed.begins in absurd (omega (arith, e, f, g, le)))));
}

pub bytes_renumbered : (s t : DiskState) (p q : Parts) {first count : ℕ} → Placed p.region p.turns p.facts first count → Renumbers s t p q → KeepsBytes s t p q
bytes_renumbered s t p q placed r = bytes_beside s t p q placed r.others (ap (λ (z : Parts). z.region) r.rest) (ap (λ (z : Parts). z.held) r.rest)

-- what isn't changed is in memory as the device has it
calm_bytes : (h : Holds) (unsure : List Bool) (z : Parts) → Fits (record z { disk = h }) unsure → (b : ℕ) → z.region.first ≤ b → b < length h → (o : Option Buffer) → held_at z.held b ≡ o → is_changed o ≡ false → bytes_at z.held h b ≡ latest_of (versions_of h b)
calm_bytes h unsure z fits b le lt (Some x) is calm = ap (λ (o : Option Buffer). bytes_of o (lookup (nat_eq b) z.held.clean) (latest_of (versions_of h b))) is ∙ sym ((fits.each b le lt).held x is calm)
calm_bytes h unsure z fits b le lt None is calm = ap (λ (o : Option Buffer). bytes_of o (lookup (nat_eq b) z.held.clean) (latest_of (versions_of h b))) is ∙ by (lookup (nat_eq b) z.held.clean) refl
  where
    by : (c : Option (List ℕ)) → lookup (nat_eq b) z.held.clean ≡ c → bytes_of None c (latest_of (versions_of h b)) ≡ latest_of (versions_of h b)
    by (Some bytes) e = sym ((fits.each b le lt).listed bytes is (lookup_contains b z.held.clean bytes e))
    by None e = refl

abbrev freed : Option Buffer → Option Buffer
freed o = option_map (pinned_as false) o

some_none : {A : Type 0} (x : Buffer) → freed (Some x) ≡ freed None → A
some_none x e = cc

block : (x y : Buffer) → freed (Some y) ≡ freed (Some x) → y.block ≡ x.block
block x y e = ap (λ (o : Option Buffer). option_map_or (λ (z : Buffer). z.block) o []) e

-- pins end
module _ (p q : Parts) (h : Holds) (unsure : List Bool) (was : Fits (record p { disk = h }) unsure) (is : Fits (record q { disk = h }) unsure) (l : Lets p q) where
  pub first_let : q.region.first ≡ p.region.first
  first_let = ap (λ (z : Parts). z.region.first) l.rest

  pub bytes_let : (b : ℕ) → p.region.first ≤ b → b < length h → bytes_at q.held h b ≡ bytes_at p.held h b
  bytes_let b le lt = ⊎_elim
      (λ same. by (held_at p.held b) (held_at q.held b) refl refl same)
      (λ gone. calm_bytes h unsure q is b now lt None gone.0 refl ∙ sym (calm_bytes h unsure p was b le lt (held_at p.held b) refl gone.1))
      (l.held b)
    where
      now : q.region.first ≤ b
      now = subst (λ n. n ≤ b) (sym first_let) le

      by : (o n : Option Buffer) → held_at p.held b ≡ o → held_at q.held b ≡ n → as_held q.held b ≡ as_held p.held b → bytes_at q.held h b ≡ bytes_at p.held h b
      by (Some x) (Some y) eo en same =
          ap (λ (o : Option Buffer). bytes_of o (lookup (nat_eq b) q.held.clean) (latest_of (versions_of h b))) en
          ∙ block x y (sym (ap freed en) ∙ same ∙ ap freed eo)
          ∙ sym (ap (λ (o : Option Buffer). bytes_of o (lookup (nat_eq b) p.held.clean) (latest_of (versions_of h b))) eo)
      by None None eo en same = calm_bytes h unsure q is b now lt None en refl ∙ sym (calm_bytes h unsure p was b le lt None eo refl)
      by (Some x) None eo en same = absurd (some_none x (sym (ap freed eo) ∙ sym same ∙ ap freed en))
      by None (Some y) eo en same = absurd (some_none y (sym (ap freed en) ∙ same ∙ ap freed eo))

pub bytes_ended : (s u t : DiskState) (p m q : Parts) → u ≡ s → Fits (record p { disk = s.holds }) s.unsure → Fits (record m { disk = u.holds }) u.unsure → Lets p m → (m.clears ≡ [] → KeepsBytes u t m q)
    → p.clears ≡ [] → (b : ℕ) → p.region.first ≤ b → b < length s.holds → bytes_at q.held t.holds b ≡ bytes_at p.held s.holds b
bytes_ended s u t p m q same was is l keeps none b le lt =
    let now = subst (λ (x : DiskState). Fits (record m { disk = x.holds }) x.unsure) same is in
    let k = keeps (ap (λ (z : Parts). z.clears) l.rest ∙ none) in
    k.bytes b (subst (λ n. n ≤ b) (sym (ap (λ (z : Parts). z.region.first) l.rest)) le)
    ∙ ap (λ (x : DiskState). bytes_at m.held x.holds b) same
    ∙ bytes_let p m s.holds s.unsure was now l b le lt

-- ---- the super block

module _ (s t : DiskState) (p : Parts) (f g : ℕ) {first count : ℕ} (placed : Placed p.region p.turns p.facts first count) (others : (k : ℕ) → k ≢ 1 → Rested (versions_of s.holds k) (versions_of t.holds k)) (later : f ≤ g) where
  abbrev P : Parts
  P = record p { disk = s.holds; faults = f }

  module _ (turns : Turns) (one : Super) (bytes : List ℕ) (doubt : Option (List ℕ)) (dirty : (b : ℕ) → (flag_at turns b).dirty ≡ (flag_at p.turns b).dirty) (root : one.active ≡ p.one.active) (high : one.high ≡ p.one.high) (low : one.low ≡ p.one.low) where
    abbrev Q : Parts
    Q = record p { turns = turns; one = one; one_bytes = bytes; doubt = doubt; disk = t.holds; faults = g }

    same_block : (b : ℕ) → b ≢ 1 → memory Q b ≡ memory P b
    same_block b ne =
        ap (λ c. cond c (one_content one bytes) (content_at p.region p.held t.holds b)) (ne_eqb b 1 ne)
        ∙ ap (λ (x : List ℕ). read (label_at p.region b).kind (bytes_of (held_at p.held b) (lookup (nat_eq b) p.held.clean) x)) (latest_rested (versions_of s.holds b) (versions_of t.holds b) (others b ne))
        ∙ sym (ap (λ c. cond c (one_content p.one p.one_bytes) (content_at p.region p.held s.holds b)) (ne_eqb b 1 ne))

    known : (b : ℕ) → IsBlock p b → StaysKnown (state_of P) (state_of Q) b
    known b is =
        let e = same_block b (λ e. let n = placed.is_first in let m = placed.begins in let lo = is.0 in absurd (omega (arith, e, n, m, lo))) in
        record { bytes = ap (λ (c : Content). c.bytes) e; slots = λ j. inl (ap (λ (c : Content). c.slot j) e, λ h. h) }

    dirty_was : (b : ℕ) → (state_of Q).dirty b → (state_of P).dirty b
    dirty_was b d = ⊎_elim (λ turn. inl (sym (dirty b) ∙ turn)) (λ h. inr h) d

    usable_same : usable_count one.low p.region ≡ usable_count p.one.low p.region
    usable_same = ap (λ n. usable_count n p.region) low

    pub ends_beside : Ends P Q
    ends_beside = record {
      rests = record {
        blocks = λ tells. absurd tells;
        images = record { each = λ image h. absurd h };
        passes = record { later = omega arith; before = λ n image le h. h; within = λ n image lo hi h. absurd h };
        fills = λ tells. absurd tells;
        order = λ b j h. h;
        no_wait = record { each = λ a on j none w. w };
        dirty = λ b d. inl (dirty_was b d);
        closes = λ tells. absurd tells;
        leaves = λ tells. absurd tells;
        apart = λ b. (λ h. h, λ h. h);
        instead = λ b x. (λ h. h, λ h. h);
        newborn = λ b h. h;
        newborns = λ b h. h;
        kept = λ b is was now. known b is;
        labels = λ b. inl refl;
        removes = λ r e w h. inl h;
        queues = λ some. inl some;
        usable = let e = usable_same in omega (arith, e);
        settled = λ was. (record { settled = record { each = λ image h. absurd h }; clean = λ b d. ((was.clean b (dirty_was b d)).0, λ tells. absurd tells); empty = was.empty; cleared = was.cleared }, usable_same);
        numbers = record { next = refl; grants = λ h. h };
      };
      keeps = record { first = refl; count = refl; high = high; low = low; root = root; faults = later };
      labels = λ b. refl;
      queued = omega arith;
    }

  pub ends_super : {T : Type 0} (one : Super) (q : Parts) (r : Result T BlockError) → OnOk r (Counts one s t p q) → OnErr r (Doubted one p q) → one.active ≡ p.one.active → one.high ≡ p.one.high → one.low ≡ p.one.low → Ends P (record q { disk = t.holds; faults = g })
  ends_super one q (Ok x) c d root high low = subst (λ (z : Parts). Ends P (record z { disk = t.holds; faults = g })) (sym c.rest) (ends_beside q.turns one q.one_bytes None (λ b. ap (λ (h : Flags). h.dirty) (c.turns.each b)) root high low)
  ends_super one q (Err x) c d root high low = subst (λ (z : Parts). Ends P (record z { disk = t.holds; faults = g })) (sym d.rest) (ends_beside p.turns p.one p.one_bytes (Some d.bytes) (λ b. refl) refl refl refl)

  pub bytes_super : {T : Type 0} (one : Super) (q : Parts) (r : Result T BlockError) → OnOk r (Counts one s t p q) → OnErr r (Doubted one p q) → KeepsBytes s t p q
  bytes_super one q (Ok x) c d = bytes_beside s t p q placed others (ap (λ (z : Parts). z.region) c.rest) (ap (λ (z : Parts). z.held) c.rest)
  bytes_super one q (Err x) c d = bytes_beside s t p q placed others (ap (λ (z : Parts). z.region) d.rest) (ap (λ (z : Parts). z.held) d.rest)

-- ---- the end

quiet_synced : (t u : Turns) → IsSynced t u → IsQuiet t → IsQuiet u
quiet_synced t u s q = record {
  clean = λ b. ap (λ (f : Flags). f.dirty) (s.each b) ∙ q.clean b;
  settled = λ b. ap (λ (f : Flags). f.tried) (s.each b) ∙ ap settled_tried (q.settled b);
  none = s.none;
}

pub finished_of : (was : Super) (n : ℕ) (s t : DiskState) (p q : Parts) {first : ℕ} → FitsOne q.one_bytes q.doubt t.holds → FitsLabels (record q { disk = t.holds }) t.unsure → Fits (record q { disk = t.holds }) t.unsure → Turning first q.held q.turns q.facts → Settled p → n ≡ saved_number p.next p.granted → Counts (record was { numbers = n }) s t p q → Finished was t q
finished_of was n s t p q first labels fits turning h is c = record {
  settled = record {
    quiet = quiet;
    none = λ b j k. h.none b j (subst (λ (z : Parts). Clears z.clears b j) c.rest k);
    certain = certain;
  };
  says = ap (λ (z : Parts). z.one) c.rest ∙ ap (λ k. record was { numbers = k }) is ∙ sym (ap (λ (z : Parts). saved was z) c.rest);
  spells = subst (λ (o : Super). SpellsSuper o q.one_bytes) (sym (ap (λ (z : Parts). z.one) c.rest)) c.spells;
  first = λ bytes lt k. (subst (λ (o : Option (List ℕ)). FitsOne q.one_bytes o t.holds) certain first).each bytes lt k;
  labels = λ b two before lt. let l = labels.each b two before lt in (l.settled (quiet.settled b), l.spelled (quiet.clean b));
  blocks = quiet_is_memory {p = record q { disk = t.holds }} turning fits quiet;
}
  where
    quiet : IsQuiet q.turns
    quiet = quiet_synced p.turns q.turns c.turns h.quiet

    certain : q.doubt ≡ None
    certain = ap (λ (z : Parts). z.doubt) c.rest

-- ---- the number that is saved

saved_some : (next : ℕ) (granted : Bool) → 1 ≤ saved_number next granted
saved_some next true = omega arith
saved_some next false = omega arith

saved_top : (next limit : ℕ) (granted : Bool) → 1 ≤ limit → limit ≤ 2 ^ 30 → next ≤ limit → (granted ≡ true → next < limit) → saved_number next granted ≤ 2 ^ 30
saved_top next limit true some top le lt = let h = lt refl in omega (arith, h, top)
saved_top next limit false some top le lt = omega (arith, some, top, le)

pub saved_below : (next : ℕ) (granted : Bool) → next ≤ saved_number next granted
saved_below next true = omega arith
saved_below next false = omega arith

pub saved_granted : (next : ℕ) (granted : Bool) → granted ≡ true → next < saved_number next granted
saved_granted next true e = omega arith
saved_granted next false e = cc

module _ (p : Parts) (certain : p.doubt ≡ None) (numbered : p.next ≤ least_limit p.one p.doubt) (granting : p.granted ≡ true → p.next < least_limit p.one p.doubt) (holds : SuperHolds p.one) where
  limit : least_limit p.one p.doubt ≡ p.one.numbers
  limit = ap (least_limit p.one) certain

  pub next_top : p.next ≤ 2 ^ 30
  next_top = let e = limit in let top = holds.numbers_are.1 in omega (arith, numbered, e, top)

  pub saved_holds : (was : Super) (n : ℕ) → SuperHolds was → n ≡ saved_number p.next p.granted → SuperHolds (record was { numbers = n })
  saved_holds was n h is =
      let e = limit in
      let below : p.next ≤ p.one.numbers = omega (arith, numbered, e) in
      let some = saved_some p.next p.granted in
      let top = saved_top p.next p.one.numbers p.granted holds.numbers_are.0 holds.numbers_are.1 below (λ g. subst (λ k. p.next < k) e (granting g)) in
      record { version_is = h.version_is; low_is = h.low_is; high_is = h.high_is; numbers_are = (omega (arith, is, some), omega (arith, is, top)); pending_is = h.pending_is }
