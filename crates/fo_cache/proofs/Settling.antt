-- What turns leave of memory and of the device.
use Rattle.std.proofs.Common.{◌≡◌, ◌≢◌, inl, inr, ⊎_elim, ℕ, ◌<◌, ◌≤◌, ◌&&◌, Bool, true, false, not, cond, nat_eq, List, [], ◌∷◌, length, get_or, Option, Some, None, Result, Ok, Err, refl, sym, ap, ◌∙◌, subst, arith, set, get_or-set_same}
use Rattle.std.specs.Map.{lookup}
use Rattle.std.specs.Option.{option_map, option_map_or}
use Rattle.std.specs.Result.{OnOk, OnErr}
use Rattle.std.proofs.lemmas.Bool.{cases_eq, cases_lt}
use Rattle.std.proofs.lemmas.List.{get_or_past}
use Rattle.fo_disk.specs.Disk.{Content, DiskState, IsSync, IsWrite, Versions, latest_of, newest, versions_of}
use Rattle.fo_disk.specs.Disk.{Settles as Leaves}
use Rattle.fo_disk.specs.declared.disk.Failed.{Failed}
use Rattle.fo_buffers.specs.declared.block.Buffer.{Buffer}
use Rattle.fo_buffers.specs.Held.{Held, held_at, settled}
use Rattle.fo_order.specs.declared.marks.Flags.{Flags}
use Rattle.fo_order.specs.declared.marks.Tried.{Tried}
use Rattle.fo_order.specs.declared.marks.Tried.TheVariants.{Settled, Written, Failed as Unwritten}
use Rattle.fo_order.specs.Flags.{settled_tried}
use Rattle.fo_order.specs.Keeps.{Turns}
use Rattle.fo_order.specs.Turns.{IsSynced, flag_at}
use Rattle.fo_labels.specs.Region.{Region}
use Rattle.fo_facts.specs.declared.fact.Fact.{Fact}
use Rattle.fo_facts.specs.Known.{fact_at, no_fact, written_as}
use Rattle.fo_mind.specs.Due.{is_over}
use Rattle.fo_mind.specs.Parts.{Parts, bytes_at, bytes_of}
use Rattle.fo_mind.specs.Sound.{Placed}
use Rattle.fo_mind.specs.Turning.{KeepsTurn, Landed, Missed, Synced, Turning, is_changed, is_pinned_at, is_settled}
use Rattle.fo_mind.proofs.Landing.{within_count}
use Rattle.fo_mind.proofs.Turning.{landed_here, landed_other, missed_here, missed_other, other_written, settles_of}
use Rattle.fo_mind.proofs.Turning.{Settles as Lands}
use Rattle.fo_cache.specs.Fits.{Fits}
use Rattle.fo_cache.specs.Settling.{Rested, Settles, lasting}
use Rattle.fo_cache.specs.Written.{IsWritten}
use Rattle.fo_cache.proofs.Fitting.{newest_alone}
use Rattle.fo_cache.proofs.Labelling.{count_kept, versions_kept}

never : {A : Type 0} → true ≡ false → A
never e = cc

-- ---- what is settled stays so

pub over_same : (t u : Turns) (b : ℕ) → flag_at u b ≡ flag_at t b → is_over t b ≡ true → is_over u b ≡ true
over_same t u b e h = ap (λ (f : Flags). not f.dirty && is_settled f.tried) e ∙ h

pub over_synced : (t u : Turns) → IsSynced t u → (b : ℕ) → is_over t b ≡ true → is_over u b ≡ true
over_synced t u y b h = ap (λ (f : Flags). not f.dirty && is_settled f.tried) (y.each b) ∙ by (flag_at t b).dirty (flag_at t b).tried h
  where
    by : (d : Bool) (tried : Tried) → (not d && is_settled tried) ≡ true → (not d && is_settled (settled_tried tried)) ≡ true
    by true tried e = e
    by false Settled e = e
    by false Written e = never (sym e)
    by false Unwritten e = e

-- what is settled has no turn, so another block has
others_over : (p q : Parts) (at : ℕ) → (flag_at p.turns at).dirty ≡ true → ((b : ℕ) → b ≢ at → flag_at q.turns b ≡ flag_at p.turns b) → (b : ℕ) → is_over p.turns b ≡ true → is_over q.turns b ≡ true
others_over p q at dirty other b h = ⊎_elim
    (λ e. never (sym h ∙ ap (λ n. is_over p.turns n) e ∙ ap (λ d. not d && is_settled (flag_at p.turns at).tried) dirty))
    (λ ne. over_same p.turns q.turns b (other b ne) h)
    (cases_eq b at)

-- ---- one step after another

twice : (versions : Versions) → newest (newest versions) ≡ newest versions
twice [] = refl
twice (v ∷ vs) = let one = newest_alone (v ∷ vs) (omega arith) in ap newest one ∙ sym one

pub join : (a b c : Versions) → Rested a b → Rested b c → Rested a c
join a b c (inl e) (inl f) = inl (f ∙ e)
join a b c (inl e) (inr f) = inr (f ∙ ap newest e)
join a b c (inr e) (inl f) = inr (f ∙ e)
join a b c (inr e) (inr f) = inr (f ∙ ap newest e ∙ twice a)

pub same_settles : (s : DiskState) (p : Parts) → Settles s s p p
same_settles s p = record {
  held = λ b. refl;
  changed = λ b e. e;
  clean = refl;
  buffer_room = refl;
  lasts = λ b. refl;
  fresh = λ b e. e;
  turn = λ b e. e;
  over = λ b e. e;
  rank = λ b. refl;
  turn_room = omega arith;
  bytes = λ b le. refl;
  count = refl;
  others = λ b calm. inl refl;
  rest = refl;
}

pub then : (s t u : DiskState) (p m q : Parts) → Settles s t p m → Settles t u m q → Settles s u p q
then s t u p m q a b = record {
  held = λ k. b.held k ∙ a.held k;
  changed = λ k e. a.changed k (b.changed k e);
  clean = b.clean ∙ a.clean;
  buffer_room = b.buffer_room ∙ a.buffer_room;
  lasts = λ k. b.lasts k ∙ a.lasts k;
  fresh = λ k e. a.fresh k (b.fresh k e);
  turn = λ k e. a.turn k (b.turn k e);
  over = λ k e. b.over k (a.over k e);
  rank = λ k. b.rank k ∙ a.rank k;
  turn_room = let x = a.turn_room in let y = b.turn_room in omega (arith, x, y);
  bytes = λ k le. b.bytes k (subst (λ (x : Region). x.first ≤ k) (sym (ap (λ (z : Parts). z.region) a.rest)) le) ∙ a.bytes k le;
  count = b.count ∙ a.count;
  others = λ k calm. join (versions_of s.holds k) (versions_of t.holds k) (versions_of u.holds k) (a.others k calm) (b.others k (still k calm (flag_at m.turns k).dirty refl));
  rest = b.rest ∙ ap (λ (z : Parts). record z { held = q.held; turns = q.turns; facts = q.facts }) a.rest;
}
  where
    still : (k : ℕ) → (flag_at p.turns k).dirty ≡ false → (d : Bool) → (flag_at m.turns k).dirty ≡ d → (flag_at m.turns k).dirty ≡ false
    still k calm true e = never (sym (a.turn k e) ∙ calm)
    still k calm false e = e

-- ---- room is made

pub room_settles : (s : DiskState) (p q : Parts) → KeepsTurn p q → Settles s s p q
room_settles s p q k = subst (λ (z : Parts). Settles s s p z) (sym k.rest) (record {
  held = λ b. refl;
  changed = λ b e. e;
  clean = refl;
  buffer_room = refl;
  lasts = λ b. refl;
  fresh = λ b e. e;
  turn = λ b e. e;
  over = λ b e. e;
  rank = λ b. refl;
  turn_room = k.more;
  bytes = λ b le. refl;
  count = refl;
  others = λ b calm. inl refl;
  rest = refl;
})

-- ---- a write was answered

-- what is known of the block
facts_settles : (facts fs : List Fact) (at : ℕ) (pinned : Bool) → at < length facts → fs ≡ set facts at (written_as pinned (fact_at facts at)) → (b : ℕ) → (lasting (fact_at fs b) ≡ lasting (fact_at facts b)) × ((fact_at fs b).fresh ≡ true → (fact_at facts b).fresh ≡ true)
facts_settles facts fs at pinned lt is b = ⊎_elim
    (λ e.
    let now = ap (λ (z : List Fact). fact_at z b) is ∙ ap (fact_at (set facts at (written_as pinned (fact_at facts at)))) e ∙ get_or-set_same facts at (written_as pinned (fact_at facts at)) no_fact lt in
    (ap lasting now ∙ ap (λ n. lasting (fact_at facts n)) (sym e), λ h. never (sym h ∙ ap (λ (f : Fact). f.fresh) now)))
    (λ ne.
    let now = ap (λ (z : List Fact). fact_at z b) is ∙ other_written facts at pinned lt b ne in
    (ap lasting now, λ h. sym (ap (λ (f : Fact). f.fresh) now) ∙ h))
    (cases_eq b at)

-- one that is held has its bytes in memory
same_block : (o n : Option Buffer) (c d : Option (List ℕ)) (l m : List ℕ) → option_map settled n ≡ option_map settled o → is_changed o ≡ true → bytes_of n c l ≡ bytes_of o d m
same_block (Some x) (Some y) c d l m e h = ap (λ (o : Option Buffer). option_map_or (λ (z : Buffer). z.block) o []) e
same_block (Some x) None c d l m e h = absurd (cc)
same_block None n c d l m e h = never (sym h)

landed_settled : (linked : Bool) (o : Option Buffer) → option_map settled (cond linked (option_map_or (λ (x : Buffer). Some (settled x)) o None) o) ≡ option_map settled o
landed_settled true (Some x) = refl
landed_settled true None = refl
landed_settled false o = refl

landed_changed : (linked : Bool) (o : Option Buffer) → is_changed (cond linked (option_map_or (λ (x : Buffer). Some (settled x)) o None) o) ≡ true → is_changed o ≡ true
landed_changed true (Some x) e = never (sym e)
landed_changed true None e = e
landed_changed false o e = e

module _ (s t : DiskState) (p q : Parts) (at : ℕ) {bytes : List ℕ} (lt : at < length p.facts) (within : at < length p.turns.flags) (dirty : (flag_at p.turns at).dirty ≡ true) where
  -- each block keeps what it has in memory
  bytes_kept : (r : Result Unit Failed) → IsWrite at bytes r s t → (is_held : p.region.first ≤ at → is_changed (held_at p.held at) ≡ true) → ((b : ℕ) → option_map settled (held_at q.held b) ≡ option_map settled (held_at p.held b)) → ((b : ℕ) → b ≢ at → held_at q.held b ≡ held_at p.held b) → q.held.clean ≡ p.held.clean
      → (b : ℕ) → p.region.first ≤ b → bytes_at q.held t.holds b ≡ bytes_at p.held s.holds b
  bytes_kept r w is_held held others clean b le = ⊎_elim
      (λ e. same_block (held_at p.held b) (held_at q.held b) (lookup (nat_eq b) q.held.clean) (lookup (nat_eq b) p.held.clean) (latest_of (versions_of t.holds b)) (latest_of (versions_of s.holds b)) (held b)
      (ap (λ n. is_changed (held_at p.held n)) e ∙ is_held (subst (λ n. p.region.first ≤ n) e le)))
      (λ ne. ap (λ (o : Option Buffer). bytes_of o (lookup (nat_eq b) q.held.clean) (latest_of (versions_of t.holds b))) (others b ne)
      ∙ ap (λ (c : List (ℕ × List ℕ)). bytes_of (held_at p.held b) (lookup (nat_eq b) c) (latest_of (versions_of t.holds b))) clean
      ∙ ap (λ (vs : Versions). bytes_of (held_at p.held b) (lookup (nat_eq b) p.held.clean) (latest_of vs)) (versions_kept r w b ne))
      (cases_eq b at)

  unwritten : (r : Result Unit Failed) → IsWrite at bytes r s t → (b : ℕ) → (flag_at p.turns b).dirty ≡ false → Rested (versions_of s.holds b) (versions_of t.holds b)
  unwritten r w b calm = ⊎_elim (λ e. never (sym dirty ∙ ap (λ n. (flag_at p.turns n).dirty) (sym e) ∙ calm)) (λ ne. inl (versions_kept r w b ne)) (cases_eq b at)

  landed_settles : {u : Unit} → IsWrite {E = Failed} at bytes (Ok u) s t → Landed at p q → (p.region.first ≤ at → is_changed (held_at p.held at) ≡ true) → Settles s t p q
  landed_settles {u} w l is_held = record {
    held = held;
    changed = λ b e. ⊎_elim
        (λ same. subst (λ n. is_changed (held_at p.held n) ≡ true) (sym same) (landed_changed (fact_at p.facts at).linked (held_at p.held at) (sym (ap is_changed lands.here) ∙ subst (λ n. is_changed (held_at q.held n) ≡ true) same e)))
        (λ ne. sym (ap is_changed (lands.others b ne)) ∙ e)
        (cases_eq b at);
    clean = lands.clean;
    buffer_room = lands.room;
    lasts = λ b. (facts_settles p.facts q.facts at (is_pinned_at p.held at) lt l.facts b).0;
    fresh = λ b. (facts_settles p.facts q.facts at (is_pinned_at p.held at) lt l.facts b).1;
    turn = λ b e. ⊎_elim
        (λ same. subst (λ n. (flag_at p.turns n).dirty ≡ true) (sym same) dirty)
        (λ ne. sym (ap (λ (f : Flags). f.dirty) (other b ne)) ∙ e)
        (cases_eq b at);
    over = others_over p q at dirty other;
    rank = λ b. ⊎_elim
        (λ same. subst (λ n. (flag_at q.turns n).rank ≡ (flag_at p.turns n).rank) (sym same) (ap (λ (x : Turns). (flag_at x at).rank) l.turns ∙ ap (λ (f : Flags). f.rank) (landed_here p.turns at within)))
        (λ ne. ap (λ (f : Flags). f.rank) (other b ne))
        (cases_eq b at);
    turn_room = let e = ap (λ (x : Turns). x.room) l.turns in omega (arith, e);
    bytes = bytes_kept (Ok u) w is_held held lands.others lands.clean;
    count = count_kept (Ok u) w;
    others = unwritten (Ok u) w;
    rest = l.rest;
  }
    where
      lands : Lands at (fact_at p.facts at).linked p.held q.held
      lands = settles_of at (fact_at p.facts at).linked p.held q.held l.held

      held : (b : ℕ) → option_map settled (held_at q.held b) ≡ option_map settled (held_at p.held b)
      held b = ⊎_elim
          (λ same. subst (λ n. option_map settled (held_at q.held n) ≡ option_map settled (held_at p.held n)) (sym same) (ap (option_map settled) lands.here ∙ landed_settled (fact_at p.facts at).linked (held_at p.held at)))
          (λ ne. ap (option_map settled) (lands.others b ne))
          (cases_eq b at)

      other : (b : ℕ) → b ≢ at → flag_at q.turns b ≡ flag_at p.turns b
      other b ne = ap (λ (x : Turns). flag_at x b) l.turns ∙ landed_other p.turns at within b ne

  missed_settles : (e : Failed) → IsWrite at bytes (Err e) s t → Missed at p q → (p.region.first ≤ at → is_changed (held_at p.held at) ≡ true) → Settles s t p q
  missed_settles x w m is_held = record {
    held = λ b. ap (λ (h : Held). option_map settled (held_at h b)) same;
    changed = λ b e. sym (ap (λ (h : Held). is_changed (held_at h b)) same) ∙ e;
    clean = ap (λ (h : Held). h.clean) same;
    buffer_room = ap (λ (h : Held). h.room) same;
    lasts = λ b. (facts_settles p.facts q.facts at false lt m.facts b).0;
    fresh = λ b. (facts_settles p.facts q.facts at false lt m.facts b).1;
    turn = λ b e. ⊎_elim
        (λ same. subst (λ n. (flag_at p.turns n).dirty ≡ true) (sym same) dirty)
        (λ ne. sym (ap (λ (f : Flags). f.dirty) (other b ne)) ∙ e)
        (cases_eq b at);
    over = others_over p q at dirty other;
    rank = λ b. ⊎_elim
        (λ same. subst (λ n. (flag_at q.turns n).rank ≡ (flag_at p.turns n).rank) (sym same) (ap (λ (x : Turns). (flag_at x at).rank) m.turns ∙ ap (λ (f : Flags). f.rank) (missed_here p.turns at within)))
        (λ ne. ap (λ (f : Flags). f.rank) (other b ne))
        (cases_eq b at);
    turn_room = let e = ap (λ (x : Turns). x.room) m.turns in omega (arith, e);
    bytes = bytes_kept (Err x) w is_held (λ b. ap (λ (h : Held). option_map settled (held_at h b)) same) (λ b ne. ap (λ (h : Held). held_at h b) same) (ap (λ (h : Held). h.clean) same);
    count = count_kept (Err x) w;
    others = unwritten (Err x) w;
    rest = m.rest ∙ ap (λ (h : Held). record p { held = h; turns = q.turns; facts = q.facts }) (sym same);
  }
    where
      same : q.held ≡ p.held
      same = ap (λ (z : Parts). z.held) m.rest

      other : (b : ℕ) → b ≢ at → flag_at q.turns b ≡ flag_at p.turns b
      other b ne = ap (λ (x : Turns). flag_at x b) m.turns ∙ missed_other p.turns at within b ne

pub wrote_settles : (s t : DiskState) (p q : Parts) (at : ℕ) {first count : ℕ} → Placed p.region p.turns p.facts first count → Turning first p.held p.turns p.facts → (flag_at p.turns at).dirty ≡ true → (r : Result Unit Failed) → IsWritten at r s t p q → Settles s t p q
wrote_settles s t p q at {first} placed turning dirty r w = by r w
  where
    in_tables : (at < length p.facts) × (at < length p.turns.flags)
    in_tables = within_count at placed dirty

    is_held : p.region.first ≤ at → is_changed (held_at p.held at) ≡ true
    is_held le = (turning.each at).held dirty (subst (λ n. n ≤ at) placed.is_first le)

    by : (r : Result Unit Failed) → IsWritten at r s t p q → Settles s t p q
    by (Ok u) w = landed_settles s t p q at in_tables.0 in_tables.1 dirty w.device w.landed is_held
    by (Err e) w = missed_settles s t p q at in_tables.0 in_tables.1 dirty e w.device w.missed is_held

-- ---- a sync was answered

module _ (s t : DiskState) (p q : Parts) where
  synced_settles : Leaves s.unsure s.holds t.holds → Synced p q → Fits (record p { disk = s.holds }) s.unsure → Settles s t p q
  synced_settles leaves c fits = record {
    held = λ b. ap (λ (h : Held). option_map settled (held_at h b)) same;
    changed = λ b e. sym (ap (λ (h : Held). is_changed (held_at h b)) same) ∙ e;
    clean = ap (λ (h : Held). h.clean) same;
    buffer_room = ap (λ (h : Held). h.room) same;
    lasts = λ b. ap (λ (z : List Fact). lasting (fact_at z b)) facts;
    fresh = λ b e. sym (ap (λ (z : List Fact). (fact_at z b).fresh) facts) ∙ e;
    turn = λ b e. sym (ap (λ (f : Flags). f.dirty) (c.turns.each b)) ∙ e;
    over = over_synced p.turns q.turns c.turns;
    rank = λ b. ap (λ (f : Flags). f.rank) (c.turns.each b);
    turn_room = let e = c.turns.room in omega (arith, e);
    bytes = λ b le. ap (λ (h : Held). bytes_at h t.holds b) same ∙ ap (bytes_of (held_at p.held b) (lookup (nat_eq b) p.held.clean)) (last b le);
    count = leaves.count;
    others = λ b calm. rested b;
    rest = c.rest ∙ ap (λ (z : Parts). record p { held = z.held; turns = q.turns; facts = z.facts }) (sym c.rest);
  }
    where
      same : q.held ≡ p.held
      same = ap (λ (z : Parts). z.held) c.rest

      facts : q.facts ≡ p.facts
      facts = ap (λ (z : Parts). z.facts) c.rest

      past : (b : ℕ) → length s.holds ≤ b → versions_of t.holds b ≡ versions_of s.holds b
      past b le = let n = leaves.count in get_or_past t.holds b [] (omega (arith, le, n)) ∙ sym (get_or_past s.holds b [] le)

      by_flag : (b : ℕ) (u : Bool) → versions_of t.holds b ≡ cond u (versions_of s.holds b) (newest (versions_of s.holds b)) → Rested (versions_of s.holds b) (versions_of t.holds b)
      by_flag b true e = inl e
      by_flag b false e = inr e

      rested : (b : ℕ) → Rested (versions_of s.holds b) (versions_of t.holds b)
      rested b = ⊎_elim (λ lt. by_flag b (get_or s.unsure b false) (leaves.each b lt)) (λ le. inl (past b le)) (cases_lt b (length s.holds))

      last : (b : ℕ) → p.region.first ≤ b → latest_of (versions_of t.holds b) ≡ latest_of (versions_of s.holds b)
      last b le = ⊎_elim
          (λ lt. ⊎_elim (λ e. ap latest_of e) (λ e. ap latest_of e ∙ ap latest_of (newest_alone (versions_of s.holds b) (fits.each b le lt).some)) (rested b))
          (λ ge. ap latest_of (past b ge))
          (cases_lt b (length s.holds))

  pub sync_settles : (r : Result Unit Failed) → IsSync r s t → OnOk r (Synced p q) → OnErr r (q ≡ p) → Fits (record p { disk = s.holds }) s.unsure → Settles s t p q
  sync_settles (Ok u) y c n fits = synced_settles y.holds c fits
  sync_settles (Err e) y c n fits = record {
    held = λ b. ap (λ (z : Parts). option_map settled (held_at z.held b)) n;
    changed = λ b e. sym (ap (λ (z : Parts). is_changed (held_at z.held b)) n) ∙ e;
    clean = ap (λ (z : Parts). z.held.clean) n;
    buffer_room = ap (λ (z : Parts). z.held.room) n;
    lasts = λ b. ap (λ (z : Parts). lasting (fact_at z.facts b)) n;
    fresh = λ b e. sym (ap (λ (z : Parts). (fact_at z.facts b).fresh) n) ∙ e;
    turn = λ b e. sym (ap (λ (z : Parts). (flag_at z.turns b).dirty) n) ∙ e;
    over = λ b e. ap (λ (z : Parts). is_over z.turns b) n ∙ e;
    rank = λ b. ap (λ (z : Parts). (flag_at z.turns b).rank) n;
    turn_room = let e = ap (λ (z : Parts). z.turns.room) n in omega (arith, e);
    bytes = λ b le. ap (λ (z : Parts). bytes_at z.held t.holds b) n ∙ ap (λ (h : Content). bytes_at p.held h b) y.holds;
    count = ap length y.holds;
    others = λ b calm. inl (ap (λ (h : Content). versions_of h b) y.holds);
    rest = n ∙ ap (λ (z : Parts). record p { held = z.held; turns = z.turns; facts = z.facts }) (sym n);
  }
