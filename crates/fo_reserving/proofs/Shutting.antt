-- Blocks are closed, while only what is newborn is held.
use Rattle.std.proofs.Common.{◌≡◌, ◌≢◌, ◌⊎◌, inl, inr, ⊎_elim, ℕ, ◌/◌, ◌≤◌, ◌<◌, Bool, true, false, cond, nat_eq, List, [], ◌∷◌, length, get_or, Option, Some, None, is_some, refl, sym, ap, ◌∙◌, subst, arith}
use Rattle.std.specs.List.{Contains}
use Rattle.std.specs.Map.{lookup}
use Rattle.std.proofs.lemmas.Bool.{cases_eq}
use Rattle.lru.proofs.Splits.{Contains-cons, Contains-nil}
use Rattle.fo_disk.specs.Disk.{Block, DiskState, Versions, latest_of, versions_of}
use Rattle.fo_disk.specs.Disk.{Content as Holds}
use Rattle.fo_image.specs.declared.types.Label.{Label}
use Rattle.fo_image.specs.declared.types.State.{State}
use Rattle.fo_image.specs.declared.types.State.TheVariants.{Closed as Shut, Live}
use Rattle.fo_image.specs.Format.{SpellsLabel}
use Rattle.fo_image.specs.Place.{label_block, label_byte}
use Rattle.fo_buffers.specs.declared.block.Buffer.{Buffer}
use Rattle.fo_buffers.specs.Held.{Held, cut, held_at, unlisted}
use Rattle.fo_closing.proofs.of_bring.Buffering.{cut_other, cut_same}
use Rattle.fo_crash.specs.Images.{Content}
use Rattle.fo_labels.specs.Region.{IsDataBlock, Region, closed_label}
use Rattle.fo_labels.specs.Spelled.{SpellsLabels, part_at}
use Rattle.fo_order.specs.declared.marks.Flags.{Flags}
use Rattle.fo_order.specs.declared.marks.Tried.TheVariants.{Settled, Written}
use Rattle.fo_order.specs.Keeps.{Turns}
use Rattle.fo_order.specs.Turns.{IsQuiet, changed, flag_at}
use Rattle.fo_ports.specs.State.{IsChanging, IsShut, Rests, StaysKnown}
use Rattle.fo_buffers.specs.of_slots.Read.{read}
use Rattle.fo_facts.specs.declared.fact.Fact.{Fact}
use Rattle.fo_facts.specs.Known.{fact_at}
use Rattle.fo_unlink.specs.declared.removal.Removal.{Removal}
use Rattle.fo_unlink.specs.Pending.{Pending}
use Rattle.fo_waits.specs.declared.listed.Clearing.{Clearing}
use Rattle.fo_waits.specs.Listed.{Clears}
use Rattle.fo_closing.specs.of_mind.Parts.{IsBlock, IsDirty, IsNewborn, Parts, bytes_of, count_of, label_at, memory, one_content, state_of}
use Rattle.fo_closing.specs.of_mind.Sound.{Placed, Standing}
use Rattle.fo_closing.specs.of_mind.Turning.{is_changed}
use Rattle.fo_closing.proofs.of_mind.Giving.{change_other, label_other}
use Rattle.fo_settling.specs.of_cache.Fits.{Fits, FitsAt, FitsLabels, FitsOne}
use Rattle.fo_settling.proofs.of_cache.Calling.{tried_changed}
use Rattle.fo_settling.proofs.of_cache.Firsts.{one_like}
use Rattle.fo_closing.specs.declared.turn.Closing.{Closing}
use Rattle.fo_closing.specs.declared.turn.Closing.TheVariants.{Closed as ClosedIs, Reads, Stays, GivenUp, Empty}
use Rattle.fo_closing.specs.Closed.{Closed}
use Rattle.fo_closing.specs.Closings.{Closings, Taken, Takes}
use Rattle.fo_closing.specs.Known.{Looked}
use Rattle.fo_closing.specs.Leaves.{Leaves, ShutBy, Shuts}
use Rattle.fo_closing.specs.Rest.{AtRest}
use Rattle.fo_closing.specs.Turned.{Goes, Turned}
use Rattle.fo_reserving.specs.Steps.{ClosesAtRest, Reserves}

never : {A : Type 0} → false ≡ true → A
never e = cc

some_none : {A : Type 0} (x : Buffer) → Some x ≡ None → A
some_none x e = cc

settled_written : {A : Type 0} → Settled ≡ Written → A
settled_written e = cc

live_shut : {A : Type 0} {s : State} → s ≡ Live → s ≡ Shut → A
live_shut e f = absurd (clash (sym e ∙ f))
  where
    clash : Live ≡ Shut → ⊥
    clash h = cc

-- a block that was closed by a removal was live, and isn't now
shuts_of : {removals : List Removal} {p q : Parts} {b : ℕ} → ShutBy removals p q b → Shuts (label_at p.region b) (label_at q.region b)
shuts_of y = (y.live, ap (λ (l : Label). l.state) y.is)

-- ---- what each turn keeps

-- What became of last writes stays known; a block has its label, or isn't held; and nothing is held that wasn't.
pub record Shutting (p q : Parts) : Type 0 where
  pub tried : (b : ℕ) → (flag_at q.turns b).tried ≡ (flag_at p.turns b).tried
  pub label : (b : ℕ) → (label_at q.region b ≡ label_at p.region b) ⊎ (held_at q.held b ≡ None)
  pub none : (b : ℕ) → held_at p.held b ≡ None → held_at q.held b ≡ None

shutting_on : {p m q : Parts} → Shutting p m → Shutting m q → Shutting p q
shutting_on {p} {m} {q} a b = record {
  tried = λ k. b.tried k ∙ a.tried k;
  label = λ k. ⊎_elim
      (λ same. ⊎_elim (λ was. inl (same ∙ was)) (λ gone. inr (b.none k gone)) (a.label k))
      (λ gone. inr gone)
      (b.label k);
  none = λ k e. b.none k (a.none k e);
}

shutting_queue : (p : Parts) (rs : List Removal) → Shutting p (record p { removals = rs })
shutting_queue p rs = record { tried = λ b. refl; label = λ b. inl refl; none = λ b e. e }

shutting_same : (p q : Parts) (rs : List Removal) → q ≡ record p { removals = rs } → Shutting p q
shutting_same p q rs is = subst (Shutting p) (sym is) (shutting_queue p rs)

shutting_looked : {disk : Holds} {p q : Parts} → Looked disk p q → Shutting p q
shutting_looked {disk} {p} {q} l = record {
  tried = λ b. ap (λ (z : Parts). (flag_at z.turns b).tried) l.rest;
  label = λ b. inl (ap (λ (z : Parts). label_at z.region b) l.rest);
  none = λ b e. l.held b ∙ e;
}

shutting_closed : {at epoch : ℕ} (p q : Parts) (rs : List Removal) → Closed at epoch (record p { removals = rs }) q → Shutting p q
shutting_closed {at} {epoch} p q rs c = record {
  tried = λ b. ap (λ (t : Turns). (flag_at t b).tried) c.turns ∙ ⊎_elim
      (λ e. subst (λ n. (flag_at (changed p.turns (label_block at) 0) n).tried ≡ (flag_at p.turns n).tried) (sym e) (tried_changed p.turns (label_block at) 0 c.within))
      (λ ne. ap (λ (f : Flags). f.tried) (change_other p.turns (label_block at) 0 b ne))
      (cases_eq b (label_block at));
  label = λ b. ⊎_elim
      (λ e. inr (gone b e))
      (λ ne. inl (ap (λ (r : Region). label_at r b) c.region ∙ label_other p.region at (closed_label (label_at p.region at) epoch) b is ne))
      (cases_eq b at);
  none = λ b e. ⊎_elim
      (λ same. gone b same)
      (λ ne. ap (λ (h : Held). held_at h b) c.held ∙ cut_other (unlisted p.held at) at b ne ∙ e)
      (cases_eq b at);
}
  where
    is : IsDataBlock p.region at
    is = record { from = c.may.block.0; to = c.may.block.1 }

    gone : (b : ℕ) → b ≡ at → held_at q.held b ≡ None
    gone b e = ap (λ (h : Held). held_at h b) c.held ∙ ap (held_at (cut (unlisted p.held at) at)) e ∙ cut_same (unlisted p.held at) at

shutting_goes : {disk : Holds} (answer : Closing) (p q : Parts) (r s : Pending) → Goes disk answer p q r s → Shutting p q
shutting_goes (ClosedIs b) p q r s g = shutting_on (shutting_looked g.looked) (shutting_closed g.mid q s.removals g.went.2)
shutting_goes (Stays b) p q r s g = shutting_on (shutting_looked g.looked) (shutting_same g.mid q s.removals g.went.2)
shutting_goes (Reads b) p q r s g = shutting_on (shutting_looked g.looked) (shutting_same g.mid q s.removals g.went.1)
shutting_goes GivenUp p q r s g = absurd g.went
shutting_goes Empty p q r s g = absurd g.went

shutting_turned : (disk : Holds) (answer : Closing) (p q : Parts) (r s : Pending) → Turned disk answer p q r s → Shutting p q
shutting_turned disk (ClosedIs b) p q r s t = shutting_goes (ClosedIs b) p q r s t
shutting_turned disk (Stays b) p q r s t = shutting_goes (Stays b) p q r s t
shutting_turned disk (Reads b) p q r s t = shutting_goes (Reads b) p q r s t
shutting_turned disk GivenUp p q r s t = shutting_same p q s.removals t.rest
shutting_turned disk Empty p q r s t = shutting_same p q p.removals t.2

shutting_takes : (disk : Holds) (ts : List Taken) (p q : Parts) (r s : Pending) → Takes disk ts p q r s → Shutting p q
shutting_takes disk [] p q r s t = shutting_looked t.0
shutting_takes disk (t ∷ ts) p q r s x = shutting_on (shutting_looked x.0) (shutting_on (shutting_turned disk t.answer t.before t.after r t.queue x.1) (shutting_takes disk ts t.after q t.queue s x.2))

-- whatever the device holds, and how many faults it had
pub shutting_closings : {disk : Holds} (p q : Parts) (h k : Holds) (f g : ℕ) (r s : Pending) → Closings disk (record p { disk = h; faults = f }) (record q { disk = k; faults = g }) r s → Shutting p q
shutting_closings {disk} p q h k f g r s c =
    let x = shutting_takes disk c.turns (record p { disk = h; faults = f }) (record q { disk = k; faults = g }) r s c.takes in
    record { tried = x.tried; label = x.label; none = x.none }

-- ---- the first data block

pub first_same : (p q : Parts) {f c g d : ℕ} → Placed p.region p.turns p.facts f c → Placed q.region q.turns q.facts g d → count_of q.region ≡ count_of p.region → q.region.first ≡ p.region.first
first_same p q a b e =
    let old_first = a.is_first in
    let old_count = a.is_count in
    let old_place = a.is_place in
    let new_first = b.is_first in
    let new_count = b.is_count in
    let new_place = b.is_place in
    omega (arith, old_first, old_count, old_place, new_first, new_count, new_place, e)

-- ---- what ties memory to the device

one_version : (versions : Versions) (bytes : Block) → length versions ≡ 1 → Contains versions bytes → latest_of versions ≡ bytes
one_version [] bytes e c = absurd (omega (arith, e))
one_version (v ∷ []) bytes e c = ⊎_elim (λ same. same) (λ none. absurd (Contains-nil bytes none)) (Contains-cons v [] bytes c)
one_version (v ∷ w ∷ versions) bytes e c = let h : length (v ∷ w ∷ versions) ≡ 1 = e in absurd (omega (arith, h))

module _ (p q : Parts) (disk : Holds) (f g : ℕ) (l : Leaves disk (record p { disk = disk; faults = f }) (record q { disk = disk; faults = g })) (quiet : IsQuiet p.turns) (rest : AtRest q) (first : q.region.first ≡ p.region.first) where
  pub fits_shut : (unsure : List Bool) → ((b : ℕ) → is_some (held_at p.held b) ≡ true → IsNewborn p.facts b) → Standing q.held q.facts q.clears → Fits (record p { disk = disk }) unsure → Fits (record q { disk = disk }) unsure
  fits_shut unsure newborn standing fits = record {
    each = λ b le lt.
        let was = fits.each b (subst (λ n. n ≤ b) first le) lt in
        record {
          some = was.some;
          settled = λ e. was.settled (quiet.settled b);
          sure = λ e. settled_written (sym (rest.settled b le) ∙ e);
          held = λ x is clean. ⊎_elim (λ same. was.held x (sym same ∙ is) clean) (λ gone. some_none x (sym is ∙ gone.0)) (l.held b);
          listed = λ bytes none c. listed b was lt bytes none c (held_at p.held b) refl;
        };
  }
    where
      facts : q.facts ≡ p.facts
      facts = ap (λ (z : Parts). z.facts) l.rest

      listed : (b : ℕ) → FitsAt b (versions_of disk b) (flag_at p.turns b) (held_at p.held b) p.held.clean (get_or unsure b false) → b < length disk → (bytes : List ℕ) → held_at q.held b ≡ None → Contains q.held.clean (b, bytes)
          → (o : Option Buffer) → held_at p.held b ≡ o → latest_of (versions_of disk b) ≡ bytes
      listed b was lt bytes none c (Some x) is =
          let still = standing.newborn b (ap (λ (fs : List Fact). (fact_at fs b).linked) facts ∙ newborn b (ap is_some is)) in
          never (sym (ap is_some none) ∙ still)
      listed b was lt bytes none c None is = ⊎_elim
          (λ old. was.listed bytes is old)
          (λ version. one_version (versions_of disk b) bytes (was.settled (quiet.settled b)) (version lt))
          (l.clean.each b bytes c)

  -- a block of labels that has no turn has the labels that it had
  pub labels_shut : (unsure : List Bool) → Shutting p q → FitsLabels (record p { disk = disk }) unsure → FitsLabels (record q { disk = disk }) unsure
  labels_shut unsure x fits = record {
    each = λ b two before lt.
        let was = fits.each b two (subst (λ n. b < n) first before) lt in
        record {
          some = was.some;
          settled = λ e. was.settled (quiet.settled b);
          sure = λ e. settled_written (sym (x.tried b ∙ quiet.settled b) ∙ e);
          spelled = λ e. respelled b (latest_of (versions_of disk b)) e (was.spelled (quiet.clean b));
        };
  }
    where
      same : (b a : ℕ) → (flag_at q.turns b).dirty ≡ false → label_block a ≡ b → label_at q.region a ≡ label_at p.region a
      same b a clean here = ⊎_elim
          (λ e. e)
          (λ y. never (sym clean ∙ sym (ap (λ n. (flag_at q.turns n).dirty) here) ∙ l.turn a (shuts_of y)))
          (l.label a)

      respelled : (b : ℕ) (bytes : List ℕ) → (flag_at q.turns b).dirty ≡ false → SpellsLabels p.region b bytes → SpellsLabels q.region b bytes
      respelled b bytes clean s = record {
        long = s.long;
        each = λ a here. subst (λ (z : Label). SpellsLabel z (part_at (label_byte a) bytes)) (sym (same b a clean here)) (s.each a here);
        rest = s.rest;
      }

  -- ---- in the words of calls on blocks

  abbrev P : Parts
  P = record p { disk = disk; faults = f }

  abbrev Q : Parts
  Q = record p { held = q.held; turns = q.turns; region = q.region; waits = q.waits; removals = q.removals; disk = disk; faults = g }

  module _ (x : Shutting p q) (some : 0 < length p.removals) (clears : p.clears ≡ []) (count : count_of q.region ≡ count_of p.region) (closes : ClosesAtRest (record p { disk = disk; faults = f }) (record q { disk = disk; faults = g })) where
    label_changed : (b : ℕ) → Shuts (label_at p.region b) (label_at q.region b) → label_at q.region b ≢ label_at p.region b
    label_changed b s e = live_shut (ap (λ (z : Label). z.state) e ∙ s.0) s.1

    dirty_shut : (b : ℕ) → IsDirty q.turns q.held b → IsDirty p.turns p.held b ⊎ (((j : ℕ) × Clears p.clears b j × (Clears p.clears b j → ⊥)) ⊎ ((y : ℕ) × (label_at q.region y ≢ label_at p.region y) × (b ≡ label_block y)))
    dirty_shut b d = ⊎_elim
        (λ turn. ⊎_elim (λ was. inl (inl was)) (λ y. inr (inr (y.0, label_changed y.0 y.1, y.2))) (l.dirty b turn))
        (λ now. ⊎_elim (λ same. inl (inr (sym (ap is_changed same) ∙ now))) (λ gone. never (sym (ap is_changed gone.0) ∙ now)) (l.held b))
        d

    held_bytes : (o n : Option Buffer) (c d : Option (List ℕ)) (k m : List ℕ) → n ≡ o → is_changed n ≡ true → bytes_of n c k ≡ bytes_of o d m
    held_bytes o (Some y) c d k m e h = ap (λ (z : Option Buffer). bytes_of z d m) e
    held_bytes o None c d k m e h = never h

    none_changed : (b : ℕ) → is_changed (held_at q.held b) ≡ true → held_at q.held b ≡ None → ⊥
    none_changed b now e = never (sym (ap is_changed e) ∙ now)

    known : (b : ℕ) → IsBlock p b → IsChanging (state_of Q) b → StaysKnown (state_of P) (state_of Q) b
    known b is c = ⊎_elim
        (λ d. ⊎_elim
        (λ turn. never (sym (rest.clean b (let lo = is.0 in omega (arith, lo, first))) ∙ turn))
        (λ now. changed now)
        d)
        (λ w. absurd (subst (λ (cs : List Clearing). Clears cs b w.0) clears w.1))
        c
      where
        same_label : is_changed (held_at q.held b) ≡ true → label_at q.region b ≡ label_at p.region b
        same_label now = ⊎_elim (λ e. e) (λ gone. absurd (none_changed b now gone)) (x.label b)

        same_held : is_changed (held_at q.held b) ≡ true → held_at q.held b ≡ held_at p.held b
        same_held now = ⊎_elim (λ e. e) (λ gone. absurd (none_changed b now gone.0)) (l.held b)

        same : is_changed (held_at q.held b) ≡ true → memory Q b ≡ memory P b
        same now =
            ap (λ (z : Label). cond (nat_eq b 1) (one_content p.one p.one_bytes) (read z.kind (bytes_of (held_at q.held b) (lookup (nat_eq b) q.held.clean) (latest_of (versions_of disk b))))) (same_label now)
            ∙ ap (λ (bytes : List ℕ). cond (nat_eq b 1) (one_content p.one p.one_bytes) (read (label_at p.region b).kind bytes))
            (held_bytes (held_at p.held b) (held_at q.held b) (lookup (nat_eq b) q.held.clean) (lookup (nat_eq b) p.held.clean) (latest_of (versions_of disk b)) (latest_of (versions_of disk b)) (same_held now) now)

        changed : is_changed (held_at q.held b) ≡ true → StaysKnown (state_of P) (state_of Q) b
        changed now = record { bytes = ap (λ (z : Content). z.bytes) (same now); slots = λ j. inl (ap (λ (z : Content). z.slot j) (same now), λ h. h) }

    shut : (b : ℕ) → ShutBy p.removals P (record q { disk = disk; faults = g }) b → IsShut (state_of P) (state_of Q) b
    shut b y = record {
      closing = inl some;
      removal = y.removal.at;
      epoch = y.removal.epoch;
      whole = y.removal.whole;
      may = inl (y.removal, y.queued, refl, refl, refl);
      alone = y.alone;
      live = y.live;
      is = y.is;
      tag = y.tag;
      begun = y.begun;
      other = y.other;
      linked = λ h. never (sym h ∙ y.linked);
    }

    rests_shut : Rests (state_of P) (state_of Q)
    rests_shut = record {
      blocks = λ tells. absurd tells;
      images = record { each = λ image h. absurd h };
      passes = record { later = omega arith; before = λ n image le h. h; within = λ n image lo hi h. absurd h };
      fills = λ tells. absurd tells;
      order = λ b j h. h;
      no_wait = record { each = λ a on j out w. l.waits a on (j / 2) w };
      dirty = dirty_shut;
      closes = λ tells. absurd tells;
      leaves = λ tells. absurd tells;
      apart = λ b. (λ h. h, λ h. h);
      instead = λ b y. (λ h. h, λ h. h);
      newborn = λ b h. h;
      newborns = λ b h. h;
      kept = λ b is was now. known b is now;
      labels = λ b. ⊎_elim (λ same. inl same) (λ y. inr (shut b y)) (l.label b);
      removes = λ r e w h. inl (h.0, l.only h.0 h.1, h.2, h.3, h.4);
      queues = λ more. inl some;
      usable = l.usable;
      settled = λ was. absurd (let e = was.empty in omega (arith, e, some));
      numbers = record { next = refl; grants = λ h. h };
    }

    apart_shut : (b : ℕ) → label_at q.region b ≢ label_at p.region b → IsBlock p (label_block b) → ⊥
    apart_shut b ne is = ⊎_elim
        (λ same. ne same)
        (λ y. never (sym (rest.clean (label_block b) (let lo = is.0 in omega (arith, lo, first))) ∙ l.turn b (shuts_of y)))
        (l.label b)

    pub reserves_shut : Reserves P (record q { disk = disk; faults = g })
    reserves_shut = subst (λ (z : Parts). ClosesAtRest P z → Reserves P z) (sym l.rest) (λ closes. record {
      rests = rests_shut;
      keeps = record { first = first; count = omega (arith, first, count); high = refl; low = refl; root = refl; faults = l.faults };
      apart = apart_shut;
      closes = closes;
    }) closes

-- ---- over a device whose state stays

module _ (p q : Parts) (s t : DiskState) (same : t ≡ s) (f g : ℕ) (l : Leaves s.holds (record p { disk = s.holds; faults = f }) (record q { disk = t.holds; faults = g })) (quiet : IsQuiet p.turns) (rest : AtRest q) (first : q.region.first ≡ p.region.first) where
  over : Leaves s.holds (record p { disk = s.holds; faults = f }) (record q { disk = s.holds; faults = g })
  over = subst (λ (z : DiskState). Leaves s.holds (record p { disk = s.holds; faults = f }) (record q { disk = z.holds; faults = g })) same l

  pub fits_closed : ((b : ℕ) → is_some (held_at p.held b) ≡ true → IsNewborn p.facts b) → Standing q.held q.facts q.clears → Fits (record p { disk = s.holds }) s.unsure → Fits (record q { disk = t.holds }) t.unsure
  fits_closed newborn standing fits = subst (λ (z : DiskState). Fits (record q { disk = z.holds }) z.unsure) (sym same) (fits_shut p q s.holds f g over quiet rest first s.unsure newborn standing fits)

  pub labels_closed : Shutting p q → FitsLabels (record p { disk = s.holds }) s.unsure → FitsLabels (record q { disk = t.holds }) t.unsure
  labels_closed x fits = subst (λ (z : DiskState). FitsLabels (record q { disk = z.holds }) z.unsure) (sym same) (labels_shut p q s.holds f g over quiet rest first s.unsure x fits)

  pub one_closed : FitsOne p.one_bytes p.doubt s.holds → FitsOne q.one_bytes q.doubt t.holds
  one_closed fits = subst (λ (z : DiskState). FitsOne q.one_bytes q.doubt z.holds) (sym same) (one_like p q s.holds (ap (λ (z : Parts). z.one_bytes) over.rest) (ap (λ (z : Parts). z.doubt) over.rest) fits)

  pub reserves_closed : Shutting p q → 0 < length p.removals → p.clears ≡ [] → count_of q.region ≡ count_of p.region → ClosesAtRest (record p { disk = s.holds; faults = f }) (record q { disk = t.holds; faults = g }) → Reserves (record p { disk = s.holds; faults = f }) (record q { disk = t.holds; faults = g })
  reserves_closed x some clears count closes = subst (λ (z : DiskState). Reserves (record p { disk = s.holds; faults = f }) (record q { disk = z.holds; faults = g })) (sym same)
      (reserves_shut p q s.holds f g over quiet rest first x some clears count (subst (λ (z : DiskState). ClosesAtRest (record p { disk = s.holds; faults = f }) (record q { disk = z.holds; faults = g })) same closes))
