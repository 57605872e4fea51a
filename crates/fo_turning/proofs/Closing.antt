-- Steps of closing.
use Rattle.std.proofs.Common.{◌≡◌, ◌≢◌, inl, inr, ⊎_elim, ℕ, ◌≤◌, ◌<◌, Bool, true, false, nat_eq, List, [], ◌∷◌, length, drop, ◌-◌, slice_get, length-set, Option, Some, None, refl, sym, ap, ◌∙◌, subst, arith}
use Rattle.std.specs.List.{Contains}
use Rattle.std.specs.Option.{option_map_or}
use Rattle.std.proofs.lemmas.Bool.{cases_eq}
use Rattle.lru.proofs.CallerLemmas.{Contains-remove_entry}
use Rattle.lru.proofs.Splits.{Contains-cons, Contains-head, Contains-nil, Contains-tail}
use Rattle.fo_disk.specs.Disk.{Block, Versions, latest_of, versions_of}
use Rattle.fo_disk.specs.Disk.{Content as Holds}
use Rattle.fo_image.specs.declared.types.Kind.{Kind}
use Rattle.fo_image.specs.declared.types.Label.{Label}
use Rattle.fo_image.specs.declared.types.State.TheVariants.{Closed as Shut, Live}
use Rattle.fo_image.specs.Place.{label_block}
use Rattle.fo_mind.proofs.of_bring.Buffering.{cut_other, cut_same}
use Rattle.fo_buffers.specs.declared.block.Buffer.{Buffer}
use Rattle.fo_buffers.specs.Held.{Held, held_at, is_dirty, is_pinned, unlisted}
use Rattle.fo_labels.specs.Region.{IsDataBlock, Region, closed_label, usable_count}
use Rattle.fo_order.specs.declared.marks.Flags.{Flags}
use Rattle.fo_order.specs.Keeps.{Turns}
use Rattle.fo_order.specs.Turns.{changed, flag_at}
use Rattle.fo_ports.specs.State.{IsChanging, IsShut}
use Rattle.fo_facts.specs.Known.{fact_at}
use Rattle.fo_unlink.specs.declared.removal.Removal.{Removal}
use Rattle.fo_unlink.specs.declared.way.Frame.{Frame}
use Rattle.fo_unlink.specs.Pending.{Pending, first_removal, remaining}
use Rattle.fo_unlink.specs.Steps.{ClosesNext}
use Rattle.fo_waits.specs.declared.listed.Clearing.{Clearing}
use Rattle.fo_waits.specs.declared.listed.Wait.{Wait}
use Rattle.fo_waits.specs.Listed.{Awaits, Clears}
use Rattle.fo_mind.specs.Parts.{Parts, count_of, label_at, state_of}
use Rattle.fo_mind.specs.Sound.{Placed, Standing}
use Rattle.fo_mind.specs.Turning.{Turning, is_changed}
use Rattle.fo_mind.proofs.Giving.{change_other, label_here, label_other}
use Rattle.fo_mind.proofs.Standing.{standing_same}
use Rattle.fo_mind.proofs.Turning.{same_held}
use Rattle.fo_closing.proofs.Keeping.{listed_apart}
use Rattle.fo_closing.specs.declared.turn.Closing.{Closing}
use Rattle.fo_closing.specs.declared.turn.Closing.TheVariants.{Closed as ClosedIs, Reads, Stays, GivenUp as IsGivenUp, Empty as IsEmpty}
use Rattle.fo_closing.specs.Closed.{Closed}
use Rattle.fo_closing.specs.Known.{IsClosable, Looked}
use Rattle.fo_closing.specs.Rest.{AtRest}
use Rattle.fo_closing.specs.Turned.{Turned}
use Rattle.fo_cache.specs.Fits.{Fits, FitsLabels}
use Rattle.fo_cache.proofs.Calling.{count_relabeled, labels_before}
use Rattle.fo_cache.proofs.Labelling.{dirty_changed, labels_given, labels_kept}
use Rattle.fo_turning.specs.Freed.{Yields}
use Rattle.fo_turning.specs.Unlinks.{Forgets, Forgotten}
use Rattle.fo_turning.proofs.Yielding.{Still, changing_held, known_of, same_memory, yields_on, yields_still}

never : {A : Type 0} → true ≡ false → A
never e = cc

none_some : {A : Type 0} {x : Buffer} → None ≡ Some x → A
none_some e = cc

live_shut : {A : Type 0} → Live ≡ Shut → A
live_shut e = cc

-- ---- the device fits still

-- what of the fields of a cache stays, and what the device tells fits still
pub record Fitting (p q : Parts) (holds : Holds) : Type 0 where
  pub one_bytes : q.one_bytes ≡ p.one_bytes
  pub doubt : q.doubt ≡ p.doubt
  pub count : count_of q.region ≡ count_of p.region
  pub fits : (unsure : List Bool) → Fits (record p { disk = holds; faults = 0 }) unsure → Fits (record q { disk = holds; faults = 0 }) unsure
  pub labels : (unsure : List Bool) → FitsLabels (record p { disk = holds; faults = 0 }) unsure → FitsLabels (record q { disk = holds; faults = 0 }) unsure

pub fitting_on : {holds : Holds} {p m q : Parts} → Fitting p m holds → Fitting m q holds → Fitting p q holds
fitting_on a b = record {
  one_bytes = b.one_bytes ∙ a.one_bytes;
  doubt = b.doubt ∙ a.doubt;
  count = b.count ∙ a.count;
  fits = λ unsure f. b.fits unsure (a.fits unsure f);
  labels = λ unsure f. b.labels unsure (a.labels unsure f);
}

one_version : (versions : Versions) (bytes : Block) → length versions ≡ 1 → Contains versions bytes → latest_of versions ≡ bytes
one_version [] bytes e c = absurd (omega (arith, e))
one_version (v ∷ []) bytes e c = ⊎_elim (λ same. same) (λ none. absurd (Contains-nil bytes none)) (Contains-cons v [] bytes c)
one_version (v ∷ w ∷ versions) bytes e c = let h : length (v ∷ w ∷ versions) ≡ 1 = e in absurd (omega (arith, h))

-- after a look
pub fitting_looked : (holds : Holds) (p q : Parts) {first : ℕ} → Turning first p.held p.turns p.facts → p.region.first ≡ first → Looked holds p q → Fitting p q holds
fitting_looked holds p q turning is_first l = record {
  one_bytes = ap (λ (z : Parts). z.one_bytes) l.rest;
  doubt = ap (λ (z : Parts). z.doubt) l.rest;
  count = ap (λ (z : Parts). count_of z.region) l.rest;
  fits = λ unsure fits. record {
    each = λ b le lt.
        let old : p.region.first ≤ b = subst (λ (r : Region). r.first ≤ b) region le in
        let was = fits.each b old lt in
        let same = flags b in
        record {
          some = was.some;
          settled = λ e. was.settled (sym (ap (λ (f : Flags). f.tried) same) ∙ e);
          sure = λ e. was.sure (sym (ap (λ (f : Flags). f.tried) same) ∙ e);
          held = λ x is clean. was.held x (sym (l.held b) ∙ is) clean;
          listed = λ bytes none c.
              let free = sym (l.held b) ∙ none in
              ⊎_elim
              (λ before. was.listed bytes free before)
              (λ version. one_version (versions_of holds b) bytes (was.settled ((turning.each b).unheld (subst (λ n. n ≤ b) is_first old) free)) (version lt))
              (l.clean.each b bytes c);
        };
  };
  labels = λ unsure fits. labels_kept (record p { disk = holds; faults = 0 }) (record q { disk = holds; faults = 0 }) holds unsure region (λ b lt. flags b) fits;
}
  where
    region : q.region ≡ p.region
    region = ap (λ (z : Parts). z.region) l.rest

    flags : (b : ℕ) → flag_at q.turns b ≡ flag_at p.turns b
    flags b = ap (λ (z : Parts). flag_at z.turns b) l.rest

-- fewer removals are queued
pub fitting_queue : (holds : Holds) (p : Parts) (rs : List Removal) → Fitting p (record p { removals = rs }) holds
fitting_queue holds p rs = record {
  one_bytes = refl;
  doubt = refl;
  count = refl;
  fits = λ unsure fits. record { each = fits.each };
  labels = λ unsure fits. record { each = fits.each };
}

-- A block goes by this removal, which is queued: it is of the tag of the block with which that begins, and is that block where it goes alone.
pub record GoesBy (removals : List Removal) (region : Region) (w : Removal) (at : ℕ) : Type 0 where
  pub queued : Contains removals w
  pub alone : w.whole ≡ false → at ≡ w.at
  pub tag : (label_at region at).tag ≡ (label_at region w.at).tag

-- a block was closed, and nothing of it is clean
module _ (holds : Holds) (p q r : Parts) {at epoch first count : ℕ} (placed : Placed p.region p.turns p.facts first count) (c : Closed at epoch p q) (f : Forgets at q r) where
  is : IsDataBlock p.region at
  is = record { from = c.may.block.0; to = c.may.block.1 }

  here : held_at r.held at ≡ None
  here = f.held at ∙ ap (λ (h : Held). held_at h at) c.held ∙ cut_same (unlisted p.held at) at

  pub others : (b : ℕ) → b ≢ at → held_at r.held b ≡ held_at p.held b
  others b ne = f.held b ∙ ap (λ (h : Held). held_at h b) c.held ∙ cut_other (unlisted p.held at) at b ne

  turns : r.turns ≡ changed p.turns (label_block at) 0
  turns = ap (λ (z : Parts). z.turns) f.rest ∙ c.turns

  region : r.region ≡ q.region
  region = ap (λ (z : Parts). z.region) f.rest

  far : (b : ℕ) → p.region.first ≤ b → b ≢ label_block at
  far b le e = let before = labels_before placed is in absurd (omega (arith, before, le, e))

  flags : (b : ℕ) → p.region.first ≤ b → flag_at r.turns b ≡ flag_at p.turns b
  flags b le = ap (λ (t : Turns). flag_at t b) turns ∙ change_other p.turns (label_block at) 0 b (far b le)

  same_first : r.region.first ≡ p.region.first
  same_first = ap (λ (x : Region). x.first) region ∙ ap (λ (x : Region). x.first) c.region

  pub fitting_closed : Fitting p r holds
  fitting_closed = record {
    one_bytes = ap (λ (z : Parts). z.one_bytes) f.rest ∙ ap (λ (z : Parts). z.one_bytes) c.rest;
    doubt = ap (λ (z : Parts). z.doubt) f.rest ∙ ap (λ (z : Parts). z.doubt) c.rest;
    count = ap count_of region ∙ count_relabeled p.region q.region at (closed_label (label_at p.region at) epoch) c.region;
    fits = λ unsure fits. record {
      each = λ b le lt.
          let old : p.region.first ≤ b = subst (λ n. n ≤ b) same_first le in
          let was = fits.each b old lt in
          let same = flags b old in
          record {
            some = was.some;
            settled = λ e. was.settled (sym (ap (λ (f : Flags). f.tried) same) ∙ e);
            sure = λ e. was.sure (sym (ap (λ (f : Flags). f.tried) same) ∙ e);
            held = λ x now clean. ⊎_elim
                (λ e. none_some (sym here ∙ ap (held_at r.held) (sym e) ∙ now))
                (λ ne. was.held x (sym (others b ne) ∙ now) clean)
                (cases_eq b at);
            listed = λ bytes none k. ⊎_elim
                (λ e. absurd (f.gone bytes (subst (λ n. Contains r.held.clean (n, bytes)) e k)))
                (λ ne. was.listed bytes (sym (others b ne) ∙ none) (Contains-remove_entry (nat_eq at) p.held.clean (b, bytes) (subst (λ (h : Held). Contains h.clean (b, bytes)) c.held (f.clean b bytes k))))
                (cases_eq b at);
          };
    };
    labels = λ unsure fits. labels_given (record p { disk = holds; faults = 0 }) (record r { disk = holds; faults = 0 }) at (closed_label (label_at p.region at) epoch) holds unsure (region ∙ c.region) turns c.within is (dirty_changed p.turns (label_block at) c.within) fits;
  }

  -- ---- and in the words of calls on blocks

  pub label_now : label_at r.region at ≡ closed_label (label_at p.region at) epoch
  label_now = ap (λ (x : Region). label_at x at) (region ∙ c.region) ∙ label_here p.region at (closed_label (label_at p.region at) epoch) is

  pub label_then : (b : ℕ) → b ≢ at → label_at r.region b ≡ label_at p.region b
  label_then b ne = ap (λ (x : Region). label_at x b) (region ∙ c.region) ∙ label_other p.region at (closed_label (label_at p.region at) epoch) b is ne

  relabeled_at : label_at r.region at ≢ label_at p.region at
  relabeled_at e = live_shut (sym c.may.live ∙ ap (λ (l : Label). l.state) (sym e ∙ label_now))

  facts : (b : ℕ) → fact_at r.facts b ≡ fact_at p.facts b
  facts b = ap (λ (z : Parts). fact_at z.facts b) (f.rest) ∙ ap (λ (z : Parts). fact_at z.facts b) c.rest

  clears : r.clears ≡ p.clears
  clears = ap (λ (z : Parts). z.clears) f.rest ∙ ap (λ (z : Parts). z.clears) c.rest

  one : r.one ≡ p.one
  one = ap (λ (z : Parts). z.one) f.rest ∙ ap (λ (z : Parts). z.one) c.rest

  no_more : (a on j : ℕ) → Awaits r.waits a on j → Awaits p.waits a on j
  no_more a on j w = (listed_apart at p.waits a on _ (subst (λ (ws : List Wait). Awaits ws a on j) (ap (λ (z : Parts). z.waits) f.rest ∙ c.waits) w)).0

  dirty_here : (b : ℕ) → option_map_or is_dirty (held_at r.held b) false ≡ true → option_map_or is_dirty (held_at p.held b) false ≡ true
  dirty_here b d = ⊎_elim
      (λ e. never (sym d ∙ ap (λ n. option_map_or is_dirty (held_at r.held n) false) e ∙ ap (λ (o : Option Buffer). option_map_or is_dirty o false) here))
      (λ ne. sym (ap (λ (o : Option Buffer). option_map_or is_dirty o false) (others b ne)) ∙ d)
      (cases_eq b at)

  not_changing : (b : ℕ) → b ≡ at → IsChanging (state_of p) b → ⊥
  not_changing b e w = ⊎_elim
      (λ d. ⊎_elim
      (λ turn. never (sym turn ∙ ap (λ n. (flag_at p.turns n).dirty) e ∙ c.may.clean))
      (λ k. never (sym k ∙ ap (λ n. is_changed (held_at p.held n)) e ∙ c.may.calm))
      d)
      (λ k. c.may.unclear k.0 (subst (λ n. Clears p.clears n k.0) e k.1))
      w

  beyond : (b : ℕ) → b ≢ label_block at → (flag_at r.turns b).dirty ≡ (flag_at p.turns b).dirty
  beyond b ne = ap (λ (t : Turns). (flag_at t b).dirty) turns ∙ ap (λ (f : Flags). f.dirty) (change_other p.turns (label_block at) 0 b ne)

  -- where a removal was queued, whatever is left of it
  pub yields_closed : (rs : List Removal) (w : Removal) → w.epoch ≡ epoch → GoesBy rs p.region w at → ((x : Removal) → Contains p.removals x → Contains rs x) → 0 < length rs → length p.removals ≤ length rs → Turning first p.held p.turns p.facts → Standing p.held p.facts p.clears → Yields (record p { removals = rs }) r
  yields_closed rs w at_epoch goes only some fewer turning standing = record {
    rests = record {
      blocks = λ tells. absurd tells;
      images = record { each = λ image h. absurd h };
      passes = record { later = omega arith; before = λ n image le h. h; within = λ n image lo hi h. absurd h };
      fills = λ tells. absurd tells;
      order = λ b j h. subst (λ (cs : List Clearing). Clears cs b j) clears h;
      no_wait = record { each = λ a on j none w. no_more a on j w };
      dirty = λ b d. ⊎_elim
          (λ turn. ⊎_elim (λ e. inr (inr (at, relabeled_at, e))) (λ ne. inl (inl (sym (beyond b ne) ∙ turn))) (cases_eq b (label_block at)))
          (λ k. inl (inr (dirty_here b k)))
          d;
      closes = λ tells. absurd tells;
      leaves = λ tells. absurd tells;
      apart = λ b. let e = ap (λ f. f.apart) (facts b) in (λ h. sym e ∙ h, λ h. e ∙ h);
      instead = λ b x. let e = ap (λ f. f.apart) (facts b) in let o = ap (λ f. f.origin) (facts b) in (λ h. (sym e ∙ h.0, sym o ∙ h.1), λ h. (e ∙ h.0, o ∙ h.1));
      newborn = λ b h. sym (ap (λ f. f.linked) (facts b)) ∙ h;
      newborns = λ b h. ap (λ f. f.linked) (facts b) ∙ h;
      kept = λ b block was now. ⊎_elim
          (λ e. absurd (not_changing b e was))
          (λ ne.
          let h = changing_held p b turning standing placed.is_first block was in
          known_of (record p { removals = rs }) r b clears (same_memory (record p { removals = rs }) r b h.0 h.0 (label_then b ne) one one_bytes h.1 (others b ne ∙ h.1) refl))
          (cases_eq b at);
      labels = λ b. ⊎_elim
          (λ e. inr (subst (IsShut (state_of (record p { removals = rs })) (state_of r)) (sym e) shut))
          (λ ne. inl (label_then b ne))
          (cases_eq b at);
      removes = λ b e whole h. inl (h.0, only h.0 (subst (λ (xs : List Removal). Contains xs h.0) removals h.1), h.2, h.3, h.4);
      queues = λ h. inl some;
      usable = let u = c.usable in let e = same_usable in omega (arith, u, e);
      settled = λ was. absurd (let e = was.empty in omega (arith, e, some));
      numbers = record { next = next; grants = λ h. granted ∙ h };
    };
    keeps = record {
      first = same_first;
      count = ap (λ (x : Region). length x.labels) (region ∙ c.region) ∙ length-set p.region.labels (at - p.region.first) (closed_label (label_at p.region at) epoch);
      high = ap (λ x. x.high) one;
      low = ap (λ x. x.low) one;
      root = ap (λ x. x.active) one;
      faults = let e = ap (λ (z : Parts). z.faults) f.rest in let k = ap (λ (z : Parts). z.faults) c.rest in omega (arith, e, k);
    };
    far = λ x ne block. ⊎_elim
        (λ e. let before = labels_before placed is in let lo = block.0 in absurd (omega (arith, before, lo, e)))
        (λ other. absurd (ne (label_then x other)))
        (cases_eq x at);
  }
    where
      one_bytes : r.one_bytes ≡ p.one_bytes
      one_bytes = ap (λ (z : Parts). z.one_bytes) f.rest ∙ ap (λ (z : Parts). z.one_bytes) c.rest

      next : r.next ≡ p.next
      next = ap (λ (z : Parts). z.next) f.rest ∙ ap (λ (z : Parts). z.next) c.rest

      granted : r.granted ≡ p.granted
      granted = ap (λ (z : Parts). z.granted) f.rest ∙ ap (λ (z : Parts). z.granted) c.rest

      removals : r.removals ≡ p.removals
      removals = ap (λ (z : Parts). z.removals) f.rest ∙ ap (λ (z : Parts). z.removals) c.rest

      shut : IsShut (state_of (record p { removals = rs })) (state_of r) at
      shut = record {
        closing = inl some;
        removal = w.at;
        epoch = epoch;
        whole = w.whole;
        may = inl (w, goes.queued, refl, at_epoch, refl);
        alone = goes.alone;
        live = c.may.live;
        is = label_now;
        tag = goes.tag;
        begun = c.may.begun;
        other = c.may.other;
        linked = λ h. never (sym c.may.linked ∙ h);
      }

      same_usable : usable_count r.one.low r.region ≡ usable_count p.one.low q.region
      same_usable = ap (λ (x : Region). usable_count r.one.low x) region ∙ ap (λ o. usable_count o.low q.region) one

-- ---- what a look leaves, and a shorter queue

pub turning_looked : {holds : Holds} {first : ℕ} (p q : Parts) → Looked holds p q → Turning first p.held p.turns p.facts → Turning first q.held q.turns q.facts
turning_looked {holds} {first} p q l t = subst (λ (z : Parts). Turning first q.held z.turns z.facts) (sym l.rest) (record { each = (same_held {g = q.held} l.held t).each })

pub standing_looked : {holds : Holds} (p q : Parts) → Looked holds p q → Standing p.held p.facts p.clears → Standing q.held q.facts q.clears
standing_looked p q l t = subst (λ (z : Parts). Standing q.held z.facts z.clears) (sym l.rest) (standing_same l.held t)

pub placed_looked : {holds : Holds} {first count : ℕ} (p q : Parts) → Looked holds p q → Placed p.region p.turns p.facts first count → Placed q.region q.turns q.facts first count
placed_looked {holds} {first} {count} p q l t = subst (λ (z : Parts). Placed z.region z.turns z.facts first count) (sym l.rest)
    (record { is_first = t.is_first; is_count = t.is_count; is_place = t.is_place; begins = t.begins; small = t.small; flag_count = t.flag_count; fact_count = t.fact_count })

pub still_looked : {holds : Holds} {first : ℕ} (p q : Parts) → Turning first p.held p.turns p.facts → Standing p.held p.facts p.clears → p.region.first ≡ first → Looked holds p q → Still p q
still_looked p q turning standing is_first l = record {
  region = ap (λ (z : Parts). z.region) l.rest;
  one = ap (λ (z : Parts). z.one) l.rest;
  apart = λ b. ap (λ (z : Parts). (fact_at z.facts b).apart) l.rest;
  origin = λ b. ap (λ (z : Parts). (fact_at z.facts b).origin) l.rest;
  linked = λ b. ap (λ (z : Parts). (fact_at z.facts b).linked) l.rest;
  clears = ap (λ (z : Parts). z.clears) l.rest;
  waits = ap (λ (z : Parts). z.waits) l.rest;
  removals = let e = ap (λ (z : Parts). length z.removals) l.rest in omega (arith, e);
  only = λ r h. subst (λ (rs : List Removal). Contains rs r) (ap (λ (z : Parts). z.removals) l.rest) h;
  next = ap (λ (z : Parts). z.next) l.rest;
  granted = ap (λ (z : Parts). z.granted) l.rest;
  dirty = λ b d. ⊎_elim
      (λ turn. inl (sym (ap (λ (z : Parts). (flag_at z.turns b).dirty) l.rest) ∙ turn))
      (λ k. inr (sym (ap (λ (o : Option Buffer). option_map_or is_dirty o false) (l.held b)) ∙ k))
      d;
  known = λ b is was now.
      let h = changing_held p b turning standing is_first is was in
      same_memory p q b h.0 h.0 (ap (λ (z : Parts). label_at z.region b) l.rest) (ap (λ (z : Parts). z.one) l.rest) (ap (λ (z : Parts). z.one_bytes) l.rest) h.1 (l.held b ∙ h.1) refl;
  faults = l.faults;
}

pub still_queue : (p : Parts) (rs : List Removal) → length rs ≤ length p.removals → ((r : Removal) → Contains rs r → Contains p.removals r) → Still p (record p { removals = rs })
still_queue p rs fewer only = record {
  region = refl;
  one = refl;
  apart = λ b. refl;
  origin = λ b. refl;
  linked = λ b. refl;
  clears = refl;
  waits = refl;
  removals = fewer;
  only = only;
  next = refl;
  granted = refl;
  dirty = λ b d. d;
  known = λ b is was now. refl;
  faults = omega arith;
}

-- ---- a step

drop_length : (rs : List Removal) → length (drop 1 rs) ≤ length rs
drop_length [] = omega (arith)
drop_length (r ∷ rs) = omega (arith)

fewer_left : (rs : List Removal) (way : List Frame) → length (remaining rs way) ≤ length rs
fewer_left rs [] = drop_length rs
fewer_left rs (f ∷ fs) = omega (arith)

some_left : (rs : List Removal) (r : Removal) → slice_get rs 0 ≡ Some r → 0 < length rs
some_left [] r e = cc
some_left (x ∷ rs) r e = omega (arith)

drop_only : (rs : List Removal) (r : Removal) → Contains (drop 1 rs) r → Contains rs r
drop_only [] r h = h
drop_only (x ∷ rs) r h = Contains-tail x rs r h

-- what is left was queued
left_only : (rs : List Removal) (way : List Frame) (r : Removal) → Contains (remaining rs way) r → Contains rs r
left_only rs [] r h = drop_only rs r h
left_only rs (f ∷ fs) r h = h

first_queued : (rs : List Removal) (r : Removal) → slice_get rs 0 ≡ Some r → Contains rs r
first_queued [] r e = absurd cc
first_queued (x ∷ rs) r e = let same : x ≡ r = cc in subst (Contains (x ∷ rs)) same (Contains-head x rs)

same_removals : {xs ys : List Removal} → xs ≡ ys → (r : Removal) → Contains xs r → Contains ys r
same_removals e r h = subst (λ (rs : List Removal). Contains rs r) e h

-- what a step closes goes by the first removal
goes_by : (m : Parts) (u v : Pending) (block : List ℕ) (w : Removal) (kind : Kind) (b : ℕ) → m.removals ≡ u.removals → first_removal u ≡ Some w → ClosesNext true u block v b → IsClosable m w kind b → GoesBy m.removals m.region w b
goes_by m u v block w kind b same first n may = record {
  queued = same_removals (sym same) w (first_queued u.removals w first);
  alone = let e : n.first ≡ w = (let x : Some n.first ≡ Some w = sym n.goes_on.first ∙ first in cc) in λ h. n.alone (ap (λ (x : Removal). x.whole) e ∙ h) ∙ ap (λ (x : Removal). x.at) e;
  tag = may.part.tag;
}

-- what a step leaves
pub record Carries (p q : Parts) (holds : Holds) : Type 0 where
  pub fitting : Fitting p q holds
  pub yields : Yields p q

pub on : {holds : Holds} {p m q : Parts} → Carries p m holds → Carries m q holds → Carries p q holds
on a b = record { fitting = fitting_on a.fitting b.fitting; yields = yields_on a.yields b.yields }

module _ (holds : Holds) (p : Parts) {first count : ℕ} (placed : Placed p.region p.turns p.facts first count) (turning : Turning first p.held p.turns p.facts) (standing : Standing p.held p.facts p.clears) where
  pub looks : (q : Parts) → Looked holds p q → Carries p q holds
  looks q l = record { fitting = fitting_looked holds p q turning placed.is_first l; yields = yields_still p q (still_looked p q turning standing placed.is_first l) }

  pub queues : (q : Parts) (rs : List Removal) → length rs ≤ length p.removals → ((x : Removal) → Contains rs x → Contains p.removals x) → q ≡ record p { removals = rs } → Carries p q holds
  queues q rs fewer only is = subst (λ (z : Parts). Carries p z holds) (sym is) (record { fitting = fitting_queue holds p rs; yields = yields_still p (record p { removals = rs }) (still_queue p rs fewer only) })

  pub shuts : (rs : List Removal) (q r : Parts) (w : Removal) {at : ℕ} → GoesBy p.removals p.region w at → ((x : Removal) → Contains rs x → Contains p.removals x) → 0 < length p.removals → length rs ≤ length p.removals → Closed at w.epoch (record p { removals = rs }) q → Forgets at q r → Carries p r holds
  shuts rs q r w goes only some fewer c f = record {
    fitting = fitting_on (fitting_queue holds p rs) (fitting_closed holds (record p { removals = rs }) q r placed c f);
    yields = yields_closed holds (record p { removals = rs }) q r placed c f p.removals w refl goes only some fewer turning standing;
  }

module _ (holds : Holds) (p : Parts) (u v : Pending) {first count : ℕ} (placed : Placed p.region p.turns p.facts first count) (turning : Turning first p.held p.turns p.facts) (standing : Standing p.held p.facts p.clears) (same : p.removals ≡ u.removals) where
  after : {q : Parts} (m : Parts) → Looked holds p m → Carries m q holds → Carries p q holds
  after m l g = on (looks holds p placed turning standing m l) g

  mid : (m : Parts) → Looked holds p m → m.removals ≡ u.removals
  mid m l = ap (λ (z : Parts). z.removals) l.rest ∙ same

  -- what a queue has left was queued
  left : (m : Parts) → Looked holds p m → (x : Removal) → Contains (remaining u.removals v.way) x → Contains m.removals x
  left m l x h = same_removals (sym (mid m l)) x (left_only u.removals v.way x h)

  pub carries : (answer : Closing) (closed q : Parts) → Turned holds answer p closed u v → Forgotten answer closed q → Carries p q holds
  carries (ClosedIs b) closed q t f =
      let m = t.mid in
      let l = t.looked in
      let k = ap length (mid m l) in
      let n = some_left u.removals t.first t.is_first in
      let w = fewer_left u.removals v.way in
      let e = ap length t.went.0.removals in
      let only : (x : Removal) → Contains v.removals x → Contains m.removals x = λ x h. left m l x (same_removals t.went.0.removals x h) in
      let goes = goes_by m u v t.block t.first _ b (mid m l) t.is_first t.went.0 t.went.1 in
      after m l (shuts holds m (placed_looked p m l placed) (turning_looked p m l turning) (standing_looked p m l standing) v.removals closed q t.first goes only (omega (arith, k, n)) (omega (arith, k, w, e)) t.went.2 f)
  carries (Stays b) closed q t f =
      let m = t.mid in
      let l = t.looked in
      let k = ap length (mid m l) in
      let w = fewer_left u.removals v.way in
      let e = ap length t.went.0.removals in
      after m l (queues holds m (placed_looked p m l placed) (turning_looked p m l turning) (standing_looked p m l standing) q v.removals (omega (arith, k, w, e)) (λ x h. left m l x (same_removals t.went.0.removals x h)) (f ∙ t.went.2))
  carries (Reads b) closed q t f =
      let m = t.mid in
      let l = t.looked in
      let k = ap length (mid m l) in
      let e = ap length t.went.0.removals in
      after m l (queues holds m (placed_looked p m l placed) (turning_looked p m l turning) (standing_looked p m l standing) q v.removals (omega (arith, k, e)) (λ x h. same_removals (sym (mid m l)) x (same_removals t.went.0.removals x h)) (f ∙ t.went.1))
  carries IsGivenUp closed q t f =
      let k = ap length same in
      let n = drop_length u.removals in
      let e = ap (λ (x : Pending). length x.removals) t.is in
      queues holds p placed turning standing q v.removals (omega (arith, k, n, e)) (λ x h. same_removals (sym same) x (drop_only u.removals x (same_removals (ap (λ (z : Pending). z.removals) t.is) x h))) (f ∙ t.rest)
  carries IsEmpty closed q t f = queues holds p placed turning standing q p.removals (omega arith) (λ x h. h) (f ∙ t.2)

-- ---- at rest

pub rest_forgets : (p q : Parts) (at : ℕ) → Forgets at p q → AtRest p → AtRest q
rest_forgets p q at f rest = subst AtRest (sym f.rest) (record {
  clean = rest.clean;
  settled = rest.settled;
  free = λ b e. rest.free b (ap (λ (o : Option Buffer). option_map_or is_pinned o false) (sym (f.held b)) ∙ e);
  none = rest.none;
  sure = rest.sure;
})

pub rest_forgotten : (answer : Closing) (p q : Parts) → Forgotten answer p q → AtRest p → AtRest q
rest_forgotten (ClosedIs b) p q f rest = rest_forgets p q b f rest
rest_forgotten (Stays b) p q f rest = subst AtRest (sym f) rest
rest_forgotten (Reads b) p q f rest = subst AtRest (sym f) rest
rest_forgotten IsGivenUp p q f rest = subst AtRest (sym f) rest
rest_forgotten IsEmpty p q f rest = subst AtRest (sym f) rest

pub forgotten_at : (disk : Holds) (faults : ℕ) (answer : Closing) (p q : Parts) → Forgotten answer p q → Forgotten answer (record p { disk = disk; faults = faults }) (record q { disk = disk; faults = faults })
forgotten_at disk faults (ClosedIs b) p q f = record { held = f.held; clean = f.clean; gone = f.gone; room = f.room; rest = ap (λ (z : Parts). record z { disk = disk; faults = faults }) f.rest }
forgotten_at disk faults (Stays b) p q f = ap (λ (z : Parts). record z { disk = disk; faults = faults }) f
forgotten_at disk faults (Reads b) p q f = ap (λ (z : Parts). record z { disk = disk; faults = faults }) f
forgotten_at disk faults IsGivenUp p q f = ap (λ (z : Parts). record z { disk = disk; faults = faults }) f
forgotten_at disk faults IsEmpty p q f = ap (λ (z : Parts). record z { disk = disk; faults = faults }) f

-- a block that was closed isn't held
pub closed_unheld : (holds : Holds) (answer : Closing) (p q : Parts) (u v : Pending) → Turned holds answer p q u v → (at : ℕ) → answer ≡ ClosedIs at → held_at q.held at ≡ None
closed_unheld holds answer p q u v t at e =
    let g = subst (λ (a : Closing). Turned holds a p q u v) e t in
    let c = g.went.2 in
    ap (λ (h : Held). held_at h at) c.held ∙ cut_same (unlisted g.mid.held at) at
