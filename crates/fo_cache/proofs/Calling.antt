-- Calls that don't write keep what ties the fields of a cache to its device.
use Rattle.std.proofs.Common.{◌≡◌, ◌≢◌, ⊎_elim, ℕ, ◌+◌, ◌-◌, ◌<◌, ◌≤◌, ◌&&◌, Bool, true, false, cond, nat_eq, List, [], ◌∷◌, length, get_or, set, Option, Some, None, refl, sym, ap, ◌∙◌, subst, arith, get_or-set_same, length-set}
use Rattle.std.specs.List.{Contains}
use Rattle.std.specs.Map.{lookup}
use Rattle.std.specs.Option.{MatchOption}
use Rattle.std.proofs.lemmas.Bool.{cases_eq}
use Rattle.lru.proofs.CallerLemmas.{Contains-remove_entry}
use Rattle.lru.proofs.Splits.{Contains-cons, Contains-nil}
use Rattle.fo_image.specs.declared.types.Label.{Label}
use Rattle.fo_image.specs.declared.types.Kind.{Kind}
use Rattle.fo_image.specs.Usable.{live_label}
use Rattle.fo_image.specs.Place.{label_block}
use Rattle.fo_disk.specs.Disk.{Block, Content, Versions, latest_of, versions_of}
use Rattle.fo_buffers.specs.declared.block.Buffer.{Buffer}
use Rattle.fo_buffers.specs.Held.{Held, buffer_of, held_at, put, unlisted, used}
use Rattle.fo_order.specs.declared.marks.Flags.{Flags}
use Rattle.fo_order.specs.Flags.{flags_of, quiet}
use Rattle.fo_order.specs.Keeps.{Turns}
use Rattle.fo_order.specs.Turns.{changed, flag_at}
use Rattle.fo_labels.specs.Region.{IsDataBlock, Region, relabeled}
use Rattle.fo_facts.specs.Known.{fact_at}
use Rattle.fo_mind.specs.of_bring.Holds.{IsFound, IsFromIn}
use Rattle.fo_mind.proofs.of_bring.Buffering.{put_other, put_same}
use Rattle.fo_facts.specs.declared.fact.Fact.{Fact}
use Rattle.fo_mind.specs.Changes.{Given, Refilled, takes_turn, turned}
use Rattle.fo_mind.specs.Got.{ComesFrom}
use Rattle.fo_mind.specs.Parts.{CacheKeeps, Parts, count_of}
use Rattle.fo_mind.specs.Sound.{Placed}
use Rattle.fo_mind.specs.Turning.{Turning, Unpinned}
use Rattle.fo_mind.proofs.Unpinning.{Unpins, unpins_of}
use Rattle.fo_mind.proofs.Giving.{change_other}
use Rattle.fo_mind.proofs.Refilling.{Refills, flags_turned}
use Rattle.fo_cache.specs.Fits.{Fits, FitsAt}
use Rattle.fo_cache.proofs.Outcomes.{lookup_contains}

same_some : {x y : Buffer} → Some x ≡ Some y → x ≡ y
same_some e = cc

some_none : {A : Type 0} {x : Buffer} → Some x ≡ None → A
some_none e = cc

never : {A : Type 0} → true ≡ false → A
never e = cc

one_version : (versions : Versions) (bytes : Block) → length versions ≡ 1 → Contains versions bytes → latest_of versions ≡ bytes
one_version [] bytes e c = absurd (omega (arith, e))
one_version (v ∷ []) bytes e c = ⊎_elim (λ same. same) (λ none. absurd (Contains-nil bytes none)) (Contains-cons v [] bytes c)
one_version (v ∷ w ∷ versions) bytes e c = let h : length (v ∷ w ∷ versions) ≡ 1 = e in absurd (omega (arith, h))

-- ---- a block is got

module _ (p q : Parts) (at : ℕ) (holds : Content) (unsure : List Bool) (turns : q.turns ≡ p.turns) (region : q.region ≡ p.region) (turning : Turning p.region.first p.held p.turns p.facts)
    (others : (k : ℕ) → k ≢ at → held_at q.held k ≡ held_at p.held k)
    (bytes : (x : Buffer) → held_at p.held at ≡ Some x → (y : Buffer) × (held_at q.held at ≡ Some y) × (y.block ≡ x.block) × (y.dirty ≡ x.dirty) × (x.pinned ≡ true → y.pinned ≡ true))
    (comes : ComesFrom holds at p.held q.held) where
  tried : (b : ℕ) → (flag_at q.turns b).tried ≡ (flag_at p.turns b).tried
  tried b = ap (λ (t : Turns). (flag_at t b).tried) turns

  abbrev Was : ℕ → Type 0
  Was b = FitsAt b (versions_of holds b) (flag_at p.turns b) (held_at p.held b) p.held.clean (get_or unsure b false)

  abbrev Is : ℕ → Type 0
  Is b = FitsAt b (versions_of holds b) (flag_at q.turns b) (held_at q.held b) q.held.clean (get_or unsure b false)

  -- a version of a block that was not held is its last one
  last_one : (b : ℕ) → p.region.first ≤ b → b < length holds → Was b → held_at p.held b ≡ None → (bs : List ℕ) → (b < length holds → Contains (versions_of holds b) bs) → latest_of (versions_of holds b) ≡ bs
  last_one b le lt was none bs version = one_version (versions_of holds b) bs (was.settled ((turning.each b).unheld le none)) (version lt)

  listed : (b : ℕ) → p.region.first ≤ b → b < length holds → Was b → held_at p.held b ≡ None → (bs : List ℕ) → Contains q.held.clean (b, bs) → latest_of (versions_of holds b) ≡ bs
  listed b le lt was none bs c = ⊎_elim (λ old. was.listed bs none old) (λ version. last_one b le lt was none bs version) (comes.clean.each b bs c)

  other : (b : ℕ) → b ≢ at → p.region.first ≤ b → b < length holds → Was b → Is b
  other b ne le lt was = record {
    some = was.some;
    settled = λ e. was.settled (sym (tried b) ∙ e);
    sure = λ e. was.sure (sym (tried b) ∙ e);
    held = λ x is clean. was.held x (sym (others b ne) ∙ is) clean;
    listed = λ bs none c. listed b le lt was (sym (others b ne) ∙ none) bs c;
  }

  here : p.region.first ≤ at → at < length holds → Was at → Is at
  here le lt was = record {
    some = was.some;
    settled = λ e. was.settled (sym (tried at) ∙ e);
    sure = λ e. was.sure (sym (tried at) ∙ e);
    held = λ x is clean. held_now x is clean (held_at p.held at) refl (comes.held x is);
    listed = λ bs none c. listed at le lt was (none_was (held_at p.held at) refl none) bs c;
  }
    where
      none_was : (o : Option Buffer) → held_at p.held at ≡ o → held_at q.held at ≡ None → o ≡ None
      none_was (Some x) is none = let y = bytes x is in some_none (sym y.1 ∙ none)
      none_was None is none = refl

      found : (x : Buffer) (c : Option (List ℕ)) → lookup (nat_eq at) p.held.clean ≡ c → held_at p.held at ≡ None → IsFound holds at c x.block → latest_of (versions_of holds at) ≡ x.block
      found x (Some bs) e none s = was.listed bs none (lookup_contains at p.held.clean bs e) ∙ sym s
      found x None e none s = last_one at le lt was none x.block s

      held_now : (x : Buffer) → held_at q.held at ≡ Some x → x.dirty ≡ false → (o : Option Buffer) → held_at p.held at ≡ o → IsFromIn holds at o (lookup (nat_eq at) p.held.clean) x.block → latest_of (versions_of holds at) ≡ x.block
      held_now x is clean (Some w) h s =
          let y = bytes w h in
          let same : y.0 ≡ x = same_some (sym y.1 ∙ is) in
          was.held w h (sym y.3 ∙ ap (λ (z : Buffer). z.dirty) same ∙ clean) ∙ sym y.2 ∙ ap (λ (z : Buffer). z.block) same
      held_now x is clean None h s = found x (lookup (nat_eq at) p.held.clean) refl h s

  pub fits_got : Fits (record p { disk = holds }) unsure → Fits (record q { disk = holds }) unsure
  fits_got fits = record {
    each = λ b le lt.
        let old : p.region.first ≤ b = subst (λ (r : Region). r.first ≤ b) region le in
        ⊎_elim
        (λ e. subst Is (sym e) (here (subst (λ n. p.region.first ≤ n) e old) (subst (λ n. n < length holds) e lt) (subst Was e (fits.each b old lt))))
        (λ ne. other b ne old lt (fits.each b old lt))
        (cases_eq b at);
  }

-- ---- a block is given out

-- blocks of labels come before the data blocks
pub labels_before : {region : Region} {t : Turns} {facts : List Fact} {first count at : ℕ} → Placed region t facts first count → IsDataBlock region at → label_block at < region.first
labels_before {region} {at = at} placed block =
    let p = placed.is_place in
    let f = placed.is_first in
    let n = placed.is_count in
    let lt = block.to in
    omega (arith, p, f, n, lt)

pub count_relabeled : (old new : Region) (at : ℕ) (l : Label) → new ≡ relabeled old at l → count_of new ≡ count_of old
count_relabeled old new at l is = ap count_of is ∙ ap (λ n. old.first + n) (length-set old.labels (at - old.first) l)

module _ (p q : Parts) (at : ℕ) (bytes : List ℕ) (holds : Content) (unsure : List Bool)
    (held : q.held ≡ used (put (unlisted p.held at) at (buffer_of bytes true true))) (turns : q.turns ≡ changed p.turns (label_block at) 0) (first : q.region.first ≡ p.region.first) (before : label_block at < p.region.first) where
  pub fits_given : Fits (record p { disk = holds }) unsure → Fits (record q { disk = holds }) unsure
  fits_given fits = record {
    each = λ b le lt.
        let old : p.region.first ≤ b = subst (λ n. n ≤ b) first le in
        let was = fits.each b old lt in
        let far : b ≢ label_block at = λ e. absurd (omega (arith, e, old, before)) in
        let same = ap (λ (t : Turns). flag_at t b) turns ∙ change_other p.turns (label_block at) 0 b far in
        record {
          some = was.some;
          settled = λ e. was.settled (sym (ap (λ (f : Flags). f.tried) same) ∙ e);
          sure = λ e. was.sure (sym (ap (λ (f : Flags). f.tried) same) ∙ e);
          held = λ x is clean. ⊎_elim
              (λ e. never (ap (λ (z : Buffer). z.dirty) (same_some (sym here ∙ ap (held_at q.held) (sym e) ∙ is)) ∙ clean))
              (λ ne. was.held x (sym (there b ne) ∙ is) clean)
              (cases_eq b at);
          listed = λ bs none c. ⊎_elim
              (λ e. some_none (sym here ∙ ap (held_at q.held) (sym e) ∙ none))
              (λ ne. was.listed bs (sym (there b ne) ∙ none) (Contains-remove_entry (nat_eq at) p.held.clean (b, bs) (subst (λ (h : Held). Contains h.clean (b, bs)) held c)))
              (cases_eq b at);
        };
  }
    where
      here : held_at q.held at ≡ Some (buffer_of bytes true true)
      here = ap (λ (h : Held). held_at h at) held ∙ put_same (unlisted p.held at) at (buffer_of bytes true true)

      there : (b : ℕ) → b ≢ at → held_at q.held b ≡ held_at p.held b
      there b ne = ap (λ (h : Held). held_at h b) held ∙ put_other (unlisted p.held at) at (buffer_of bytes true true) b ne

-- ---- a pinned block gets other bytes

pub tried_changed : (t : Turns) (at rank : ℕ) → at < length t.flags → (flag_at (changed t at rank) at).tried ≡ (flag_at t at).tried
tried_changed t at rank within = by ((flag_at t at).dirty && nat_eq (flag_at t at).rank rank)
  where
    by : (b : Bool) → (flag_at (cond b t (record t { flags = set t.flags at (flags_of true (flag_at t at).tried rank); room = t.room - 1 })) at).tried ≡ (flag_at t at).tried
    by true = refl
    by false = ap (λ (f : Flags). f.tried) (get_or-set_same t.flags at (flags_of true (flag_at t at).tried rank) quiet within)

tried_turned : (facts : List Fact) (t : Turns) (at : ℕ) → at < length t.flags → (flag_at (turned facts t at) at).tried ≡ (flag_at t at).tried
tried_turned facts t at within = by (takes_turn facts t at)
  where
    by : (b : Bool) → (flag_at (cond b (changed t at (fact_at facts at).rank) t) at).tried ≡ (flag_at t at).tried
    by true = tried_changed t at (fact_at facts at).rank within
    by false = refl

module _ (p q : Parts) (at : ℕ) {bytes : List ℕ} (holds : Content) (unsure : List Bool) (lt : at < length p.facts) (within : at < length p.turns.flags)
    (r : Refills at bytes p.held q.held) (turns : q.turns ≡ turned p.facts p.turns at) (region : q.region ≡ p.region) where
  pub fits_refilled : Fits (record p { disk = holds }) unsure → Fits (record q { disk = holds }) unsure
  fits_refilled fits = record {
    each = λ b le inside.
        let old : p.region.first ≤ b = subst (λ (r : Region). r.first ≤ b) region le in
        let was = fits.each b old inside in
        record {
          some = was.some;
          settled = λ e. was.settled (sym (tried b) ∙ e);
          sure = λ e. was.sure (sym (tried b) ∙ e);
          held = λ x is clean. ⊎_elim
              (λ e. never (ap (λ (z : Buffer). z.dirty) (same_some (sym r.here ∙ ap (held_at q.held) (sym e) ∙ is)) ∙ clean))
              (λ ne. was.held x (sym (r.others b ne) ∙ is) clean)
              (cases_eq b at);
          listed = λ bs none c. ⊎_elim
              (λ e. some_none (sym r.here ∙ ap (held_at q.held) (sym e) ∙ none))
              (λ ne. was.listed bs (sym (r.others b ne) ∙ none) (subst (λ (es : List (ℕ × List ℕ)). Contains es (b, bs)) r.clean c))
              (cases_eq b at);
        };
  }
    where
      tried : (b : ℕ) → (flag_at q.turns b).tried ≡ (flag_at p.turns b).tried
      tried b = ap (λ (t : Turns). (flag_at t b).tried) turns ∙ ⊎_elim
          (λ e. subst (λ n. (flag_at (turned p.facts p.turns at) n).tried ≡ (flag_at p.turns n).tried) (sym e) (tried_turned p.facts p.turns at within))
          (λ ne. ap (λ (f : Flags). f.tried) (flags_turned p.facts p.turns at lt within b ne))
          (cases_eq b at)

-- ---- a block is pinned no more

module _ (p q : Parts) (at : ℕ) (holds : Content) (unsure : List Bool) (u : Unpins at p.held q.held) (turns : q.turns ≡ p.turns) (region : q.region ≡ p.region) where
  fits_one : Fits (record p { disk = holds }) unsure → Fits (record q { disk = holds }) unsure
  fits_one fits = record {
    each = λ b le inside.
        let old : p.region.first ≤ b = subst (λ (r : Region). r.first ≤ b) region le in
        let was = fits.each b old inside in
        let same = ap (λ (t : Turns). flag_at t b) turns in
        record {
          some = was.some;
          settled = λ e. was.settled (sym (ap (λ (f : Flags). f.tried) same) ∙ e);
          sure = λ e. was.sure (sym (ap (λ (f : Flags). f.tried) same) ∙ e);
          held = λ x is clean. ⊎_elim
              (λ e.
              let it = same_some (sym u.here ∙ ap (held_at q.held) (sym e) ∙ is) in
              was.held u.was (ap (held_at p.held) e ∙ u.held) (ap (λ (z : Buffer). z.dirty) it ∙ clean) ∙ ap (λ (z : Buffer). z.block) it)
              (λ ne. was.held x (sym (u.others b ne) ∙ is) clean)
              (cases_eq b at);
          listed = λ bs none c. ⊎_elim
              (λ e. some_none (sym u.here ∙ ap (held_at q.held) (sym e) ∙ none))
              (λ ne. was.listed bs (sym (u.others b ne) ∙ none) (subst (λ (es : List (ℕ × List ℕ)). Contains es (b, bs)) u.clean c))
              (cases_eq b at);
        };
  }

module _ (p q : Parts) (none : Type 0) where
  pub region_unpinned : (o : Option ℕ) → MatchOption o ((q ≡ p) × none) (λ at. Unpinned at p q) → q.region ≡ p.region
  region_unpinned None m = ap (λ (z : Parts). z.region) m.0
  region_unpinned (Some at) m = ap (λ (z : Parts). z.region) m.rest

  pub turns_unpinned : (o : Option ℕ) → MatchOption o ((q ≡ p) × none) (λ at. Unpinned at p q) → q.turns ≡ p.turns
  turns_unpinned None m = ap (λ (z : Parts). z.turns) m.0
  turns_unpinned (Some at) m = ap (λ (z : Parts). z.turns) m.rest

  pub fits_unpinned : (holds : Content) (unsure : List Bool) (o : Option ℕ) → MatchOption o ((q ≡ p) × none) (λ at. Unpinned at p q) → Fits (record p { disk = holds }) unsure → Fits (record q { disk = holds }) unsure
  fits_unpinned holds unsure None m fits = subst (λ (z : Parts). Fits (record z { disk = holds }) unsure) (sym m.0) fits
  fits_unpinned holds unsure (Some at) m fits = fits_one p q at holds unsure (unpins_of at p.held q.held (record { is = m.pinned }) m.held) (ap (λ (z : Parts). z.turns) m.rest) (ap (λ (z : Parts). z.region) m.rest) fits

-- ---- what every call keeps

pub keeps_given : {p q : Parts} {at : ℕ} {kind : Kind} {tag rank : ℕ} {bytes : List ℕ} {origin : Option ℕ} → Given at kind tag rank bytes origin p q → CacheKeeps p q
keeps_given {p} {q} {at} {kind} {tag} g = record {
  first = ap (λ (r : Region). r.first) g.region;
  count = ap (λ (r : Region). length r.labels) g.region ∙ length-set p.region.labels (at - p.region.first) (live_label kind tag p.one.high);
  high = ap (λ (z : Parts). z.one.high) g.rest;
  low = ap (λ (z : Parts). z.one.low) g.rest;
  root = ap (λ (z : Parts). z.one.active) g.rest;
  faults = let e = ap (λ (z : Parts). z.faults) g.rest in omega (arith, e);
}

pub keeps_refilled : {p q : Parts} {at : ℕ} {bytes : List ℕ} → Refilled at bytes p q → CacheKeeps p q
keeps_refilled g = record {
  first = ap (λ (z : Parts). z.region.first) g.rest;
  count = ap (λ (z : Parts). length z.region.labels) g.rest;
  high = ap (λ (z : Parts). z.one.high) g.rest;
  low = ap (λ (z : Parts). z.one.low) g.rest;
  root = ap (λ (z : Parts). z.one.active) g.rest;
  faults = let e = ap (λ (z : Parts). z.faults) g.rest in omega (arith, e);
}
