-- What the device tells fits still, where a slot was put or cleared.
use Rattle.std.proofs.Common.{◌≡◌, ◌≢◌, ⊎_elim, ℕ, ◌<◌, ◌≤◌, Bool, true, false, List, Option, Some, None, refl, sym, ap, ◌∙◌, subst, arith, [], Result, Ok, Err}
use Rattle.std.specs.List.{Contains}
use Rattle.std.specs.Result.{OnOk, OnErr}
use Rattle.fo_mind.specs.of_rooms.Grown.{GrownHeld, GrownTurns}
use Rattle.fo_mind.specs.Roomed.{Grown, Roomed}
use Rattle.std.specs.Option.{option_map_or}
use Rattle.std.proofs.lemmas.Bool.{cases_eq, cases_lt}
use Rattle.fo_disk.specs.Disk.{Content}
use Rattle.fo_buffers.specs.declared.block.Buffer.{Buffer}
use Rattle.fo_buffers.specs.Held.{Held, held_at, is_dirty}
use Rattle.fo_order.specs.Keeps.{Turns}
use Rattle.fo_order.specs.Turns.{flag_at}
use Rattle.fo_labels.specs.Region.{Region}
use Rattle.fo_crash.specs.declared.slot.Slot.{Slot}
use Rattle.fo_mind.specs.of_linking.Joined.{is_changed}
use Rattle.fo_mind.specs.Due.{ClearedDue}
use Rattle.fo_mind.specs.Laws.{held_content, held_pinned, pinned_held}
use Rattle.fo_mind.specs.Parts.{Parts, IsHeld, IsPinned, memory}
use Rattle.fo_mind.specs.Slotted.{Slotted}
use Rattle.fo_mind.specs.Sound.{Holding, Placed}
use Rattle.fo_mind.proofs.Refilling.{Refills, flags_turned, refills_of, within_facts}
use Rattle.fo_put.specs.Removed.{ClearsOrWaits, Removed}
use Rattle.fo_cache.specs.Fits.{Fits, FitsLabels}
use Rattle.fo_cache.proofs.Calling.{fits_refilled}
use Rattle.fo_cache.proofs.Clearing.{placed_recalled, recalled_is}
use Rattle.fo_cache.proofs.Labelling.{labels_kept}

-- memory of a pinned block is its buffer, whatever the device tells
pub same_pinned : (p : Parts) (first count at : ℕ) (holds : Content) (faults : ℕ) → Placed p.region p.turns p.facts first count → Holding p.one.low first count p.region p.held → IsPinned p.held at → memory (record p { disk = holds; faults = faults }) at ≡ memory p at
same_pinned p first count at holds faults placed holding pinned =
    let x = pinned_held (held_at p.held at) pinned in
    held_content (record p { disk = holds; faults = faults }) first count at x.0 placed holding x.1 ∙ sym (held_content p first count at x.0 placed holding x.1)

-- ---- the same is held, and what became of last writes stays known

module _ (p q : Parts) (holds : Content) (unsure : List Bool) (region : q.region ≡ p.region) (held : (b : ℕ) → held_at q.held b ≡ held_at p.held b) (clean : q.held.clean ≡ p.held.clean) (tried : (b : ℕ) → (flag_at q.turns b).tried ≡ (flag_at p.turns b).tried) where
  fits_like : Fits (record p { disk = holds }) unsure → Fits (record q { disk = holds }) unsure
  fits_like fits = record {
    each = λ b le inside.
        let was = fits.each b (subst (λ (r : Region). r.first ≤ b) region le) inside in
        record {
          some = was.some;
          settled = λ e. was.settled (sym (tried b) ∙ e);
          sure = λ e. was.sure (sym (tried b) ∙ e);
          held = λ x is calm. was.held x (sym (held b) ∙ is) calm;
          listed = λ bytes none c. was.listed bytes (sym (held b) ∙ none) (subst (λ (es : List (ℕ × List ℕ)). Contains es (b, bytes)) clean c);
        };
  }

-- a call that changes neither
fits_beside : (p q : Parts) (holds : Content) (unsure : List Bool) → q.region ≡ p.region → q.held ≡ p.held → q.turns ≡ p.turns → Fits (record p { disk = holds }) unsure → Fits (record q { disk = holds }) unsure
fits_beside p q holds unsure region held turns = fits_like p q holds unsure region (λ b. ap (λ (h : Held). held_at h b) held) (ap (λ (h : Held). h.clean) held) (λ b. ap (λ (t : Turns). (flag_at t b).tried) turns)

-- ---- a slot was put

module _ (p s : Parts) {first count at i cost : ℕ} {slot : Slot} (placed : Placed p.region p.turns p.facts first count) (holding : Holding p.one.low first count p.region p.held) (some : IsHeld p.held at) (z : Slotted at i cost slot p s) where
  x : Refills at z.bytes p.held z.filled.held
  x = refills_of at z.bytes p.held z.filled.held holding some z.long z.refilled.held

  pub region_slotted : s.region ≡ p.region
  region_slotted = ap (λ (y : Parts). y.region) z.follows.rest ∙ ap (λ (y : Parts). y.region) z.hangs.rest ∙ ap (λ (y : Parts). y.region) z.refilled.rest

  pub one_bytes_slotted : s.one_bytes ≡ p.one_bytes
  one_bytes_slotted = ap (λ (y : Parts). y.one_bytes) z.follows.rest ∙ ap (λ (y : Parts). y.one_bytes) z.hangs.rest ∙ ap (λ (y : Parts). y.one_bytes) z.refilled.rest

  pub doubt_slotted : s.doubt ≡ p.doubt
  doubt_slotted = ap (λ (y : Parts). y.doubt) z.follows.rest ∙ ap (λ (y : Parts). y.doubt) z.hangs.rest ∙ ap (λ (y : Parts). y.doubt) z.refilled.rest

  pub fits_slotted : (holds : Content) (unsure : List Bool) → Fits (record p { disk = holds }) unsure → Fits (record s { disk = holds }) unsure
  fits_slotted holds unsure fits =
      let w = within_facts at placed holding some in
      let one = fits_refilled p z.filled at holds unsure w.0 w.1 x z.refilled.turns (ap (λ (y : Parts). y.region) z.refilled.rest) fits in
      let two = fits_beside z.filled z.hung holds unsure (ap (λ (y : Parts). y.region) z.hangs.rest) (ap (λ (y : Parts). y.held) z.hangs.rest) (ap (λ (y : Parts). y.turns) z.hangs.rest) one in
      fits_like z.hung s holds unsure (ap (λ (y : Parts). y.region) z.follows.rest) (λ b. ap (λ (y : Parts). held_at y.held b) z.follows.rest) (ap (λ (y : Parts). y.held.clean) z.follows.rest) z.follows.joins.tried two

  some_held : (o : Option Buffer) → option_map_or is_dirty o false ≡ true → (y : Buffer) × (o ≡ Some y)
  some_held (Some y) e = (y, refl)
  some_held None e = absurd (cc)

  -- what is held is a data block
  not_before : (b : ℕ) → b < p.region.first → is_changed z.hung.held b ≡ true → ⊥
  not_before b lt changed =
      let f = placed.is_first in
      let here = (holding.block at x.was x.held).0 in
      let same : held_at z.hung.held b ≡ held_at z.filled.held b = ap (λ (y : Parts). held_at y.held b) z.hangs.rest in
      let y = some_held (held_at z.hung.held b) changed in
      ⊎_elim
      (λ e. omega (arith, e, lt, f, here))
      (λ ne. let lo = (holding.block b y.0 (sym (x.others b ne) ∙ sym same ∙ y.1)).0 in omega (arith, lo, lt, f))
      (cases_eq b at)

  flags_slotted : (b : ℕ) → b < p.region.first → flag_at s.turns b ≡ flag_at p.turns b
  flags_slotted b lt =
      let w = within_facts at placed holding some in
      let f = placed.is_first in
      let here = (holding.block at x.was x.held).0 in
      let ne : b ≢ at = λ e. omega (arith, e, lt, f, here) in
      ⊎_elim (λ same. same) (λ h. absurd (not_before b lt h.1)) (z.follows.joins.flags b)
      ∙ ap (λ (y : Parts). flag_at y.turns b) z.hangs.rest
      ∙ ap (λ (t : Turns). flag_at t b) z.refilled.turns
      ∙ flags_turned p.facts p.turns at w.0 w.1 b ne

  pub labels_slotted : (holds : Content) (unsure : List Bool) → FitsLabels (record p { disk = holds }) unsure → FitsLabels (record s { disk = holds }) unsure
  labels_slotted holds unsure fits = labels_kept p s holds unsure region_slotted flags_slotted fits

-- ---- a slot was cleared, or waits to be

-- what of the fields of a cache stays, and what the device tells fits still
pub record StaysFit (p s : Parts) : Type 0 where
  pub region : s.region ≡ p.region
  pub one_bytes : s.one_bytes ≡ p.one_bytes
  pub doubt : s.doubt ≡ p.doubt
  pub fits : (holds : Content) (unsure : List Bool) → Fits (record p { disk = holds }) unsure → Fits (record s { disk = holds }) unsure
  pub labels : (holds : Content) (unsure : List Bool) → FitsLabels (record p { disk = holds }) unsure → FitsLabels (record s { disk = holds }) unsure

fit_slotted : (p s : Parts) {first count at i cost : ℕ} {slot : Slot} → Placed p.region p.turns p.facts first count → Holding p.one.low first count p.region p.held → IsHeld p.held at → Slotted at i cost slot p s → StaysFit p s
fit_slotted p s placed holding some z = record {
  region = region_slotted p s placed holding some z;
  one_bytes = one_bytes_slotted p s placed holding some z;
  doubt = doubt_slotted p s placed holding some z;
  fits = fits_slotted p s placed holding some z;
  labels = labels_slotted p s placed holding some z;
}

pub fit_beside : (p s : Parts) → s.region ≡ p.region → s.one_bytes ≡ p.one_bytes → s.doubt ≡ p.doubt → s.held ≡ p.held → s.turns ≡ p.turns → StaysFit p s
fit_beside p s region one_bytes doubt held turns = record {
  region = region;
  one_bytes = one_bytes;
  doubt = doubt;
  fits = λ holds unsure. fits_beside p s holds unsure region held turns;
  labels = λ holds unsure. labels_kept p s holds unsure region (λ b lt. ap (λ (t : Turns). flag_at t b) turns);
}

fit_on : {p q s : Parts} → StaysFit p q → StaysFit q s → StaysFit p s
fit_on {p} {q} {s} one two = record {
  region = two.region ∙ one.region;
  one_bytes = two.one_bytes ∙ one.one_bytes;
  doubt = two.doubt ∙ one.doubt;
  fits = λ holds unsure f. two.fits holds unsure (one.fits holds unsure f);
  labels = λ holds unsure f. two.labels holds unsure (one.labels holds unsure f);
}

pub fit_cleared : (p s : Parts) {first count at i : ℕ} → Placed p.region p.turns p.facts first count → Holding p.one.low first count p.region p.held → IsHeld p.held at → Removed at i p s → StaysFit p s
fit_cleared p s {first} {count} {at} placed holding some r =
    let q = r.between in
    let is = r.ended.rest in
    fit_on
    (fit_beside p q (ap (λ (y : Parts). y.region) is) (ap (λ (y : Parts). y.one_bytes) is) (ap (λ (y : Parts). y.doubt) is) (ap (λ (y : Parts). y.held) is) (ap (λ (y : Parts). y.turns) is))
    (fit_slotted q s
    (subst (λ (y : Parts). Placed y.region y.turns y.facts first count) (sym is) placed)
    (subst (λ (y : Parts). Holding y.one.low first count y.region y.held) (sym is) holding)
    (subst (λ (y : Parts). IsHeld y.held at) (sym is) some)
    r.slotted)

pub fit_removed : (p s : Parts) {first count at i : ℕ} (o : Option ℕ) → Placed p.region p.turns p.facts first count → Holding p.one.low first count p.region p.held → IsPinned p.held at → ClearsOrWaits at i o p s → StaysFit p s
fit_removed p s {at = at} o placed holding pinned is = ⊎_elim
    (λ h. fit_cleared p s placed holding (held_pinned p.held at pinned) h.0)
    (λ h. let e = h.1.rest in fit_beside p s (ap (λ (y : Parts). y.region) e) (ap (λ (y : Parts). y.one_bytes) e) (ap (λ (y : Parts). y.doubt) e) (ap (λ (y : Parts). y.held) e) (ap (λ (y : Parts). y.turns) e))
    is

-- a slot that waited was cleared
pub fit_due : (p s : Parts) {first count at i : ℕ} → Placed p.region p.turns p.facts first count → Holding p.one.low first count p.region p.held → IsHeld p.held at → ClearedDue at i p s → StaysFit p s
fit_due p s {first} {count} {at} placed holding some z =
    let r = z.recalled in
    let is = recalled_is z in
    fit_on
    (fit_beside p r (ap (λ (y : Parts). y.region) is) (ap (λ (y : Parts). y.one_bytes) is) (ap (λ (y : Parts). y.doubt) is) (ap (λ (y : Parts). y.held) is) (ap (λ (y : Parts). y.turns) is))
    (fit_slotted r s
    (placed_recalled placed z)
    (subst (λ (y : Parts). Holding y.one.low first count y.region y.held) (sym is) holding)
    (subst (λ (y : Parts). IsHeld y.held at) (sym is) some)
    z.slotted)

-- ---- room was made

fit_grown : (p q : Parts) → GrownHeld p.held q.held → GrownTurns p.turns q.turns → q.region ≡ p.region → q.one_bytes ≡ p.one_bytes → q.doubt ≡ p.doubt → StaysFit p q
fit_grown p q held turns region one_bytes doubt = record {
  region = region;
  one_bytes = one_bytes;
  doubt = doubt;
  fits = λ holds unsure. fits_like p q holds unsure region (λ b. ap (λ (h : Held). held_at h b) held.same) (ap (λ (h : Held). h.clean) held.same) (λ b. ap (λ (t : Turns). (flag_at t b).tried) turns.same);
  labels = λ holds unsure. labels_kept p q holds unsure region (λ b lt. ap (λ (t : Turns). flag_at t b) turns.same);
}

fit_roomed_so : (p q : Parts) {blocks pins removals : ℕ} → Roomed blocks pins removals p q → StaysFit p q
fit_roomed_so p q r =
    let g = r.grown in
    fit_grown p q g.held g.turns (ap (λ (y : Parts). y.region) g.rest) (ap (λ (y : Parts). y.one_bytes) g.rest) (ap (λ (y : Parts). y.doubt) g.rest)

fit_grown_so : (p q : Parts) → Grown p q → StaysFit p q
fit_grown_so p q g = fit_grown p q g.held g.turns (ap (λ (y : Parts). y.region) g.rest) (ap (λ (y : Parts). y.one_bytes) g.rest) (ap (λ (y : Parts). y.doubt) g.rest)

pub fit_roomed : {E : Type 0} (p q : Content → ℕ → Parts) (r : Result Bool E) (usable blocks pins removals : ℕ) → (usable < blocks → (r ≡ Ok false) × ((disk : Content) (faults : ℕ) → q disk faults ≡ p disk faults))
    → (blocks ≤ usable → OnOk r ((disk : Content) (faults : ℕ) → Roomed blocks pins removals (p disk faults) (q disk faults))) → OnErr r ((disk : Content) (faults : ℕ) → Grown (p disk faults) (q disk faults)) → StaysFit (p [] 0) (q [] 0)
fit_roomed {E} p q r usable blocks pins removals few made err = ⊎_elim
    (λ lt. let is = (few lt).1 [] 0 in fit_beside (p [] 0) (q [] 0) (ap (λ (y : Parts). y.region) is) (ap (λ (y : Parts). y.one_bytes) is) (ap (λ (y : Parts). y.doubt) is) (ap (λ (y : Parts). y.held) is) (ap (λ (y : Parts). y.turns) is))
    (λ le. by r (made le) err)
    (cases_lt usable blocks)
  where
    by : (w : Result Bool E) → OnOk w ((disk : Content) (faults : ℕ) → Roomed blocks pins removals (p disk faults) (q disk faults)) → OnErr w ((disk : Content) (faults : ℕ) → Grown (p disk faults) (q disk faults)) → StaysFit (p [] 0) (q [] 0)
    by (Ok b) m e = fit_roomed_so (p [] 0) (q [] 0) (m [] 0)
    by (Err x) m e = fit_grown_so (p [] 0) (q [] 0) (e [] 0)

-- what holds over any device holds over one that tells nothing
pub ok_at : {T E : Type 0} (A : Content → ℕ → Type 0) (r : Result T E) → OnOk r ((disk : Content) (faults : ℕ) → A disk faults) → OnOk r (A [] 0)
ok_at A (Ok v) h = h [] 0
ok_at A (Err e) h = tt

pub err_at : {T E : Type 0} (A : Content → ℕ → Type 0) (r : Result T E) → OnErr r ((disk : Content) (faults : ℕ) → A disk faults) → OnErr r (A [] 0)
err_at A (Ok v) h = tt
err_at A (Err e) h = h [] 0
