-- What ties blocks of labels to the device is kept.
use Rattle.std.proofs.Common.{◌≡◌, ◌≢◌, ⊎_elim, ℕ, ◌-◌, ◌<◌, ◌≤◌, ◌&&◌, Bool, true, false, cond, nat_eq, nat_lt, List, length, drop, get_or, set, Result, Ok, Err, refl, sym, ap, ◌∙◌, subst, arith, get_or-set_same, get_or-set_other}
use Rattle.std.specs.Result.{OnOk, OnErr}
use Rattle.std.proofs.lemmas.Bool.{and_parts, cases_eq, cases_lt, lt-ltb}
use Rattle.std.proofs.lemmas.List.{length_push}
use Rattle.fo_disk.specs.Disk.{Content, DiskState, IsSync, IsWrite, Versions, latest_of, newest, versions_of}
use Rattle.fo_disk.specs.Disk.{Settles as Leaves}
use Rattle.fo_disk.specs.declared.disk.Failed.{Failed}
use Rattle.fo_disk.proofs.Images.{adds-count, adds-here, adds-other, appends-adds, newest-one, sure as no_flag}
use Rattle.fo_image.specs.declared.types.Label.{Label}
use Rattle.fo_image.specs.Format.{SpellsLabel}
use Rattle.fo_image.specs.Place.{label_block, label_byte}
use Rattle.fo_image.specs.Usable.{free_label}
use Rattle.fo_order.specs.declared.marks.Flags.{Flags}
use Rattle.fo_order.specs.declared.marks.Tried.{Tried}
use Rattle.fo_order.specs.declared.marks.Tried.TheVariants.{Settled, Written, Failed as Lost}
use Rattle.fo_order.specs.Flags.{flags_of, quiet, settled_tried}
use Rattle.fo_order.specs.Keeps.{Turns}
use Rattle.fo_order.specs.Turns.{changed, flag_at}
use Rattle.fo_labels.specs.Region.{IsDataBlock, Region, label_of, relabeled}
use Rattle.fo_labels.specs.Spelled.{SpellsLabels, label_at, part_at}
use Rattle.fo_buffers.specs.Held.{held_at}
use Rattle.fo_facts.specs.Known.{fact_at}
use Rattle.fo_mind.specs.Parts.{Parts}
use Rattle.fo_facts.specs.declared.fact.Fact.{Fact}
use Rattle.fo_mind.specs.Sound.{Placed}
use Rattle.fo_mind.specs.Turning.{Landed, Missed, Synced}
use Rattle.fo_mind.proofs.Giving.{change_other}
use Rattle.fo_mind.proofs.Turning.{landed_here, landed_other, missed_here, missed_other, settles_of}
use Rattle.fo_cache.specs.Fits.{Fits, FitsLabels, LabelsFitAt}
use Rattle.fo_cache.proofs.Calling.{tried_changed}
use Rattle.fo_cache.proofs.Fitting.{fits_same, latest_push, newest_alone}

not_settled : {A : Type 0} → Written ≡ Settled → A
not_settled e = cc

lost_settled : {A : Type 0} → Lost ≡ Settled → A
lost_settled e = cc

lost_written : {A : Type 0} → Lost ≡ Written → A
lost_written e = cc

settled_written : {A : Type 0} → Settled ≡ Written → A
settled_written e = cc

never : {A : Type 0} → true ≡ false → A
never e = cc

-- equal values
pub labels_same : {b : ℕ} (region : Region) {vs ws : Versions} {f g : Flags} {u v : Bool} → ws ≡ vs → g ≡ f → v ≡ u → LabelsFitAt region b vs f u → LabelsFitAt region b ws g v
labels_same {b} region {vs} {ws} {f} {g} {u} {v} e1 e2 e3 h =
    subst (λ (x : Versions). LabelsFitAt region b x g v) (sym e1)
    (subst (λ (x : Flags). LabelsFitAt region b vs x v) (sym e2)
    (subst (λ (x : Bool). LabelsFitAt region b vs f x) (sym e3) h))

-- ---- what a write leaves of other blocks

module _ {at : ℕ} {bytes : List ℕ} {s t : DiskState} where
  pub count_kept : (r : Result Unit Failed) → IsWrite at bytes r s t → length t.holds ≡ length s.holds
  count_kept (Ok u) w = adds-count w.holds
  count_kept (Err e) w = ⊎_elim (λ same. ap length same) (λ a. adds-count (appends-adds a)) w.holds

  pub versions_kept : (r : Result Unit Failed) → IsWrite at bytes r s t → (b : ℕ) → b ≢ at → versions_of t.holds b ≡ versions_of s.holds b
  versions_kept (Ok u) w b ne = adds-other w.holds b ne
  versions_kept (Err e) w b ne = ⊎_elim (λ same. ap (λ (c : Content). versions_of c b) same) (λ a. adds-other (appends-adds a) b ne) w.holds

  pub unsure_kept : (r : Result Unit Failed) → IsWrite at bytes r s t → (b : ℕ) → b ≢ at → get_or t.unsure b false ≡ get_or s.unsure b false
  unsure_kept (Ok u) w b ne = ap (λ (us : List Bool). get_or us b false) w.unsure ∙ get_or-set_other s.unsure at b false false ne
  unsure_kept (Err e) w b ne = ap (λ (us : List Bool). get_or us b false) w.unsure ∙ get_or-set_other s.unsure at b true false ne

-- ---- a write was answered

pub flags_answered : (p q : Parts) (at : ℕ) → at < length p.turns.flags → (r : Result Unit Failed) → OnOk r (Landed at p q) → OnErr r (Missed at p q) → (b : ℕ) → b ≢ at → flag_at q.turns b ≡ flag_at p.turns b
flags_answered p q at within (Ok u) l m b ne = ap (λ (x : Turns). flag_at x b) l.turns ∙ landed_other p.turns at within b ne
flags_answered p q at within (Err e) l m b ne = ap (λ (x : Turns). flag_at x b) m.turns ∙ missed_other p.turns at within b ne

-- a block of labels, as a device has it
abbrev LabelsOf : Region → Turns → DiskState → ℕ → Type 0
LabelsOf region turns s b = LabelsFitAt region b (versions_of s.holds b) (flag_at turns b) (get_or s.unsure b false)

module _ (p q : Parts) (at : ℕ) {bytes : List ℕ} {s t : DiskState} (within : at < length p.turns.flags) (region : q.region ≡ p.region) where
  landed_labels : {u : Unit} → IsWrite {E = Failed} at bytes (Ok u) s t → Landed at p q → at < length s.holds → SpellsLabels p.region at bytes → LabelsOf p.region q.turns t at
  landed_labels w l lt spelled =
      let now = adds-here w.holds lt in
      let flags = ap (λ (x : Turns). flag_at x at) l.turns ∙ landed_here p.turns at within in
      record {
        some = subst (λ (vs : Versions). 0 < length vs) (sym now) (let n = length_push (drop w.holds.gone (versions_of s.holds at)) bytes in omega (arith, n));
        settled = λ e. not_settled (sym (ap (λ (f : Flags). f.tried) flags) ∙ e);
        sure = λ e. no_flag s.unsure t.unsure at w.unsure;
        spelled = λ e. subst (SpellsLabels p.region at) (sym (ap latest_of now ∙ latest_push (drop w.holds.gone (versions_of s.holds at)) bytes)) spelled;
      }

  missed_labels : (e : Failed) → IsWrite {E = Failed} at bytes (Err e) s t → Missed at p q → at < length s.holds → LabelsOf p.region p.turns s at → LabelsOf p.region q.turns t at
  missed_labels e w m lt was =
      let flags = ap (λ (x : Turns). flag_at x at) m.turns ∙ missed_here p.turns at within in
      record {
        some = ⊎_elim
            (λ same. subst (λ (c : Content). 0 < length (versions_of c at)) (sym same) was.some)
            (λ a. subst (λ (vs : Versions). 0 < length vs) (sym (adds-here (appends-adds a) lt)) (let n = length_push (drop (appends-adds a).gone (versions_of s.holds at)) bytes in omega (arith, n)))
            w.holds;
        settled = λ e. lost_settled (sym (ap (λ (f : Flags). f.tried) flags) ∙ e);
        sure = λ e. lost_written (sym (ap (λ (f : Flags). f.tried) flags) ∙ e);
        spelled = λ e. never (sym (ap (λ (f : Flags). f.dirty) flags) ∙ e);
      }

  here : (r : Result Unit Failed) → IsWrite at bytes r s t → OnOk r (Landed at p q) → OnErr r (Missed at p q) → at < length s.holds → SpellsLabels p.region at bytes → LabelsOf p.region p.turns s at → LabelsOf p.region q.turns t at
  here (Ok u) w l m lt spelled was = landed_labels w l lt spelled
  here (Err e) w l m lt spelled was = missed_labels e w m lt was

  pub labels_answered : (r : Result Unit Failed) → IsWrite at bytes r s t → OnOk r (Landed at p q) → OnErr r (Missed at p q) → (at < p.region.first → SpellsLabels p.region at bytes) → FitsLabels (record p { disk = s.holds }) s.unsure → FitsLabels (record q { disk = t.holds }) t.unsure
  labels_answered r w l m spelled fits = record {
    each = λ b two before lt.
        let lt_old : b < length s.holds = let n = count_kept r w in omega (arith, n, lt) in
        let before_old : b < p.region.first = subst (λ (x : Region). b < x.first) region before in
        let was = fits.each b two before_old lt_old in
        subst (λ (x : Region). LabelsFitAt x b (versions_of t.holds b) (flag_at q.turns b) (get_or t.unsure b false)) (sym region)
        (⊎_elim
        (λ e. subst (LabelsOf p.region q.turns t) (sym e) (here r w l m (subst (λ n. n < length s.holds) e lt_old) (spelled (subst (λ n. n < p.region.first) e before_old)) (subst (LabelsOf p.region p.turns s) e was)))
        (λ ne. labels_same p.region (versions_kept r w b ne) (flags_answered p q at within r l m b ne) (unsure_kept r w b ne) was)
        (cases_eq b at));
  }

-- ---- a sync was answered

module _ (p q : Parts) {s t : DiskState} where
  synced_labels : {u : Unit} → IsSync {E = Failed} (Ok u) s t → Synced p q → FitsLabels (record p { disk = s.holds }) s.unsure → FitsLabels (record q { disk = t.holds }) t.unsure
  synced_labels y c fits = record {
    each = λ b two before lt.
        let inside : b < length s.holds = let n = leaves.count in omega (arith, n, lt) in
        subst (λ (x : Region). LabelsFitAt x b (versions_of t.holds b) (flag_at q.turns b) (get_or t.unsure b false)) (sym region)
        (one b inside (fits.each b two (subst (λ (x : Region). b < x.first) region before) inside));
  }
    where
      leaves : Leaves s.unsure s.holds t.holds
      leaves = y.holds

      region : q.region ≡ p.region
      region = ap (λ (x : Parts). x.region) c.rest

      latest : (b : ℕ) (u : Bool) → 0 < length (versions_of s.holds b) → latest_of (cond u (versions_of s.holds b) (newest (versions_of s.holds b))) ≡ latest_of (versions_of s.holds b)
      latest b true some = refl
      latest b false some = ap latest_of (newest_alone (versions_of s.holds b) some)

      still : (b : ℕ) (u : Bool) → 0 < length (versions_of s.holds b) → 0 < length (cond u (versions_of s.holds b) (newest (versions_of s.holds b)))
      still b true some = some
      still b false some = subst (λ (vs : Versions). 0 < length vs) (sym (newest_alone (versions_of s.holds b) some)) (omega arith)

      alone : (b : ℕ) (x : Tried) → LabelsFitAt p.region b (versions_of s.holds b) (flag_at p.turns b) (get_or s.unsure b false) → (flag_at p.turns b).tried ≡ x → settled_tried x ≡ Settled
          → (u : Bool) → get_or s.unsure b false ≡ u → length (cond u (versions_of s.holds b) (newest (versions_of s.holds b))) ≡ 1
      alone b Settled was is e true flag = was.settled is
      alone b Settled was is e false flag = ap length (newest-one (versions_of s.holds b) (was.settled is)) ∙ was.settled is
      alone b Written was is e true flag = never (sym flag ∙ was.sure is)
      alone b Written was is e false flag = ap length (newest_alone (versions_of s.holds b) was.some)
      alone b Lost was is e u flag = lost_settled e

      unwritten : (x : Tried) → settled_tried x ≡ Written → ⊥
      unwritten Settled e = settled_written e
      unwritten Written e = settled_written e
      unwritten Lost e = lost_written e

      one : (b : ℕ) → b < length s.holds → LabelsFitAt p.region b (versions_of s.holds b) (flag_at p.turns b) (get_or s.unsure b false) → LabelsFitAt p.region b (versions_of t.holds b) (flag_at q.turns b) (get_or t.unsure b false)
      one b lt was =
          let now = leaves.each b lt in
          let tried = ap (λ (f : Flags). f.tried) (c.turns.each b) in
          record {
            some = subst (λ (vs : Versions). 0 < length vs) (sym now) (still b (get_or s.unsure b false) was.some);
            settled = λ e. ap length now ∙ alone b (flag_at p.turns b).tried was refl (sym tried ∙ e) (get_or s.unsure b false) refl;
            sure = λ e. absurd (unwritten (flag_at p.turns b).tried (sym tried ∙ e));
            spelled = λ e. subst (SpellsLabels p.region b) (sym (ap latest_of now ∙ latest b (get_or s.unsure b false) was.some)) (was.spelled (sym (ap (λ (f : Flags). f.dirty) (c.turns.each b)) ∙ e));
          }

  pub labels_settled : (r : Result Unit Failed) → IsSync r s t → OnOk r (Synced p q) → OnErr r (q ≡ p) → FitsLabels (record p { disk = s.holds }) s.unsure → FitsLabels (record q { disk = t.holds }) t.unsure
  labels_settled (Ok u) y c n fits = synced_labels y c fits
  labels_settled (Err e) y c n fits =
      subst (λ (z : Parts). FitsLabels (record z { disk = t.holds }) t.unsure) (sym n)
      (subst (λ (h : Content). FitsLabels (record p { disk = h }) t.unsure) (sym y.holds)
      (subst (λ (us : List Bool). FitsLabels (record p { disk = s.holds }) us) (sym y.unsure) fits))

-- ---- calls that don't write

module _ (p q : Parts) (holds : Content) (unsure : List Bool) where
  -- blocks of labels have the flags that they had
  pub labels_kept : q.region ≡ p.region → ((b : ℕ) → b < p.region.first → flag_at q.turns b ≡ flag_at p.turns b) → FitsLabels (record p { disk = holds }) unsure → FitsLabels (record q { disk = holds }) unsure
  labels_kept region flags fits = record {
    each = λ b two before lt.
        let old : b < p.region.first = subst (λ (x : Region). b < x.first) region before in
        subst (λ (x : Region). LabelsFitAt x b (versions_of holds b) (flag_at q.turns b) (get_or unsure b false)) (sym region)
        (labels_same p.region refl (flags b old) refl (fits.each b two old lt));
  }

-- labels but one are spelled as they were
respelled : (r : Region) (at b : ℕ) (l : Label) (bytes : List ℕ) → IsDataBlock r at → b ≢ label_block at → SpellsLabels r b bytes → SpellsLabels (relabeled r at l) b bytes
respelled r at b l bytes is ne s = record {
  long = s.long;
  each = λ address here. subst (λ (z : Label). SpellsLabel z (part_at (label_byte address) bytes)) (sym (other address (λ e. ne (sym here ∙ ap label_block e)))) (s.each address here);
  rest = s.rest;
}
  where
    other : (a : ℕ) → a ≢ at → label_at (relabeled r at l) a ≡ label_at r a
    other a far = ⊎_elim
        (λ lt. ap (λ t. cond t free_label (label_of (relabeled r at l) a)) (lt-ltb a r.first lt) ∙ sym (ap (λ t. cond t free_label (label_of r a)) (lt-ltb a r.first lt)))
        (λ le. ap (cond (nat_lt a r.first) free_label) (get_or-set_other r.labels (at - r.first) (a - r.first) l free_label (λ e. far (let lo = is.from in omega (arith, e, lo, le)))))
        (cases_lt a r.first)

module _ (p q : Parts) (at : ℕ) (l : Label) (holds : Content) (unsure : List Bool) (region : q.region ≡ relabeled p.region at l) (turns : q.turns ≡ changed p.turns (label_block at) 0) (within : label_block at < length p.turns.flags) (is : IsDataBlock p.region at)
    (dirty : (flag_at (changed p.turns (label_block at) 0) (label_block at)).dirty ≡ true) where
  abbrev Now : ℕ → Type 0
  Now b = LabelsFitAt (relabeled p.region at l) b (versions_of holds b) (flag_at q.turns b) (get_or unsure b false)

  abbrev Then : ℕ → Type 0
  Then b = LabelsFitAt p.region b (versions_of holds b) (flag_at p.turns b) (get_or unsure b false)

  pub labels_given : FitsLabels (record p { disk = holds }) unsure → FitsLabels (record q { disk = holds }) unsure
  labels_given fits = record {
    each = λ b two before lt.
        let old : b < p.region.first = subst (λ (x : Region). b < x.first) region before in
        let was = fits.each b two old lt in
        subst (λ (x : Region). LabelsFitAt x b (versions_of holds b) (flag_at q.turns b) (get_or unsure b false)) (sym region)
        (⊎_elim (λ e. place b e was) (λ ne. other b ne was) (cases_eq b (label_block at)));
  }
    where
      tried : (b : ℕ) → b ≡ label_block at → (flag_at q.turns b).tried ≡ (flag_at p.turns b).tried
      tried b e = ap (λ (t : Turns). (flag_at t b).tried) turns ∙ subst (λ n. (flag_at (changed p.turns (label_block at) 0) n).tried ≡ (flag_at p.turns n).tried) (sym e) (tried_changed p.turns (label_block at) 0 within)

      place : (b : ℕ) → b ≡ label_block at → Then b → Now b
      place b e was = record {
        some = was.some;
        settled = λ h. was.settled (sym (tried b e) ∙ h);
        sure = λ h. was.sure (sym (tried b e) ∙ h);
        spelled = λ h. never (sym (ap (λ (t : Turns). (flag_at t b).dirty) turns ∙ subst (λ n. (flag_at (changed p.turns (label_block at) 0) n).dirty ≡ true) (sym e) dirty) ∙ h);
      }

      other : (b : ℕ) → b ≢ label_block at → Then b → Now b
      other b ne was =
          let same = ap (λ (t : Turns). flag_at t b) turns ∙ change_other p.turns (label_block at) 0 b ne in
          record {
            some = was.some;
            settled = λ h. was.settled (sym (ap (λ (f : Flags). f.tried) same) ∙ h);
            sure = λ h. was.sure (sym (ap (λ (f : Flags). f.tried) same) ∙ h);
            spelled = λ h. respelled p.region at b l (latest_of (versions_of holds b)) is ne (was.spelled (sym (ap (λ (f : Flags). f.dirty) same) ∙ h));
          }

pub dirty_changed : (t : Turns) (at : ℕ) → at < length t.flags → (flag_at (changed t at 0) at).dirty ≡ true
dirty_changed t at within = by ((flag_at t at).dirty && nat_eq (flag_at t at).rank 0) refl
  where
    by : (b : Bool) → ((flag_at t at).dirty && nat_eq (flag_at t at).rank 0) ≡ b → (flag_at (cond b t (record t { flags = set t.flags at (flags_of true (flag_at t at).tried 0); room = t.room - 1 })) at).dirty ≡ true
    by true e = (and_parts (flag_at t at).dirty (nat_eq (flag_at t at).rank 0) e).0
    by false e = ap (λ (f : Flags). f.dirty) (get_or-set_same t.flags at (flags_of true (flag_at t at).tried 0) quiet within)

-- the block of a label is one of the order
pub label_within : {region : Region} {t : Turns} {facts : List Fact} {first count at : ℕ} → Placed region t facts first count → IsDataBlock region at → label_block at < length t.flags
label_within {region} {at = at} placed block =
    let p = placed.is_place in
    let f = placed.is_first in
    let n = placed.is_count in
    let m = placed.flag_count in
    let lo = block.from in
    let hi = block.to in
    omega (arith, p, f, n, m, lo, hi)

-- ---- data blocks, where one of labels was written

held_answered : (p q : Parts) (at b : ℕ) → b ≢ at → (r : Result Unit Failed) → OnOk r (Landed at p q) → OnErr r (Missed at p q) → held_at q.held b ≡ held_at p.held b
held_answered p q at b ne (Ok u) l m = (settles_of at (fact_at p.facts at).linked p.held q.held l.held).others b ne
held_answered p q at b ne (Err e) l m = ap (λ (x : Parts). held_at x.held b) m.rest

clean_answered : (p q : Parts) (at : ℕ) (r : Result Unit Failed) → OnOk r (Landed at p q) → OnErr r (Missed at p q) → q.held.clean ≡ p.held.clean
clean_answered p q at (Ok u) l m = (settles_of at (fact_at p.facts at).linked p.held q.held l.held).clean
clean_answered p q at (Err e) l m = ap (λ (x : Parts). x.held.clean) m.rest

region_is : (p q : Parts) (at : ℕ) (r : Result Unit Failed) → OnOk r (Landed at p q) → OnErr r (Missed at p q) → q.region ≡ p.region
region_is p q at (Ok u) l m = ap (λ (x : Parts). x.region) l.rest
region_is p q at (Err e) l m = ap (λ (x : Parts). x.region) m.rest

pub fits_elsewhere : (p q : Parts) (at : ℕ) {bytes : List ℕ} {s t : DiskState} → at < length p.turns.flags → at < p.region.first → (r : Result Unit Failed) → IsWrite at bytes r s t → OnOk r (Landed at p q) → OnErr r (Missed at p q) → Fits (record p { disk = s.holds }) s.unsure → Fits (record q { disk = t.holds }) t.unsure
fits_elsewhere p q at {bytes} {s} {t} within before r w l m fits = record {
  each = λ b le lt.
      let old : p.region.first ≤ b = subst (λ (x : Region). x.first ≤ b) (region_is p q at r l m) le in
      let inside : b < length s.holds = let n = count_kept r w in omega (arith, n, lt) in
      let ne : b ≢ at = λ e. absurd (omega (arith, e, old, before)) in
      fits_same (versions_kept r w b ne) (flags_answered p q at within r l m b ne) (held_answered p q at b ne r l m) (clean_answered p q at r l m) (unsure_kept r w b ne) (fits.each b old inside);
}
