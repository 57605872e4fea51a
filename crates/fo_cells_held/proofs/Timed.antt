-- Labels are timed over each step, and only live blocks are dirty.
use Rattle.std.proofs.Common.{◌≡◌, ◌≢◌, inl, inr, ⊎_elim, ℕ, suc, ◌-◌, ◌<◌, ◌≤◌, Bool, true, false, cond, not, ◌&&◌, nat_eq, List, [], map, length, drop, get_or, refl, sym, ◌∙◌, ap, subst, arith}
use Rattle.std.proofs.lemmas.Bool.{cases_eq, cases_lt}
use Rattle.std.proofs.lemmas.List.{get_or_past}
use Rattle.std.specs.Prelude.{Result, Ok, Err, is_err}
use Rattle.std.specs.List.{Contains}
use Rattle.fo_disk.specs.Disk.{Block, Versions, versions_of, latest_of, newest, Adds}
use Rattle.fo_disk.specs.Disk.{Content as Holds, Writes as DiskWrites, Syncs as DiskSyncs}
use Rattle.fo_disk.proofs.Images.{adds-other, adds-here, appends-adds, contains-drop, contains-one}
use Rattle.fo_image.specs.declared.types.Label.{Label}
use Rattle.fo_image.specs.declared.types.State.TheVariants.{Closed}
use Rattle.fo_cells.specs.Device.{Mind, wrote, after_sync}
use Rattle.fo_cells.specs.Flags.{Flags, FlagsFit, marked, after_sync_flags}
use Rattle.fo_cells.proofs.Calls.{among_map, map_among, among_push, latest_push, nat_eq_here, nat_eq_other, newest_one}
use Rattle.fo_cells.proofs.Flags.{flag_at, flag_off}
use Rattle.fo_cells_held.specs.Held.{Times, LabelsAreTimed, ChangesLabels, MayGetVersion, OnlyLiveDirty, Dirties, ClosesFlag, timed, after_sync_times}

-- when a block was written last
time_here : (at : ℕ) (t : Times) → cond (nat_eq at at && true) (suc t.now) (t.wrote at) ≡ suc t.now
time_here at t = ap (λ v. cond (v && true) (suc t.now) (t.wrote at)) (nat_eq_here at at refl)

time_other : (at b : ℕ) (ok : Bool) (t : Times) → b ≢ at → cond (nat_eq b at && ok) (suc t.now) (t.wrote b) ≡ t.wrote b
time_other at b ok t ne = ap (λ v. cond (v && ok) (suc t.now) (t.wrote b)) (nat_eq_other b at ne)

time_failed : (at b : ℕ) (t : Times) → cond (nat_eq b at && false) (suc t.now) (t.wrote b) ≡ t.wrote b
time_failed at b t = by (nat_eq b at)
  where
    by : (v : Bool) → cond (v && false) (suc t.now) (t.wrote b) ≡ t.wrote b
    by true = refl
    by false = refl

time_past : (at b : ℕ) (ok : Bool) (t : Times) → t.wrote b ≤ t.now → cond (nat_eq b at && ok) (suc t.now) (t.wrote b) ≤ suc t.now
time_past at b ok t le = by (nat_eq b at && ok)
  where
    by : (v : Bool) → cond v (suc t.now) (t.wrote b) ≤ suc t.now
    by true = omega arith
    by false = omega (arith, le)

-- A WRITE THAT LANDED: of a block of labels with all that memory has, or of another block
timed_landed : (ok is_complete : Bool) (m : Mind) (f : Flags) (t : Times) (at : ℕ) (bytes : Block) (old new : Holds) → Adds at bytes old new → at < length old → ((b : ℕ) → m.label_block b ≡ at → m.label_in b bytes ≡ m.label b) → LabelsAreTimed m f t old → LabelsAreTimed (wrote at ok is_complete m) (marked at ok is_complete f) (timed at ok t) new
timed_landed ok is_complete m f t at bytes old new w here spells h = record {
  set = λ b lt l is.
      let (x, among, e) = among_map (m.label_in b) (versions_of new (m.label_block b)) l is in
      ⊎_elim
      (λ one. ⊎_elim
      (λ was. sym e ∙ h.set b lt (m.label_in b x) (map_among (m.label_in b) (versions_of old (m.label_block b)) x (subst (λ y. Contains (versions_of old y) x) (sym one) (contains-drop w.gone (versions_of old at) x was))))
      (λ same. sym e ∙ ap (λ y. m.label_in b y) same ∙ spells b one)
      (among_push (drop w.gone (versions_of old at)) bytes x (subst (λ (vs : Versions). Contains vs x) (adds-here w here) (subst (λ y. Contains (versions_of new y) x) one among))))
      (λ ne. sym e ∙ h.set b lt (m.label_in b x) (map_among (m.label_in b) (versions_of old (m.label_block b)) x (subst (λ (vs : Versions). Contains vs x) (adds-other w (m.label_block b) ne) among)))
      (cases_eq (m.label_block b) at);
  latest = λ b is lt. ⊎_elim
      (λ one. ap (λ y. m.label_in b (latest_of (versions_of new y))) one ∙ ap (λ y. m.label_in b y) (ap latest_of (adds-here w here) ∙ latest_push (drop w.gone (versions_of old at)) bytes) ∙ spells b one)
      (λ ne. ap (λ (vs : Versions). m.label_in b (latest_of vs)) (adds-other w (m.label_block b) ne) ∙ h.latest b (flag_off at (m.label_block b) ok (f.wrote (m.label_block b)) ne is) (subst (λ n. t.changed b < n) (time_other at (m.label_block b) ok t ne) lt))
      (cases_eq (m.label_block b) at);
  past = λ b. let p = h.past b in let s = p.1 in (time_past at b ok t p.0, omega (arith, s));
}

timed_lost : (is_complete : Bool) (m : Mind) (f : Flags) (t : Times) (at : ℕ) (old : Holds) → LabelsAreTimed m f t old → LabelsAreTimed (wrote at false is_complete m) (marked at false is_complete f) (timed at false t) old
timed_lost is_complete m f t at old h = record {
  set = h.set;
  latest = λ b is lt. ⊎_elim
      (λ one. let x : false ≡ true = flag_at at (m.label_block b) false (f.wrote (m.label_block b)) one is in absurd (cc))
      (λ ne. h.latest b (flag_off at (m.label_block b) false (f.wrote (m.label_block b)) ne is) (subst (λ n. t.changed b < n) (time_failed at (m.label_block b) t) lt))
      (cases_eq (m.label_block b) at);
  past = λ b. let p = h.past b in let s = p.1 in (time_past at b false t p.0, omega (arith, s));
}

pub timed_write : {E : Type 0} (result : Result Unit E) (m : Mind) (f : Flags) (t : Times) (at : ℕ) (bytes : Block) (is_complete : Bool) (old new : Holds) → DiskWrites at bytes result old new → at < length old → ((b : ℕ) → m.label_block b ≡ at → m.label_in b bytes ≡ m.label b) → LabelsAreTimed m f t old → LabelsAreTimed (wrote at (not (is_err result)) is_complete m) (marked at (not (is_err result)) is_complete f) (timed at (not (is_err result)) t) new
timed_write (Ok x) m f t at bytes is_complete old new w here spells h = timed_landed true is_complete m f t at bytes old new w here spells h
timed_write (Err e) m f t at bytes is_complete old new w here spells h = ⊎_elim
    (λ same. subst (λ y. LabelsAreTimed (wrote at false is_complete m) (marked at false is_complete f) (timed at false t) y) (sym same) (timed_lost is_complete m f t at old h))
    (λ appends. timed_landed false is_complete m f t at bytes old new (appends-adds appends) here spells h)
    w

-- A SYNC, where the last write of what counts as written answered Ok
pub timed_sync : {E : Type 0} (result : Result Unit E) (m : Mind) (f : Flags) (t : Times) (unsure : List Bool) (old new : Holds) → DiskSyncs unsure result old new → FlagsFit m f unsure old → LabelsAreTimed m f t old → LabelsAreTimed (after_sync result m) (after_sync_flags result f) (after_sync_times result f t) new
timed_sync (Err e) m f t unsure old new same fits h = subst (λ y. LabelsAreTimed m f t y) (sym same) h
timed_sync (Ok x) m f t unsure old new y fits h = record {
  set = λ b lt l is. set_new b (f.wrote (m.label_block b)) refl lt l is;
  latest = λ b is lt. absurd (cc);
  past = λ b. let p = h.past b in (p.0, settled_past b (f.wrote b) p.0 p.1);
}
  where
    settled_past : (b : ℕ) (v : Bool) → t.wrote b ≤ t.now → t.settled b ≤ t.now → cond v (t.wrote b) (t.settled b) ≤ t.now
    settled_past b true w s = w
    settled_past b false w s = s

    fewer : (at : ℕ) (z : Block) → Contains (versions_of new at) z → Contains (versions_of old at) z
    fewer at z is = ⊎_elim
        (λ lt. by (get_or unsure at false) (subst (λ (vs : Versions). Contains vs z) (y.each at lt) is))
        (λ le. subst (λ (vs : Versions). Contains vs z) (get_or_past new at [] (omega (arith, le, y.count)) ∙ sym (get_or_past old at [] le)) is)
        (cases_lt at (length old))
      where
        by : (v : Bool) → Contains (cond v (versions_of old at) (newest (versions_of old at))) z → Contains (versions_of old at) z
        by true k = k
        by false k = contains-drop (length (versions_of old at) - 1) (versions_of old at) z k

    -- what was written has its last version alone
    only : (at : ℕ) (z : Block) → f.wrote at ≡ true → Contains (versions_of new at) z → z ≡ latest_of (versions_of old at)
    only at z is among = ⊎_elim
        (λ lt. contains-one (latest_of (versions_of old at)) z (subst (λ (vs : Versions). Contains vs z) (y.each at lt ∙ ap (λ v. cond v (versions_of old at) (newest (versions_of old at))) (fits.sure at is) ∙ newest_one (versions_of old at) (fits.some at lt)) among))
        (λ le. absurd (none (subst (λ (vs : Versions). Contains vs z) (get_or_past new at [] (omega (arith, le, y.count))) among)))
        (cases_lt at (length old))
      where
        none : Contains [] z → ⊥
        none (k, lt, e) = omega (arith, lt)

    set_new : (b : ℕ) (v : Bool) → f.wrote (m.label_block b) ≡ v → t.changed b < cond (f.wrote (m.label_block b)) (t.wrote (m.label_block b)) (t.settled (m.label_block b)) → (l : Label) → Contains (map (m.label_in b) (versions_of new (m.label_block b))) l → l ≡ m.label b
    set_new b true is lt l among =
        let (z, in_z, e) = among_map (m.label_in b) (versions_of new (m.label_block b)) l among in
        sym e ∙ ap (λ k. m.label_in b k) (only (m.label_block b) z is in_z) ∙ h.latest b is (subst (λ v. t.changed b < cond v (t.wrote (m.label_block b)) (t.settled (m.label_block b))) is lt)
    set_new b false is lt l among =
        let (z, in_z, e) = among_map (m.label_in b) (versions_of new (m.label_block b)) l among in
        sym e ∙ h.set b (subst (λ v. t.changed b < cond v (t.wrote (m.label_block b)) (t.settled (m.label_block b))) is lt) (m.label_in b z) (map_among (m.label_in b) (versions_of old (m.label_block b)) z (fewer (m.label_block b) z in_z))

-- LABELS OF MEMORY CHANGE
pub timed_change : {m n : Mind} {f g : Flags} {t u : Times} {holds : Holds} → ChangesLabels m n t u → ((b : ℕ) → g.wrote b ≡ f.wrote b) → LabelsAreTimed m f t holds → LabelsAreTimed n g u holds
timed_change {m} {n} {f} {g} {t} {u} {holds} c wrote_same h = record {
  set = λ b lt l is.
      let block : n.label_block b ≡ m.label_block b = ap (λ (k : ℕ → ℕ). k b) c.label_block in
      let was : Contains (map (m.label_in b) (versions_of holds (m.label_block b))) l = subst (λ (k : ℕ → Block → Label). Contains (map (k b) (versions_of holds (m.label_block b))) l) c.label_in (subst (λ y. Contains (map (n.label_in b) (versions_of holds y)) l) block is) in
      let settled_is : u.settled (n.label_block b) ≡ t.settled (m.label_block b) = ap (λ (k : ℕ → ℕ). k (n.label_block b)) c.settled ∙ ap (λ y. t.settled y) block in
      ⊎_elim
      (λ same. h.set b (subst (λ v. v < t.settled (m.label_block b)) same.1 (subst (λ v. u.changed b < v) settled_is lt)) l was ∙ sym same.0)
      (λ now. let past = (h.past (m.label_block b)).1 in let e = now in let lt' = subst (λ v. u.changed b < v) settled_is lt in absurd (omega (arith, past, e, lt')))
      (c.each b);
  latest = λ b is lt.
      let block : n.label_block b ≡ m.label_block b = ap (λ (k : ℕ → ℕ). k b) c.label_block in
      let wrote_is : u.wrote (n.label_block b) ≡ t.wrote (m.label_block b) = ap (λ (k : ℕ → ℕ). k (n.label_block b)) c.wrote ∙ ap (λ y. t.wrote y) block in
      let was : f.wrote (m.label_block b) ≡ true = ap (λ y. f.wrote y) (sym block) ∙ sym (wrote_same (n.label_block b)) ∙ is in
      ⊎_elim
      (λ same. ap (λ (k : ℕ → Block → Label). k b (latest_of (versions_of holds (n.label_block b)))) c.label_in ∙ ap (λ y. m.label_in b (latest_of (versions_of holds y))) block ∙ h.latest b was (subst (λ v. v < t.wrote (m.label_block b)) same.1 (subst (λ v. u.changed b < v) wrote_is lt)) ∙ sym same.0)
      (λ now. let past = (h.past (m.label_block b)).0 in let e = now in let lt' = subst (λ v. u.changed b < v) wrote_is lt in absurd (omega (arith, past, e, lt')))
      (c.each b);
  past = λ b. let p = h.past b in (subst (λ v. v ≤ u.now) (ap (λ (k : ℕ → ℕ). k b) (sym c.wrote)) (subst (λ v. t.wrote b ≤ v) (sym c.now) p.0), subst (λ v. v ≤ u.now) (ap (λ (k : ℕ → ℕ). k b) (sym c.settled)) (subst (λ v. t.settled b ≤ v) (sym c.now) p.1));
}

-- ONLY LIVE BLOCKS ARE DIRTY
-- a write of a dirty block; one that is closed is written with all that memory has
pub dirty_write : (ok is_complete : Bool) (at high : ℕ) (m : Mind) (f : Flags) (is_data : ℕ → Bool) → f.dirty at ≡ true → ((m.label at).state ≡ Closed → is_complete ≡ true) → OnlyLiveDirty m f is_data high → OnlyLiveDirty (wrote at ok is_complete m) (marked at ok is_complete f) is_data high
dirty_write ok is_complete at high m f is_data on whole h = record {
  dirty = λ b is d. ⊎_elim
      (λ e.
      let was = h.dirty at (subst (λ y. is_data y ≡ true) e is) on in
      let still = flag_at at b (not (ok && is_complete)) (f.dirty b) e d in
      subst (λ y. MayGetVersion (wrote at ok is_complete m) (marked at ok is_complete f) high y) (sym e) (record {
        epoch = was.epoch;
        state = ⊎_elim
            (λ live. inl live)
            (λ closed. inr (closed.0, closed.1, failed_here (ok_failed ok is_complete (whole closed.0) still)))
            was.state;
      }))
      (λ ne.
      let was = h.dirty b is (flag_off at b (not (ok && is_complete)) (f.dirty b) ne d) in record {
        epoch = was.epoch;
        state = ⊎_elim
            (λ live. inl live)
            (λ closed. inr (closed.0, closed.1, ap (λ k. cond k (not ok) (f.failed b)) (nat_eq_other b at ne) ∙ closed.2))
            was.state;
      })
      (cases_eq b at);
}
  where
    ok_failed : (x y : Bool) → y ≡ true → not (x && y) ≡ true → not x ≡ true
    ok_failed true true e d = d
    ok_failed true false e d = absurd (cc)
    ok_failed false y e d = refl

    failed_here : not ok ≡ true → cond (nat_eq at at) (not ok) (f.failed at) ≡ true
    failed_here e = ap (λ k. cond k (not ok) (f.failed at)) (nat_eq_here at at refl) ∙ e

pub dirty_sync : {E : Type 0} (result : Result Unit E) (high : ℕ) (m : Mind) (f : Flags) (is_data : ℕ → Bool) → OnlyLiveDirty m f is_data high → OnlyLiveDirty (after_sync result m) (after_sync_flags result f) is_data high
dirty_sync (Err e) high m f is_data h = h
dirty_sync (Ok x) high m f is_data h = record { dirty = λ b is d. let was = h.dirty b is d in record { epoch = was.epoch; state = was.state } }

pub dirty_change : {m n : Mind} {f g : Flags} {is_data : ℕ → Bool} {high : ℕ} → Dirties m n f g is_data high → OnlyLiveDirty m f is_data high → OnlyLiveDirty n g is_data high
dirty_change {m} {n} {f} {g} {is_data} {high} c h = record {
  dirty = λ b is d. ⊎_elim
      (λ was.
      let x = h.dirty b is was.0 in record {
        epoch = subst (λ (l : Label). high ≤ l.epoch) (sym was.1) x.epoch;
        state = ⊎_elim
            (λ live. inl (ap (λ (l : Label). l.state) was.1 ∙ live))
            (λ closed. inr (ap (λ (l : Label). l.state) was.1 ∙ closed.0, ap (λ (l : Label). l.closing) was.1 ∙ closed.1 ∙ ap (λ (l : Label). l.epoch) (sym was.1), was.2 ∙ closed.2))
            x.state;
      })
      (λ new. record { epoch = new.0; state = inl new.1 })
      (c.each b is d);
}

pub dirty_close : {at epoch : ℕ} {m n : Mind} {f g : Flags} {is_data : ℕ → Bool} {high : ℕ} → ClosesFlag at epoch m n f g → epoch ≤ high → OnlyLiveDirty m f is_data high → OnlyLiveDirty n g is_data high
dirty_close {at} {epoch} {m} {n} {f} {g} {is_data} {high} c le h = record {
  dirty = λ b is d. ⊎_elim
      (λ e.
      let x = h.dirty at (subst (λ y. is_data y ≡ true) e is) (c.dirty at (subst (λ y. g.dirty y ≡ true) e d)) in
      let up = x.epoch in
      let begun = c.begun in
      subst (λ y. MayGetVersion n g high y) (sym e) (record {
        epoch = subst (λ (l : Label). high ≤ l.epoch) (sym c.label) up;
        state = inr (
          ap (λ (l : Label). l.state) c.label,
          ap (λ (l : Label). l.closing) c.label ∙ same_epoch up begun ∙ ap (λ (l : Label). l.epoch) (sym c.label),
          c.failed at ∙ c.dirty_here (subst (λ y. g.dirty y ≡ true) e d),
        );
      }))
      (λ ne.
      let x = h.dirty b is (c.dirty b d) in
      let same = c.others b ne in record {
        epoch = subst (λ (l : Label). high ≤ l.epoch) (sym same) x.epoch;
        state = ⊎_elim
            (λ live. inl (ap (λ (l : Label). l.state) same ∙ live))
            (λ closed. inr (ap (λ (l : Label). l.state) same ∙ closed.0, ap (λ (l : Label). l.closing) same ∙ closed.1 ∙ ap (λ (l : Label). l.epoch) (sym same), c.failed b ∙ closed.2))
            x.state;
      })
      (cases_eq b at);
}
  where
    same_epoch : high ≤ (m.label at).epoch → (m.label at).epoch ≤ epoch → epoch ≡ (m.label at).epoch
    same_epoch up begun = let down = le in omega (arith, up, begun, down)
