-- Flags say what they should over each write and each sync, whatever the device answers; and where there is none, memory is settled.
use Rattle.std.proofs.Common.{◌≡◌, ◌≢◌, ⊎_elim, ℕ, zero, suc, ◌<◌, Bool, true, false, cond, not, ◌&&◌, nat_eq, List, [], ◌∷◌, length, drop, get_or, set, length-set, get_or-set_other, refl, sym, ◌∙◌, ap, subst, arith}
use Rattle.std.proofs.lemmas.Bool.{cases_eq, cases_lt}
use Rattle.std.proofs.lemmas.List.{length_push, get_or_past}
use Rattle.std.specs.Prelude.{Result, Ok, Err, is_err}
use Rattle.std.specs.List.{Contains}
use Rattle.fo_disk.specs.Disk.{Block, Versions, versions_of, latest_of, newest, Adds}
use Rattle.fo_disk.specs.Disk.{Content as Holds, Writes as DiskWrites, Syncs as DiskSyncs}
use Rattle.fo_disk.proofs.Images.{adds-other, adds-here, appends-adds}
use Rattle.fo_crash.specs.Images.{Content}
use Rattle.fo_crash.specs.Steps.{AllAre}
use Rattle.fo_crash.proofs.Sure.{same_if}
use Rattle.fo_cells.specs.Known.{IsClear, Remains}
use Rattle.fo_cells.specs.Device.{Mind, known, wrote, after_sync}
use Rattle.fo_cells.specs.Flags.{Flags, FlagsFit, IsUnmarked, marked, after_sync_flags}
use Rattle.fo_cells.specs.Safe.{IsSet}
use Rattle.fo_cells.proofs.Standing.{seen_is}
use Rattle.fo_cells.proofs.Settling.{quiet_all}
use Rattle.fo_cells.proofs.Calls.{among_map, latest_push, nat_eq_here, nat_eq_other, flag_here, newest_one}

-- the two parts of a test
pub both_right : (a b : Bool) → (a && b) ≡ true → b ≡ true
both_right true b e = e
both_right false b e = absurd (cc)

pub turn : (b : Bool) → not b ≡ false → b ≡ true
turn true e = refl
turn false e = absurd (cc)

none_of : (b : Bool) → b ≡ false → not b ≡ false → ⊥
none_of true e f = absurd (cc)
none_of false e f = absurd (cc)

-- a flag of this block, and of another
pub flag_at : (at b : ℕ) (x y : Bool) {v : Bool} → b ≡ at → cond (nat_eq b at) x y ≡ v → x ≡ v
flag_at at b x y e h = ap (λ k. cond k x y) (sym (nat_eq_here b at e)) ∙ h

pub flag_off : (at b : ℕ) (x y : Bool) {v : Bool} → b ≢ at → cond (nat_eq b at) x y ≡ v → y ≡ v
flag_off at b x y ne h = ap (λ k. cond k x y) (sym (nat_eq_other b at ne)) ∙ h

sure_after : (ok : Bool) (at : ℕ) (f : Flags) (unsure : List Bool) → ((b : ℕ) → f.wrote b ≡ true → get_or unsure b false ≡ false) → (b : ℕ) → cond (nat_eq b at) ok (f.wrote b) ≡ true → get_or (set unsure at (not ok)) b false ≡ false
sure_after ok at f unsure sure b h = ⊎_elim
    (λ e. subst (λ y. get_or (set unsure at (not ok)) y false ≡ false) (sym e) (subst (λ v. get_or (set unsure at (not v)) at false ≡ false) (sym (flag_at at b ok (f.wrote b) e h)) (flag_here unsure at)))
    (λ ne. get_or-set_other unsure at b (not ok) false ne ∙ sure b (flag_off at b ok (f.wrote b) ne h))
    (cases_eq b at)

-- A write that landed
pub flags_landed : (ok is_complete : Bool) {m : Mind} {f : Flags} {unsure : List Bool} {at : ℕ} {bytes : Block} {old new : Holds} → Adds at bytes old new → at < length old → (is_complete ≡ true → m.read at bytes ≡ m.memory at) → FlagsFit m f unsure old → FlagsFit (wrote at ok is_complete m) (marked at ok is_complete f) (set unsure at (not ok)) new
flags_landed ok is_complete {m} {f} {unsure} {at} {bytes} {old} {new} w here complete fits = record {
  clean = λ b lt h. ⊎_elim
      (λ e. subst (λ y. m.read y (latest_of (versions_of new y)) ≡ m.memory y) (sym e) (ap (λ x. m.read at x) (ap latest_of (adds-here w here) ∙ latest_push (drop w.gone (versions_of old at)) bytes) ∙ complete (both_right ok is_complete (turn (ok && is_complete) (flag_at at b (not (ok && is_complete)) (f.dirty b) e h)))))
      (λ ne. ap (λ (vs : Versions). m.read b (latest_of vs)) (adds-other w b ne) ∙ fits.clean b (subst (λ n. b < n) count lt) (flag_off at b (not (ok && is_complete)) (f.dirty b) ne h))
      (cases_eq b at);
  settled = λ b lt unwritten sound. ⊎_elim
      (λ e. absurd (none_of ok (flag_at at b ok (f.wrote b) e unwritten) (flag_at at b (not ok) (f.failed b) e sound)))
      (λ ne. ap (λ (vs : Versions). length vs) (adds-other w b ne) ∙ fits.settled b (subst (λ n. b < n) count lt) (flag_off at b ok (f.wrote b) ne unwritten) (flag_off at b (not ok) (f.failed b) ne sound))
      (cases_eq b at);
  sure = sure_after ok at f unsure fits.sure;
  some = λ b lt. ⊎_elim
      (λ e. subst (λ y. 0 < length (versions_of new y)) (sym e) (subst (λ (vs : Versions). 0 < length vs) (sym (adds-here w here)) (omega (arith, length_push (drop w.gone (versions_of old at)) bytes))))
      (λ ne. subst (λ (vs : Versions). 0 < length vs) (sym (adds-other w b ne)) (fits.some b (subst (λ n. b < n) count lt)))
      (cases_eq b at);
}
  where
    count : length new ≡ length old
    count = ap length w.is ∙ length-set old at _

-- One that did not
pub flags_lost : (is_complete : Bool) {m : Mind} {f : Flags} {unsure : List Bool} (at : ℕ) {old : Holds} → FlagsFit m f unsure old → FlagsFit (wrote at false is_complete m) (marked at false is_complete f) (set unsure at true) old
flags_lost is_complete {m} {f} {unsure} at {old} fits = record {
  clean = λ b lt h. ⊎_elim
      (λ e. let x : true ≡ false = flag_at at b true (f.dirty b) e h in absurd (cc))
      (λ ne. fits.clean b lt (flag_off at b true (f.dirty b) ne h))
      (cases_eq b at);
  settled = λ b lt unwritten sound. ⊎_elim
      (λ e. let x : true ≡ false = flag_at at b true (f.failed b) e sound in absurd (cc))
      (λ ne. fits.settled b lt (flag_off at b false (f.wrote b) ne unwritten) (flag_off at b true (f.failed b) ne sound))
      (cases_eq b at);
  sure = sure_after false at f unsure fits.sure;
  some = fits.some;
}

-- Whatever a write answers
pub flags_write : {E : Type 0} (result : Result Unit E) (m : Mind) (f : Flags) (unsure : List Bool) (at : ℕ) (bytes : Block) (is_complete : Bool) (old new : Holds) → DiskWrites at bytes result old new → at < length old → (is_complete ≡ true → m.read at bytes ≡ m.memory at) → FlagsFit m f unsure old → FlagsFit (wrote at (not (is_err result)) is_complete m) (marked at (not (is_err result)) is_complete f) (set unsure at (is_err result)) new
flags_write (Ok x) m f unsure at bytes is_complete old new w here complete fits = flags_landed true is_complete w here complete fits
flags_write (Err e) m f unsure at bytes is_complete old new w here complete fits = ⊎_elim
    (λ same. subst (λ h. FlagsFit (wrote at false is_complete m) (marked at false is_complete f) (set unsure at true) h) (sym same) (flags_lost is_complete at fits))
    (λ appends. flags_landed false is_complete (appends-adds appends) here complete fits)
    w

-- one version is the last one
newest_same : (versions : Versions) → length versions ≡ 1 → newest versions ≡ versions
newest_same [] e = refl
newest_same (v ∷ []) e = refl
newest_same (v ∷ w ∷ versions) e = let h : length (v ∷ w ∷ versions) ≡ 1 = e in absurd (omega (arith, h))

-- Whatever a sync answers
pub flags_sync : {E : Type 0} (result : Result Unit E) (m : Mind) (f : Flags) (unsure : List Bool) (old new : Holds) → DiskSyncs unsure result old new → FlagsFit m f unsure old → FlagsFit (after_sync result m) (after_sync_flags result f) unsure new
flags_sync (Err e) m f unsure old new same fits = subst (λ h. FlagsFit m f unsure h) (sym same) fits
flags_sync (Ok x) m f unsure old new y fits = record {
  clean = λ b lt h. ap (λ z. m.read b z) (latest_same b (inside b lt)) ∙ fits.clean b (inside b lt) h;
  settled = λ b lt unwritten sound. ap (λ (vs : Versions). length vs) (y.each b (inside b lt)) ∙ one b (inside b lt) (f.wrote b) refl sound (get_or unsure b false) refl;
  sure = λ b h. absurd (cc);
  some = λ b lt. subst (λ (vs : Versions). 0 < length vs) (sym (y.each b (inside b lt))) (still b (get_or unsure b false) (fits.some b (inside b lt)));
}
  where
    inside : (b : ℕ) → b < length new → b < length old
    inside b lt = omega (arith, lt, y.count)

    either : (b : ℕ) (v : Bool) → 0 < length (versions_of old b) → latest_of (cond v (versions_of old b) (newest (versions_of old b))) ≡ latest_of (versions_of old b)
    either b true some = refl
    either b false some = ap latest_of (newest_one (versions_of old b) some)

    latest_same : (b : ℕ) → b < length old → latest_of (versions_of new b) ≡ latest_of (versions_of old b)
    latest_same b lt = ap latest_of (y.each b lt) ∙ either b (get_or unsure b false) (fits.some b lt)

    still : (b : ℕ) (v : Bool) → 0 < length (versions_of old b) → 0 < length (cond v (versions_of old b) (newest (versions_of old b)))
    still b true some = some
    still b false some = subst (λ (vs : Versions). 0 < length vs) (sym (newest_one (versions_of old b) some)) (omega arith)

    one : (b : ℕ) → b < length old → (u : Bool) → f.wrote b ≡ u → f.failed b ≡ false → (v : Bool) → get_or unsure b false ≡ v → length (cond v (versions_of old b) (newest (versions_of old b))) ≡ 1
    one b lt true is sound true flag = let e : true ≡ false = sym flag ∙ fits.sure b is in absurd (cc)
    one b lt true is sound false flag = ap (λ (vs : Versions). length vs) (newest_one (versions_of old b) (fits.some b lt))
    one b lt false is sound true flag = fits.settled b lt is sound
    one b lt false is sound false flag = ap (λ (vs : Versions). length vs) (newest_same (versions_of old b) (fits.settled b lt is sound)) ∙ fits.settled b lt is sound

-- WHERE A BLOCK HAS NO FLAG
pub one_latest : (versions : Versions) → length versions ≡ 1 → (x : Block) → Contains versions x → x ≡ latest_of versions
one_latest [] e x h = absurd (omega (arith, e))
one_latest (v ∷ []) e x (zero, lt, is) = sym is
one_latest (v ∷ []) e x (suc k, lt, is) = absurd (omega (arith, lt))
one_latest (v ∷ w ∷ versions) e x h = let g : length (v ∷ w ∷ versions) ≡ 1 = e in absurd (omega (arith, g))

-- A block of the device without flags, which isn't newborn and has no slot that waits, is set.
pub unmarked_set : {m : Mind} {f : Flags} {unsure : List Bool} {holds : Holds} (b : ℕ) → FlagsFit m f unsure holds → IsUnmarked f b → m.newborn b ≡ false → ((i leaf : ℕ) → IsClear (known m holds).clears b i leaf → ⊥) → IsSet (known m holds) b
unmarked_set {m} {f} {unsure} {holds} b fits none born unclear = record {
  newborn = born;
  versions = λ c h. ⊎_elim
      (λ lt. let (x, among, is) = among_map (m.read b) (versions_of holds b) c h in same_if (sym is ∙ ap (λ y. m.read b y) (one_latest (versions_of holds b) (fits.settled b lt none.unwritten none.sound) x among) ∙ fits.clean b lt none.clean))
      (λ le. let (x, among, is) = among_map (m.read b) (versions_of holds b) c h in absurd (nothing x (subst (λ (vs : Versions). Contains vs x) (get_or_past holds b [] le) among)))
      (cases_lt b (length holds));
  clears = unclear;
}
  where
    nothing : (x : Block) → Contains [] x → ⊥
    nothing x (k, lt, is) = omega (arith, lt)

-- Where no block has a flag, none is newborn, and no slot waits, memory is the only image.
pub all_settled : {m : Mind} {f : Flags} {unsure : List Bool} {holds : Holds} → FlagsFit m f unsure holds → ((b : ℕ) → IsUnmarked f b) → ((b : ℕ) → m.newborn b ≡ false) → ((b i leaf : ℕ) → IsClear (known m holds).clears b i leaf → ⊥) → AllAre m.memory (Remains (known m holds))
all_settled {m} {f} {unsure} {holds} fits none born unclear =
    let all = quiet_all (known m holds) (λ b c h. (unmarked_set b fits (none b) (born b) (unclear b)).versions c (subst (λ (cs : List Content). Contains cs c) (seen_is (known m holds) b (born b)) h)) unclear in
    record { each = λ image r. all.each image r.cells }
