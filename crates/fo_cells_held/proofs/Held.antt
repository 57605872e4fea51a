-- Buffers are kept by each step.
use Rattle.std.proofs.Common.{◌≡◌, ◌≢◌, ◌⊎◌, inl, inr, ⊎_elim, ℕ, ◌<◌, Bool, true, false, cond, not, ◌&&◌, nat_eq, List, refl, sym, ◌∙◌, ap, subst, arith}
use Rattle.std.proofs.lemmas.Bool.{cases_eq}
use Rattle.std.specs.Prelude.{Result, Ok, Err}
use Rattle.fo_disk.specs.Disk.{Block, versions_of, latest_of, IsSettled}
use Rattle.fo_disk.specs.Disk.{Content as Holds}
use Rattle.fo_cells.specs.of_crash.Images.{Content}
use Rattle.fo_cells.specs.Known.{IsWait, IsClear}
use Rattle.fo_cells.specs.Device.{Clearing, Mind, known, since_of, noted, wrote, after_sync}
use Rattle.fo_cells.specs.Flags.{Flags, FlagsFit, IsUnmarked, marked, after_sync_flags}
use Rattle.fo_cells.specs.Safe.{IsSet}
use Rattle.fo_cells.proofs.Calls.{among_map, both_left, nat_eq_here, nat_eq_other}
use Rattle.fo_cells.proofs.Flags.{flag_at, flag_off, unmarked_set}
use Rattle.fo_cells_held.specs.Held.{Buffering, HasBuffers, ChangesMemory, Releases}

-- a held block and one that isn't
apart : (h : Buffering) (at b : ℕ) → h.held at ≡ true → h.held b ≡ false → b ≢ at
apart h at b on off e = let x : true ≡ false = sym on ∙ ap (λ y. h.held y) (sym e) ∙ off in absurd (cc)

put_flag : (at b : ℕ) (x y : Bool) {v : Bool} → b ≢ at → y ≡ v → cond (nat_eq b at) x y ≡ v
put_flag at b x y ne h = ap (λ k. cond k x y) (nat_eq_other b at ne) ∙ h

here_flag : (at b : ℕ) (x y : Bool) {v : Bool} → b ≡ at → x ≡ v → cond (nat_eq b at) x y ≡ v
here_flag at b x y e h = ap (λ k. cond k x y) (nat_eq_here b at e) ∙ h

noted_same : (at : ℕ) (ok : Bool) (c : Clearing) → ((noted at ok c).at ≡ c.at) × ((noted at ok c).leaf ≡ c.leaf)
noted_same at ok c = by (ok && nat_eq c.leaf at)
  where
    by : (v : Bool) → ((cond v (record c { wrote = true }) c).at ≡ c.at) × ((cond v (record c { wrote = true }) c).leaf ≡ c.leaf)
    by true = (refl, refl)
    by false = (refl, refl)

-- A WRITE of a block that has a buffer, whatever is answered
pub buffers_write : (ok is_complete : Bool) (at : ℕ) (m : Mind) (f : Flags) (h : Buffering) → h.held at ≡ true → HasBuffers m f h → HasBuffers (wrote at ok is_complete m) (marked at ok is_complete f) h
buffers_write ok is_complete at m f h on x = record {
  unheld = λ b off.
      let ne = apart h at b on off in
      let u = x.unheld b off in (
        record {
          clean = put_flag at b (not (ok && is_complete)) (f.dirty b) ne u.0.clean;
          unwritten = put_flag at b ok (f.wrote b) ne u.0.unwritten;
          sound = put_flag at b (not ok) (f.failed b) ne u.0.sound;
        },
        u.1,
      );
  complete = λ b e. ⊎_elim
      (λ here. here_flag at b ok (f.wrote b) here (both_left ok is_complete (flag_at at b (ok && is_complete) (m.complete b) here e)))
      (λ ne. put_flag at b ok (f.wrote b) ne (x.complete b (flag_off at b (ok && is_complete) (m.complete b) ne e)))
      (cases_eq b at);
  waits = x.waits;
  clears = λ c is.
      let (d, among, e) = among_map (noted at ok) m.clears c is in
      let y = x.clears d among in
      let s = noted_same at ok d in (
        ap (λ k. h.held k) (ap (λ (z : Clearing). z.at) (sym e) ∙ s.0) ∙ y.0,
        ap (λ k. h.held k) (ap (λ (z : Clearing). z.leaf) (sym e) ∙ s.1) ∙ y.1,
      );
  clean = x.clean;
}

-- A SYNC
pub buffers_sync : {E : Type 0} (result : Result Unit E) (m : Mind) (f : Flags) (h : Buffering) → HasBuffers m f h → HasBuffers (after_sync result m) (after_sync_flags result f) h
buffers_sync (Err e) m f h x = x
buffers_sync (Ok y) m f h x = record {
  unheld = λ b off. let u = x.unheld b off in (record { clean = u.0.clean; unwritten = refl; sound = u.0.sound }, ap (λ v. v && not (m.complete b)) u.1);
  complete = λ b e. absurd (cc);
  waits = x.waits;
  clears = x.clears;
  clean = x.clean;
}

-- A CALL IN MEMORY
pub buffers_change : {m n : Mind} {f g : Flags} {h j : Buffering} → ChangesMemory m n f g h j → HasBuffers m f h → HasBuffers n g j
buffers_change {m} {n} {f} {g} {h} {j} c x = record {
  unheld = λ b off.
      let y = c.held b off in
      let u = x.unheld b y.0 in (record { clean = y.1; unwritten = c.wrote b ∙ u.0.unwritten; sound = c.failed b ∙ u.0.sound }, y.2 ∙ u.1);
  complete = λ b e. c.wrote b ∙ x.complete b (c.complete b e);
  waits = c.waits;
  clears = c.clears;
  clean = λ b bytes is.
      let y = c.clean b bytes is in
      let off = (c.held b y.1).1 in (
        y.1,
        ap (λ (r : ℕ → Block → Content). r b bytes) c.read ∙ (x.clean b bytes y.0).1 ∙ sym (c.still b off).1,
      );
}

pub flags_change : {m n : Mind} {f g : Flags} {h j : Buffering} {unsure : List Bool} {holds : Holds} → ChangesMemory m n f g h j → FlagsFit m f unsure holds → FlagsFit n g unsure holds
flags_change {m} {n} {f} {g} {h} {j} {unsure} {holds} c x = record {
  clean = λ b lt e. let y = c.still b e in ap (λ (r : ℕ → Block → Content). r b (latest_of (versions_of holds b))) c.read ∙ x.clean b lt y.0 ∙ sym y.1;
  settled = λ b lt u s. x.settled b lt (sym (c.wrote b) ∙ u) (sym (c.failed b) ∙ s);
  sure = λ b e. x.sure b (sym (c.wrote b) ∙ e);
  some = x.some;
}

-- A BUFFER IS GIVEN UP
pub buffers_release : {at : ℕ} {m : Mind} {f : Flags} {h j : Buffering} → Releases at m f h j → HasBuffers m f h → HasBuffers m f j
buffers_release {at} {m} {f} {h} {j} r x = record {
  unheld = λ b off. ⊎_elim
      (λ e. subst (λ y. IsUnmarked f y × (m.newborn y ≡ false)) (sym e) (r.unmarked, r.settled))
      (λ ne. x.unheld b (sym (r.others b ne) ∙ off))
      (cases_eq b at);
  complete = x.complete;
  waits = λ leaf on k is. let w = x.waits leaf on k is in let u = r.unwaited leaf on k is in (r.others leaf u.0 ∙ w.0, r.others on u.1 ∙ w.1);
  clears = λ c is. let w = x.clears c is in let u = r.uncleared c is in (r.others c.at u.0 ∙ w.0, r.others c.leaf u.1 ∙ w.1);
  clean = λ b bytes is. ⊎_elim
      (λ was. ⊎_elim
      (λ e. (ap (λ y. j.held y) e ∙ r.here, (x.clean b bytes was).1))
      (λ ne. (r.others b ne ∙ (x.clean b bytes was).0, (x.clean b bytes was).1))
      (cases_eq b at))
      (λ n. (ap (λ y. j.held y) n.0 ∙ r.here, ap (λ y. m.read y bytes) n.0 ∙ n.1 ∙ ap (λ y. m.memory y) (sym n.0)))
      (r.clean b bytes is);
}

-- WHAT HAS NO BUFFER has one version, which is what memory has; nothing of it waits.
pub unheld_known : {m : Mind} {f : Flags} {h : Buffering} {unsure : List Bool} {holds : Holds} → FlagsFit m f unsure holds → HasBuffers m f h → (b : ℕ) → b < Rattle.std.proofs.Common.length holds → h.held b ≡ false → IsSettled holds b × (m.read b (latest_of (versions_of holds b)) ≡ m.memory b) × IsSet (known m holds) b
unheld_known {m} {f} {h} {unsure} {holds} fits x b lt off =
    let u = x.unheld b off in (
      fits.settled b lt u.0.unwritten u.0.sound,
      fits.clean b lt u.0.clean,
      unmarked_set b fits u.0 u.1 unclear,
    )
  where
    unclear : (i leaf : ℕ) → IsClear (known m holds).clears b i leaf → ⊥
    unclear i leaf is =
        let (d, among, e) = among_map (since_of holds) m.clears is.clear is.among in
        let at_is : d.at ≡ b = ap (λ (z : Rattle.fo_cells.specs.Known.Clear). z.at) e ∙ is.is.0 in
        let x_d = (x.clears d among).0 in
        let y : true ≡ false = sym x_d ∙ ap (λ k. h.held k) at_is ∙ off in
        absurd (cc)
