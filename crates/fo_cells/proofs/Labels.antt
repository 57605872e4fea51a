-- Labels on the device: where a block of labels has no flag, each of its labels is memory's, and what it labels may be named.
use Rattle.std.proofs.Common.{◌≡◌, ◌≢◌, ⊎_elim, ℕ, ◌<◌, Bool, true, false, cond, not, ◌&&◌, List, [], length, drop, get_or, length-set, refl, sym, ◌∙◌, ap, subst, arith}
use Rattle.std.proofs.lemmas.Bool.{cases_eq, cases_lt}
use Rattle.std.proofs.lemmas.List.{get_or_past}
use Rattle.std.specs.Prelude.{Result, Ok, Err, is_err}
use Rattle.std.specs.List.{Contains}
use Rattle.fo_disk.specs.Disk.{Block, Versions, versions_of, latest_of, newest, Adds}
use Rattle.fo_disk.specs.Disk.{Content as Holds, Writes as DiskWrites, Syncs as DiskSyncs}
use Rattle.fo_disk.proofs.Images.{adds-other, adds-here, appends-adds}
use Rattle.fo_image.specs.declared.types.Label.{Label}
use Rattle.fo_crash.specs.declared.place.Place.{Place}
use Rattle.fo_cells.specs.Known.{IsKept, MayName, LabelFits, Stands}
use Rattle.fo_cells.specs.Device.{Mind, known, wrote, after_sync}
use Rattle.fo_cells.specs.Flags.{Flags, FlagsFit, LabelsFit, IsUnmarked, marked, after_sync_flags}
use Rattle.fo_cells.proofs.Calls.{among_map, latest_push, newest_one}
use Rattle.fo_cells.proofs.Flags.{both_right, turn, flag_at, flag_off, one_latest}

-- A write that landed
labels_landed : (ok is_complete : Bool) {m : Mind} {f : Flags} {at : ℕ} {bytes : Block} {old new : Holds} → Adds at bytes old new → at < length old → (is_complete ≡ true → (t : ℕ) → m.label_block t ≡ at → m.label_in t bytes ≡ m.label t) → LabelsFit m f old → LabelsFit (wrote at ok is_complete m) (marked at ok is_complete f) new
labels_landed ok is_complete {m} {f} {at} {bytes} {old} {new} w here spells fits = record {
  clean = λ t lt h. ⊎_elim
      (λ e. ap (λ x. m.label_in t x) (ap (λ y. latest_of (versions_of new y)) e ∙ ap latest_of (adds-here w here) ∙ latest_push (drop w.gone (versions_of old at)) bytes) ∙ spells (both_right ok is_complete (turn (ok && is_complete) (flag_at at (m.label_block t) (not (ok && is_complete)) (f.dirty (m.label_block t)) e h))) t e)
      (λ ne. ap (λ (vs : Versions). m.label_in t (latest_of vs)) (adds-other w (m.label_block t) ne) ∙ fits.clean t (subst (λ n. m.label_block t < n) count lt) (flag_off at (m.label_block t) (not (ok && is_complete)) (f.dirty (m.label_block t)) ne h))
      (cases_eq (m.label_block t) at);
}
  where
    count : length new ≡ length old
    count = ap length w.is ∙ length-set old at _

-- Whatever a write answers: of a block of labels with all that memory has, or of another block.
pub labels_write : {E : Type 0} (result : Result Unit E) (m : Mind) (f : Flags) (at : ℕ) (bytes : Block) (is_complete : Bool) (old new : Holds) → DiskWrites at bytes result old new → at < length old → (is_complete ≡ true → (t : ℕ) → m.label_block t ≡ at → m.label_in t bytes ≡ m.label t) → LabelsFit m f old → LabelsFit (wrote at (not (is_err result)) is_complete m) (marked at (not (is_err result)) is_complete f) new
labels_write (Ok x) m f at bytes is_complete old new w here spells fits = labels_landed true is_complete w here spells fits
labels_write (Err e) m f at bytes is_complete old new w here spells fits = ⊎_elim
    (λ same. subst (λ h. LabelsFit (wrote at false is_complete m) (marked at false is_complete f) h) (sym same) (record {
      clean = λ t lt h. ⊎_elim
          (λ is. let x : true ≡ false = flag_at at (m.label_block t) true (f.dirty (m.label_block t)) is h in absurd (cc))
          (λ ne. fits.clean t lt (flag_off at (m.label_block t) true (f.dirty (m.label_block t)) ne h))
          (cases_eq (m.label_block t) at);
    }))
    (λ appends. labels_landed false is_complete (appends-adds appends) here spells fits)
    w

-- Whatever a sync answers
pub labels_sync : {E : Type 0} (result : Result Unit E) (m : Mind) (f : Flags) (unsure : List Bool) (old new : Holds) → DiskSyncs unsure result old new → ((b : ℕ) → b < length old → 0 < length (versions_of old b)) → LabelsFit m f old → LabelsFit (after_sync result m) (after_sync_flags result f) new
labels_sync (Err e) m f unsure old new same some fits = subst (λ h. LabelsFit m f h) (sym same) fits
labels_sync (Ok x) m f unsure old new y some fits = record {
  clean = λ t lt h.
      let inside : m.label_block t < length old = omega (arith, lt, y.count) in
      ap (λ (vs : Versions). m.label_in t (latest_of vs)) (y.each (m.label_block t) inside) ∙ ap (λ z. m.label_in t z) (either (m.label_block t) (get_or unsure (m.label_block t) false) (some (m.label_block t) inside)) ∙ fits.clean t inside h;
}
  where
    either : (b : ℕ) (v : Bool) → 0 < length (versions_of old b) → latest_of (cond v (versions_of old b) (newest (versions_of old b))) ≡ latest_of (versions_of old b)
    either b true more = refl
    either b false more = ap latest_of (newest_one (versions_of old b) more)

-- WHERE A BLOCK OF LABELS HAS NO FLAG
pub label_known : {m : Mind} {f : Flags} {unsure : List Bool} {holds : Holds} (t : ℕ) → FlagsFit m f unsure holds → LabelsFit m f holds → IsUnmarked f (m.label_block t) → (l : Label) → Contains ((known m holds).labels t) l → l ≡ m.label t
label_known {m} {f} {unsure} {holds} t fits labels none l h = ⊎_elim
    (λ lt. let (x, among, is) = among_map (m.label_in t) (versions_of holds (m.label_block t)) l h in
    sym is ∙ ap (λ y. m.label_in t y) (one_latest (versions_of holds (m.label_block t)) (fits.settled (m.label_block t) lt none.unwritten none.sound) x among) ∙ labels.clean t lt none.clean)
    (λ le. let (x, among, is) = among_map (m.label_in t) (versions_of holds (m.label_block t)) l h in absurd (nothing x (subst (λ (vs : Versions). Contains vs x) (get_or_past holds (m.label_block t) [] le) among)))
    (cases_lt (m.label_block t) (length holds))
  where
    nothing : (x : Block) → Contains [] x → ⊥
    nothing x (k, lt, is) = omega (arith, lt)

-- A block that stands somewhere, was settled whole since it was given out, and whose block of labels has no flag, may be named.
pub set_label_named : {m : Mind} {f : Flags} {unsure : List Bool} {holds : Holds} {t : ℕ} {p : Place} → FlagsFit m f unsure holds → LabelsFit m f holds → IsKept (known m holds) → t ≢ 1 → Stands (known m holds) t p → m.newborn t ≡ false → IsUnmarked f (m.label_block t) → MayName (known m holds) t
set_label_named {m} {f} {unsure} {holds} {t} {p} fits labels kept ne st born none =
    let l = kept.labelled t p ne st in record {
      settled = born;
      labels = λ x h. subst (λ (y : Label). LabelFits m.low (m.label t) y) (sym (label_known t fits labels none x h)) (record { kind = refl; tag = refl; epoch = refl; kept = l.2 });
    }
