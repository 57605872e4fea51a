-- The one record is kept by steps in memory, and by those of the device.
use Rattle.std.proofs.Common.{◌≡◌, ⊎_elim, ℕ, ◌<◌, Bool, true, false, not, List, [], ◌∷◌, map, set, length, refl, sym, ◌∙◌, ap, subst, arith}
use Rattle.std.specs.Prelude.{Result, Ok, Err, is_err}
use Rattle.std.specs.List.{Contains}
use Rattle.fo_disk.specs.Disk.{Block, versions_of, latest_of}
use Rattle.fo_disk.specs.Disk.{Content as Holds, Writes as DiskWrites, Syncs as DiskSyncs}
use Rattle.fo_image.specs.declared.types.Label.{Label}
use Rattle.fo_crash.specs.Images.{Content, SameContent}
use Rattle.fo_cells.specs.Device.{Mind, Fits, MayWrite, MayWriteLabels, known, wrote, after_sync}
use Rattle.fo_cells.specs.Safe.{IsCurrent}
use Rattle.fo_image.specs.declared.types.State.TheVariants.{Closed}
use Rattle.fo_cells.proofs.Standing.{first_among}
use Rattle.fo_cells.proofs.Calls.{known_write, known_sync, fits_write, fits_sync}
use Rattle.fo_cells.proofs.Flags.{flags_write, flags_sync}
use Rattle.fo_cells.proofs.Labels.{labels_write, labels_sync}
use Rattle.fo_cells.proofs.LabelCalls.{labels_known}
use Rattle.fo_cells.proofs.SafeSteps.{write_safe, label_safe, sync_safe}
use Rattle.fo_cells_queue.specs.of_cells_out.Parents.{Tree}
use Rattle.fo_cells_queue.proofs.of_cells_out.Steps.{write_stays, label_stays, sync_stays}
use Rattle.fo_cells_held.proofs.Held.{buffers_change, flags_change, buffers_write, buffers_sync}
use Rattle.fo_cells_held.proofs.Timed.{timed_change, timed_write, timed_sync, dirty_change, dirty_write, dirty_sync}
use Rattle.fo_cells_held.proofs.Room.{room_stays}
use Rattle.fo_cells_held.specs.Held.{OnlyLiveDirty}
use Rattle.fo_cells_held.specs.Room.{Used}
use Rattle.fo_cells_queue.specs.Queue.{IsQueue}
use Rattle.fo_cells_queue.specs.of_cells_epochs.Epochs.{IsRead, NamesSet, HasEpochs}
use Rattle.fo_cells_queue.proofs.of_cells_epochs.TreeSteps.{write_trees, label_trees, sync_trees}
use Rattle.fo_cells_queue.proofs.of_cells_epochs.Epochs.{by_trees}
use Rattle.fo_cells_queue.proofs.Queue.{queue_still}
use Rattle.fo_cells_all.specs.All.{Kept, Format, HoldsAll, HoldsBeside, StepsBeside, kept_write, kept_sync}

pub beside : {c : Kept} {f : Format} {t : Tree} {unsure : List Bool} {holds : Holds} → HoldsAll c f t unsure holds → HoldsBeside c f unsure holds
beside h = record {
  flags = h.flags;
  label_flags = h.label_flags;
  fits = h.fits;
  buffers = h.buffers;
  times = h.times;
  dirty = h.dirty;
  labels = h.labels;
  room = h.room;
}

-- A STEP IN MEMORY
pub beside_step : {c d : Kept} {f : Format} {x : Used} {unsure : List Bool} {holds : Holds} → StepsBeside c d f x holds → HoldsBeside c f unsure holds → HoldsBeside d f unsure holds
beside_step {c} {d} {f} {x} {unsure} {holds} s h = record {
  flags = flags_change s.changes h.flags;
  label_flags = record {
    clean = λ t lt off.
        let block : d.mind.label_block t ≡ c.mind.label_block t = ap (λ (k : ℕ → ℕ). k t) s.labels.label_block in
        let l = s.label_dirty t (ap (λ y. d.flags.dirty y) (sym block) ∙ off) in
        ap (λ (k : ℕ → Block → Label). k t (latest_of (versions_of holds (d.mind.label_block t)))) s.labels.label_in
        ∙ ap (λ y. c.mind.label_in t (latest_of (versions_of holds y))) block
        ∙ h.label_flags.clean t (subst (λ y. y < length holds) block lt) l.0
        ∙ sym l.1;
  };
  fits = record {
    sure = λ b e. h.fits.sure b (s.changes.complete b e);
    within = λ b e. h.fits.within b (s.changes.complete b e);
    some = h.fits.some;
    leaves = λ k is. ⊎_elim (λ was. h.fits.leaves k was) (λ n. n) (s.leaves k is);
  };
  buffers = buffers_change s.changes h.buffers;
  times = timed_change s.labels s.changes.wrote h.times;
  dirty = ⊎_elim
      (λ same. subst (λ n. OnlyLiveDirty d.mind d.flags f.is_data n) (sym same) (dirty_change s.dirties h.dirty))
      (λ clean. record { dirty = λ b is e. let y : false ≡ true = sym (clean b) ∙ e in absurd (cc) })
      s.high;
  labels = s.region;
  room = room_stays s.spends s.uses h.room;
}

pub together : {c : Kept} {f : Format} {t : Tree} {unsure : List Bool} {holds : Holds} → HasEpochs (known c.mind holds) c.high f.high_of c.doubts c.active c.roots → IsQueue (known c.mind holds) t c.high c.active c.roots c.past c.queue → HoldsBeside c f unsure holds → HoldsAll c f t unsure holds
together e q h = record {
  epochs = e;
  queue = q;
  flags = h.flags;
  label_flags = h.label_flags;
  fits = h.fits;
  buffers = h.buffers;
  times = h.times;
  dirty = h.dirty;
  labels = h.labels;
  room = h.room;
}

-- A WRITE, beside the trees
pub write_beside : {E : Type 0} (result : Result Unit E) (c : Kept) (f : Format) (unsure : List Bool) (at : ℕ) (bytes : Block) (is_complete : Bool) (old new : Holds) → DiskWrites at bytes result old new → at < length old → (is_complete ≡ true → c.mind.read at bytes ≡ c.mind.memory at) → ((b : ℕ) → c.mind.label_block b ≡ at → c.mind.label_in b bytes ≡ c.mind.label b) → c.buffering.held at ≡ true → c.flags.dirty at ≡ true → ((c.mind.label at).state ≡ Closed → is_complete ≡ true) → HoldsBeside c f unsure old → HoldsBeside (kept_write at (not (is_err result)) is_complete c) f (set unsure at (is_err result)) new
write_beside result c f unsure at bytes is_complete old new w within complete spells held dirty whole h = record {
  flags = flags_write result c.mind c.flags unsure at bytes is_complete old new w within complete h.flags;
  label_flags = labels_write result c.mind c.flags at bytes is_complete old new w within (λ e. spells) h.label_flags;
  fits = fits_write result c.mind unsure at bytes is_complete old new w within h.fits;
  buffers = buffers_write (not (is_err result)) is_complete at c.mind c.flags c.buffering held h.buffers;
  times = timed_write result c.mind c.flags c.times at bytes is_complete old new w within spells h.times;
  dirty = dirty_write (not (is_err result)) is_complete at c.high c.mind c.flags f.is_data dirty whole h.dirty;
  labels = h.labels;
  room = h.room;
}

-- of a data block, or of block 1 with what memory has
pub write_all : {E : Type 0} (result : Result Unit E) (c : Kept) (f : Format) (t : Tree) (unsure : List Bool) (at : ℕ) (bytes : Block) (is_complete : Bool) (old new : Holds) → DiskWrites at bytes result old new → at < length old → MayWrite c.mind old at bytes is_complete → NamesSet at (c.mind.read at bytes) (known c.mind old) (known (wrote at (not (is_err result)) is_complete c.mind) new) → IsCurrent (known c.mind old) c.high at → (at ≡ 1 → SameContent (c.mind.read at bytes) (c.mind.memory 1)) → (t.Made at → ⊥) → c.buffering.held at ≡ true → c.flags.dirty at ≡ true → ((c.mind.label at).state ≡ Closed → is_complete ≡ true) → IsRead f.high_of → HoldsAll c f t unsure old → HoldsAll (kept_write at (not (is_err result)) is_complete c) f t (set unsure at (is_err result)) new
write_all result c f t unsure at bytes is_complete old new w within may names current super linked held dirty whole read h =
    let k = known_write result c.mind at bytes is_complete old new w within may in
    together (by_trees (write_safe k current super (λ leaf on j is. is)) (write_trees h.epochs.trees k names) read h.epochs)
    (queue_still (write_stays t k linked) (write_trees h.epochs.trees k names) (λ b is. refl) h.queue)
    (write_beside result c f unsure at bytes is_complete old new w within may.complete_is (λ b e. absurd (may.apart b e)) held dirty whole (beside h))

-- of a block of labels
pub labels_all : {E : Type 0} (result : Result Unit E) (c : Kept) (f : Format) (t : Tree) (unsure : List Bool) (at : ℕ) (bytes : Block) (old new : Holds) → DiskWrites at bytes result old new → at < length old → MayWriteLabels c.mind at bytes → c.mind.read at bytes ≡ c.mind.memory at → c.buffering.held at ≡ true → c.flags.dirty at ≡ true → IsRead f.high_of → HoldsAll c f t unsure old → HoldsAll (kept_write at (not (is_err result)) true c) f t (set unsure at (is_err result)) new
labels_all result c f t unsure at bytes old new w within may blank held dirty read h =
    let k = labels_known result c.mind at bytes true old new w within (h.fits.some at within) may in
    together (by_trees (label_safe k) (label_trees h.epochs.trees k) read h.epochs)
    (queue_still (label_stays t k) (label_trees h.epochs.trees k) (λ b is. refl) h.queue)
    (write_beside result c f unsure at bytes true old new w within (λ e. blank) may.spells held dirty (λ closed. refl) (beside h))

-- A SYNC
pub sync_beside : {E : Type 0} (result : Result Unit E) (c : Kept) (f : Format) (unsure : List Bool) (old new : Holds) → DiskSyncs unsure result old new → HoldsBeside c f unsure old → HoldsBeside (kept_sync result c) f unsure new
sync_beside {E} (Ok x) c f unsure old new y h = record {
  flags = flags_sync {E = E} (Ok x) c.mind c.flags unsure old new y h.flags;
  label_flags = labels_sync {E = E} (Ok x) c.mind c.flags unsure old new y h.flags.some h.label_flags;
  fits = fits_sync {E = E} (Ok x) c.mind unsure old new y h.fits;
  buffers = buffers_sync {E = E} (Ok x) c.mind c.flags c.buffering h.buffers;
  times = timed_sync {E = E} (Ok x) c.mind c.flags c.times unsure old new y h.flags h.times;
  dirty = dirty_sync {E = E} (Ok x) c.high c.mind c.flags f.is_data h.dirty;
  labels = h.labels;
  room = h.room;
}
sync_beside {E} (Err e) c f unsure old new y h = subst (λ k. HoldsBeside c f unsure k) (sym y) h

-- a block of the device has a version
has_version : (m : Mind) (unsure : List Bool) (holds : Holds) (b : ℕ) → Fits m unsure holds → b < length holds → (x : Content) × Contains ((known m holds).versions b) x
has_version m unsure holds b fits lt = of (versions_of holds b) (fits.some b lt)
  where
    of : (vs : List Block) → 0 < length vs → (x : Content) × Contains (map (m.read b) vs) x
    of [] some = absurd (omega (arith, some))
    of (v ∷ vs) some = (m.read b v, first_among (m.read b v) (map (m.read b) vs))

pub sync_all : {E : Type 0} (result : Result Unit E) (c : Kept) (f : Format) (t : Tree) (unsure : List Bool) (old new : Holds) → DiskSyncs unsure result old new → ((b : ℕ) → t.Made b → b < length old) → IsRead f.high_of → HoldsAll c f t unsure old → HoldsAll (kept_sync result c) f t unsure new
sync_all {E} (Ok x) c f t unsure old new y inside read h =
    let k = known_sync {E = E} (Ok x) c.mind unsure old new y h.fits refl in
    let fits = fits_sync {E = E} (Ok x) c.mind unsure old new y h.fits in
    together (by_trees (sync_safe k (λ leaf on j is. is)) (sync_trees h.epochs.trees k) read h.epochs)
    (queue_still (sync_stays t k (λ b is. let lt = inside b is in has_version (after_sync {E = E} (Ok x) c.mind) unsure new b fits (subst (λ n. b < n) (sym y.count) lt))) (sync_trees h.epochs.trees k) (λ b is. refl) h.queue)
    (sync_beside {E = E} (Ok x) c f unsure old new y (beside h))
sync_all {E} (Err e) c f t unsure old new y inside read h = subst (λ k. HoldsAll c f t unsure k) (sym y) h
