-- Writes and syncs in between: memory is as it was.
use Rattle.std.proofs.Common.{◌≡◌, ℕ, ◌<◌, Bool, true, not, List, length, set, refl, sym, subst}
use Rattle.std.specs.Prelude.{Result, Ok, Err, is_err}
use Rattle.fo_disk.specs.Disk.{Block}
use Rattle.fo_disk.specs.Disk.{Content as Holds, Writes as DiskWrites, Syncs as DiskSyncs}
use Rattle.fo_image.specs.declared.types.State.TheVariants.{Closed}
use Rattle.fo_crash.specs.Images.{SameContent}
use Rattle.fo_crash.specs.Steps.{AddsNothing}
use Rattle.fo_cells.specs.Safe.{IsCurrent, KeepsSafe}
use Rattle.fo_cells.specs.Device.{MayWrite, MayWriteLabels, known, wrote, after_sync}
use Rattle.fo_cells.proofs.Calls.{known_write, known_sync}
use Rattle.fo_cells.proofs.LabelCalls.{labels_known}
use Rattle.fo_cells.proofs.Writing.{write_adds}
use Rattle.fo_cells.proofs.Settling.{label_adds, sync_adds, may_fewer, labels_fewer, sync_fewer}
use Rattle.fo_cells.proofs.Super.{remains_nothing}
use Rattle.fo_cells.proofs.SafeSteps.{write_safe, label_safe, sync_safe}
use Rattle.fo_cells_epochs.specs.Epochs.{NamesSet}
use Rattle.fo_cells_epochs.proofs.TreeSteps.{write_trees, label_trees, sync_trees}
use Rattle.fo_cells_epochs.proofs.Epochs.{by_trees}
use Rattle.fo_cells_all.specs.All.{Kept, Format, kept_write, kept_sync}
use Rattle.fo_cells_all.proofs.All.{write_beside, sync_beside}
use Rattle.fo_cells_steps.specs.Calls.{images}
use Rattle.fo_cells_between.specs.Between.{HoldsBetween}
use Rattle.fo_cells_between.proofs.Still.{StaysBetween, between_by}

pub write_turn : {E : Type 0} (result : Result Unit E) (root next : ℕ) (first c : Kept) (f : Format) (unsure : List Bool) (at : ℕ) (bytes : Block) (is_complete : Bool) (before old new : Holds) → DiskWrites at bytes result old new → at < length old → MayWrite c.mind old at bytes is_complete → NamesSet at (c.mind.read at bytes) (known c.mind old) (known (wrote at (not (is_err result)) is_complete c.mind) new) → IsCurrent (known c.mind old) c.high at → (at ≡ 1 → SameContent (c.mind.read at bytes) (c.mind.memory 1)) → c.buffering.held at ≡ true → c.flags.dirty at ≡ true → ((c.mind.label at).state ≡ Closed → is_complete ≡ true) → HoldsBetween root next first before c f unsure old → AddsNothing (images c old) (images (kept_write at (not (is_err result)) is_complete c) new) × HoldsBetween root next first before (kept_write at (not (is_err result)) is_complete c) f (set unsure at (is_err result)) new
write_turn result root next first c f unsure at bytes is_complete before old new w within may names current super held dirty whole h =
    let k = known_write result c.mind at bytes is_complete old new w within may in
    let safe : KeepsSafe (known c.mind old) (known (wrote at (not (is_err result)) is_complete c.mind) new) c.high = write_safe k current super (λ leaf on j is. is) in
    let stays : StaysBetween c (kept_write at (not (is_err result)) is_complete c) old new = record {
      high = refl;
      roots = refl;
      past = refl;
      queue = refl;
      active = refl;
      low = refl;
      label = λ b. refl;
      memory = λ a i. refl;
      waits = refl;
      may = λ a i s one m. Rattle.fo_cells.proofs.Writing.may_old k a i s m;
      stands = safe.stands;
    } in (
      remains_nothing (write_adds k) safe.supers,
      between_by stays
          (by_trees safe (write_trees h.epochs.trees k names) h.begins.read h.epochs)
          (write_beside result c f unsure at bytes is_complete old new w within may.complete_is (λ b e. absurd (may.apart b e)) held dirty whole h.beside)
          h,
    )

pub labels_turn : {E : Type 0} (result : Result Unit E) (root next : ℕ) (first c : Kept) (f : Format) (unsure : List Bool) (at : ℕ) (bytes : Block) (before old new : Holds) → DiskWrites at bytes result old new → at < length old → MayWriteLabels c.mind at bytes → c.mind.read at bytes ≡ c.mind.memory at → c.buffering.held at ≡ true → c.flags.dirty at ≡ true → HoldsBetween root next first before c f unsure old → AddsNothing (images c old) (images (kept_write at (not (is_err result)) true c) new) × HoldsBetween root next first before (kept_write at (not (is_err result)) true c) f (set unsure at (is_err result)) new
labels_turn result root next first c f unsure at bytes before old new w within may blank held dirty h =
    let k = labels_known result c.mind at bytes true old new w within (h.beside.fits.some at within) may in
    let safe : KeepsSafe (known c.mind old) (known (wrote at (not (is_err result)) true c.mind) new) c.high = label_safe k in
    let stays : StaysBetween c (kept_write at (not (is_err result)) true c) old new = record {
      high = refl;
      roots = refl;
      past = refl;
      queue = refl;
      active = refl;
      low = refl;
      label = λ b. refl;
      memory = λ a i. refl;
      waits = refl;
      may = λ a i s one m. may_fewer (labels_fewer k) a i s m;
      stands = safe.stands;
    } in (
      remains_nothing (label_adds k) safe.supers,
      between_by stays
          (by_trees safe (label_trees h.epochs.trees k) h.begins.read h.epochs)
          (write_beside result c f unsure at bytes true old new w within (λ e. blank) may.spells held dirty (λ closed. refl) h.beside)
          h,
    )

pub sync_turn : {E : Type 0} (result : Result Unit E) (root next : ℕ) (first c : Kept) (f : Format) (unsure : List Bool) (before old new : Holds) → DiskSyncs unsure result old new → HoldsBetween root next first before c f unsure old → AddsNothing (images c old) (images (kept_sync result c) new) × HoldsBetween root next first before (kept_sync result c) f unsure new
sync_turn {E} (Ok x) root next first c f unsure before old new y h =
    let k = known_sync {E = E} (Ok x) c.mind unsure old new y h.beside.fits refl in
    let safe : KeepsSafe (known c.mind old) (known (after_sync {E = E} (Ok x) c.mind) new) c.high = sync_safe k (λ leaf on j is. is) in
    let stays : StaysBetween c (kept_sync {E = E} (Ok x) c) old new = record {
      high = refl;
      roots = refl;
      past = refl;
      queue = refl;
      active = refl;
      low = refl;
      label = λ b. refl;
      memory = λ a i. refl;
      waits = refl;
      may = λ a i s one m. may_fewer (sync_fewer k) a i s m;
      stands = safe.stands;
    } in (
      remains_nothing (sync_adds k) safe.supers,
      between_by stays
          (by_trees safe (sync_trees h.epochs.trees k) h.begins.read h.epochs)
          (sync_beside {E = E} (Ok x) c f unsure old new y h.beside)
          h,
    )
sync_turn {E} (Err e) root next first c f unsure before old new y h = (record { each = λ image r. subst (λ (k : Holds). images c k image) y r }, subst (λ (k : Holds). HoldsBetween root next first before c f unsure k) (sym y) h)
