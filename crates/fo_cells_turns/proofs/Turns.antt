-- Writes and syncs keep the whole, with what was made.
use Rattle.std.proofs.Common.{◌≡◌, ℕ, ◌<◌, Bool, true, not, List, length, set, refl, sym, subst}
use Rattle.std.specs.Prelude.{Result, Ok, Err, is_err}
use Rattle.fo_disk.specs.Disk.{Block}
use Rattle.fo_disk.specs.Disk.{Content as Holds, Writes as DiskWrites, Syncs as DiskSyncs}
use Rattle.fo_image.specs.declared.types.State.TheVariants.{Closed}
use Rattle.fo_crash.specs.Images.{SameContent}
use Rattle.fo_crash.specs.Steps.{AddsNothing}
use Rattle.fo_cells.specs.Safe.{IsCurrent, KeepsSafe}
use Rattle.fo_cells.specs.Device.{MayWrite, MayWriteLabels, known, wrote, after_sync}
use Rattle.fo_cells.proofs.Calls.{known_write, known_sync}
use Rattle.fo_cells.proofs.LabelCalls.{labels_known}
use Rattle.fo_cells.proofs.Writing.{write_adds}
use Rattle.fo_cells.proofs.Settling.{label_adds, sync_adds}
use Rattle.fo_cells.proofs.Super.{remains_nothing}
use Rattle.fo_cells.proofs.SafeSteps.{write_safe, label_safe, sync_safe}
use Rattle.fo_cells_out.specs.Parents.{view}
use Rattle.fo_cells_out.specs.Origins.{Origins}
use Rattle.fo_cells_epochs.specs.Epochs.{IsRead, NamesSet}
use Rattle.fo_cells_steps.specs.of_cells_all.All.{Kept, Format, HoldsAll, kept_write, kept_sync}
use Rattle.fo_cells_steps.proofs.of_cells_all.All.{write_all, labels_all, sync_all}
use Rattle.fo_cells_steps.specs.Division.{HoldsMade, division}
use Rattle.fo_cells_steps.specs.Calls.{images}
use Rattle.fo_cells_steps.proofs.Same.{origins_alike}
use Rattle.fo_cells_steps.proofs.Taking.{itself}

-- a block was written, and memory is as it was
wrote_made : (ok is_complete : Bool) (at : ℕ) {c : Kept} {f : Format} {Made : ℕ → Type 0} {h : Origins} {unsure later : List Bool} {holds after : Holds} → HoldsAll (kept_write at ok is_complete c) f (division c Made) later after → HoldsMade c f Made h unsure holds → HoldsMade (kept_write at ok is_complete c) f Made h later after
wrote_made ok is_complete at {c} {f} {Made} {h} {unsure} {later} {holds} {after} now all = record {
  all = now;
  origins = origins_alike (view (known c.mind holds) c.active) (view (known (wrote at ok is_complete c.mind) after) c.active) (λ a j z e. e) (λ a j z e. e) (itself (division c Made)) all.origins;
  tops = all.tops;
  apart = all.apart;
}

pub write_turn : {E : Type 0} (result : Result Unit E) (c : Kept) (f : Format) (Made : ℕ → Type 0) (h : Origins) (unsure : List Bool) (at : ℕ) (bytes : Block) (is_complete : Bool) (old new : Holds) → DiskWrites at bytes result old new → at < length old → MayWrite c.mind old at bytes is_complete → NamesSet at (c.mind.read at bytes) (known c.mind old) (known (wrote at (not (is_err result)) is_complete c.mind) new) → IsCurrent (known c.mind old) c.high at → (at ≡ 1 → SameContent (c.mind.read at bytes) (c.mind.memory 1)) → (Made at → ⊥) → c.buffering.held at ≡ true → c.flags.dirty at ≡ true → ((c.mind.label at).state ≡ Closed → is_complete ≡ true) → IsRead f.high_of → HoldsMade c f Made h unsure old → AddsNothing (images c old) (images (kept_write at (not (is_err result)) is_complete c) new) × HoldsMade (kept_write at (not (is_err result)) is_complete c) f Made h (set unsure at (is_err result)) new
write_turn result c f Made h unsure at bytes is_complete old new w within may names current super linked held dirty whole read all =
    let k = known_write result c.mind at bytes is_complete old new w within may in
    let safe : KeepsSafe (known c.mind old) (known (wrote at (not (is_err result)) is_complete c.mind) new) c.high = write_safe k current super (λ leaf on j is. is) in (
      remains_nothing (write_adds k) safe.supers,
      wrote_made (not (is_err result)) is_complete at (write_all result c f (division c Made) unsure at bytes is_complete old new w within may names current super linked held dirty whole read all.all) all,
    )

pub labels_turn : {E : Type 0} (result : Result Unit E) (c : Kept) (f : Format) (Made : ℕ → Type 0) (h : Origins) (unsure : List Bool) (at : ℕ) (bytes : Block) (old new : Holds) → DiskWrites at bytes result old new → at < length old → MayWriteLabels c.mind at bytes → c.mind.read at bytes ≡ c.mind.memory at → c.buffering.held at ≡ true → c.flags.dirty at ≡ true → IsRead f.high_of → HoldsMade c f Made h unsure old → AddsNothing (images c old) (images (kept_write at (not (is_err result)) true c) new) × HoldsMade (kept_write at (not (is_err result)) true c) f Made h (set unsure at (is_err result)) new
labels_turn result c f Made h unsure at bytes old new w within may blank held dirty read all =
    let k = labels_known result c.mind at bytes true old new w within (all.all.fits.some at within) may in
    let safe : KeepsSafe (known c.mind old) (known (wrote at (not (is_err result)) true c.mind) new) c.high = label_safe k in (
      remains_nothing (label_adds k) safe.supers,
      wrote_made (not (is_err result)) true at (labels_all result c f (division c Made) unsure at bytes old new w within may blank held dirty read all.all) all,
    )

pub sync_turn : {E : Type 0} (result : Result Unit E) (c : Kept) (f : Format) (Made : ℕ → Type 0) (h : Origins) (unsure : List Bool) (old new : Holds) → DiskSyncs unsure result old new → ((b : ℕ) → Made b → b < length old) → IsRead f.high_of → HoldsMade c f Made h unsure old → AddsNothing (images c old) (images (kept_sync result c) new) × HoldsMade (kept_sync result c) f Made h unsure new
sync_turn {E} (Ok x) c f Made h unsure old new y inside read all =
    let k = known_sync {E = E} (Ok x) c.mind unsure old new y all.all.fits refl in
    let safe : KeepsSafe (known c.mind old) (known (after_sync {E = E} (Ok x) c.mind) new) c.high = sync_safe k (λ leaf on j is. is) in (
      remains_nothing (sync_adds k) safe.supers,
      record {
        all = sync_all {E = E} (Ok x) c f (division c Made) unsure old new y inside read all.all;
        origins = origins_alike (view (known c.mind old) c.active) (view (known (after_sync {E = E} (Ok x) c.mind) new) c.active) (λ a j z e. e) (λ a j z e. e) (itself (division c Made)) all.origins;
        tops = all.tops;
        apart = all.apart;
      },
    )
sync_turn {E} (Err e) c f Made h unsure old new y inside read all = (record { each = λ image r. subst (λ (k : Holds). images c k image) y r }, subst (λ (k : Holds). HoldsMade c f Made h unsure k) (sym y) all)
