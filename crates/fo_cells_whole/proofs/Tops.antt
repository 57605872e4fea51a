-- A sync keeps the invariant of a device with its list of tops.
use Rattle.std.proofs.Common.{ℕ, ◌<◌, Bool, not, List, refl, sym, subst}
use Rattle.std.proofs.Math.Logic.{∥∥₁_elim, ∥∥₁_prop}
use Rattle.std.specs.Prelude.{Result, Ok, Err, is_err}
use Rattle.fo_disk.specs.Disk.{Content as Holds, Syncs as DiskSyncs}
use Rattle.fo_crash.specs.declared.place.Place.{Place}
use Rattle.fo_crash.specs.Images.{Content}
use Rattle.fo_cells.specs.Safe.{KeepsSafe}
use Rattle.fo_cells.specs.Device.{Mind, known, synced}
use Rattle.fo_cells.proofs.Safe.{safe_step}
use Rattle.fo_cells.proofs.SafeSteps.{sync_safe}
use Rattle.fo_cells.proofs.Calls.{known_sync, sync_steps}
use Rattle.fo_cells.specs.Safe.{super_top}
use Rattle.fo_cells_out.proofs.Queue.{nothing_among}
use Rattle.fo_cells_whole.specs.Tops.{IsRooted, NoneIsRefused, over, noted_sync}

pub rooted_sync : {E : Type 0} (result : Result Unit E) (m : Mind) (place : ℕ → Place) (high : ℕ) (doubts : List Content) (tops : List ℕ) (unsure : List Bool) (old new : Holds) → DiskSyncs unsure result old new → IsRooted m place high doubts tops unsure old → IsRooted (noted_sync (not (is_err result)) m) place high doubts tops unsure new
rooted_sync {E} (Ok x) m place high doubts tops unsure old new y was = record {
  safe = λ told.
      let told_old = subst (λ n. 0 < n) y.count told in
      let k = known_sync {E = E} (Ok x) (over m place tops) unsure old new y (was.fits told_old) refl in
      let s : KeepsSafe (known (over m place tops) old) (known (synced (over m place tops)) new) high = sync_safe k (λ leaf on j is. is) in
      ∥∥₁_elim (was.safe told_old) ∥∥₁_prop (λ safe. ∣ safe_step s safe ∣₁);
  fits = λ told. let told_old = subst (λ n. 0 < n) y.count told in (sync_steps {E = E} (Ok x) (over m place tops) unsure old new y (was.fits told_old)).fits (was.fits told_old);
}
rooted_sync (Err e) m place high doubts tops unsure old new y was = subst (λ (h : Holds). IsRooted m place high doubts tops unsure h) (sym y) was

pub none_refused : NoneIsRefused
none_refused m place high doubts unsure holds told was = ∥∥₁_elim (was.safe told) (λ a b. absurd a) (λ safe. nothing_among super_top safe.top)
