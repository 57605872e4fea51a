use Rattle.std.proofs.Common.{⊎_elim}
use Rattle.fo_cells.specs.Safe.{KeepsSafe}
use Rattle.fo_cells.proofs.Writing.{write_adds}
use Rattle.fo_cells.proofs.Settling.{label_adds, sync_adds, end_adds}
use Rattle.fo_cells.proofs.Firing.{fire_adds}
use Rattle.fo_cells.proofs.Removing.{close_adds, one_fill}
use Rattle.fo_cells.proofs.Super.{remains_nothing}
use Rattle.fo_cells.proofs.SafeSteps.{write_safe, label_safe, sync_safe, end_safe, fire_safe, close_safe}
use Rattle.fo_cells_calls.proofs.Images.{told_nothing, told_fills}
use Rattle.fo_cells_calls.proofs.Filling.{one_cleared}
use Rattle.fo_cells_calls.proofs.laws.device_rests.Goals as goal

pub returns : goal.returns
returns g c =
    let old = g.C.Cells.known c.args._old.now in
    let new = g.C.Cells.known c.args._new.now in
    let x = g.C.Cells.rest c.args._old.now in
    let y = g.C.Cells.rest c.args._new.now in record {
      write = λ told at f w current super waits. let k = write_safe w current super waits in told_nothing told (remains_nothing (write_adds w) k.supers);
      device = λ told steps waits. ⊎_elim
          (λ w. let k : KeepsSafe old new 0 = label_safe w in told_nothing told (remains_nothing (label_adds w) k.supers))
          (λ r. ⊎_elim
          (λ w. let k : KeepsSafe old new 0 = sync_safe w waits in told_nothing told (remains_nothing (sync_adds w) k.supers))
          (λ w. let k : KeepsSafe old new 0 = end_safe w waits in told_nothing told (remains_nothing (end_adds w) k.supers))
          r)
          steps;
      clearing = λ told at i leaf r other waits others. let k : KeepsSafe old new 0 = fire_safe r other waits in (told_nothing told (remains_nothing (fire_adds r) k.supers), told_fills told (one_cleared x y others (one_fill r other k.supers)));
      closing = λ told b l r outside unclear. let k : KeepsSafe old new 0 = close_safe r outside unclear in told_nothing told (remains_nothing (close_adds r) k.supers);
    }
