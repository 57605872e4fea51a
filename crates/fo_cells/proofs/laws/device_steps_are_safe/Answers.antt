use Rattle.fo_cells.specs.Safe.{KeepsSafe}
use Rattle.fo_cells.proofs.Writing.{write_adds}
use Rattle.fo_cells.proofs.Settling.{label_adds, sync_adds, end_adds}
use Rattle.fo_cells.proofs.Super.{remains_nothing}
use Rattle.fo_cells.proofs.Safe.{safe_step}
use Rattle.fo_cells.proofs.SafeSteps.{write_safe, label_safe, sync_safe, end_safe}
use Rattle.fo_cells.proofs.laws.device_steps_are_safe.Goals as goal

pub returns : goal.returns
returns c = record {
  write = λ at f old new w current super waits. (remains_nothing (write_adds w) (write_safe w (current 0) super waits).supers, λ high doubts safe. safe_step (write_safe w (current high) super waits) safe);
  label = λ old new w. let k : KeepsSafe old new 0 = label_safe w in (remains_nothing (label_adds w) k.supers, λ high doubts safe. safe_step (label_safe w) safe);
  sync = λ old new w waits. let k : KeepsSafe old new 0 = sync_safe w waits in (remains_nothing (sync_adds w) k.supers, λ high doubts safe. safe_step (sync_safe w waits) safe);
  end = λ old new w waits. let k : KeepsSafe old new 0 = end_safe w waits in (remains_nothing (end_adds w) k.supers, λ high doubts safe. safe_step (end_safe w waits) safe);
}
