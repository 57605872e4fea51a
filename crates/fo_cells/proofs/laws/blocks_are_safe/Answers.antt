use Rattle.std.specs.List.{Contains}
use Rattle.fo_cells.specs.Safe.{KeepsSafe}
use Rattle.fo_cells.proofs.Giving.{give_adds}
use Rattle.fo_cells.proofs.Removing.{close_adds, give_super}
use Rattle.fo_cells.proofs.Indexing.{index_adds, index_safe}
use Rattle.fo_cells.proofs.Super.{remains_block, remains_nothing}
use Rattle.fo_cells.proofs.Safe.{safe_step}
use Rattle.fo_cells.proofs.SafeSteps.{close_safe}
use Rattle.fo_cells.proofs.SafeCalls.{give_safe}
use Rattle.fo_cells.proofs.laws.blocks_are_safe.Goals as goal

pub returns : goal.returns
returns c = record {
  given = λ at high d p tops doubts old new g other epoch below top stand waits safe. (remains_block other (give_adds g (λ t. Contains tops t) stand) (give_super g other), give_safe g other epoch below top waits safe);
  indexed = λ at high q doubts old new x top epoch unwaited safe. (index_adds x, index_safe x top epoch unwaited safe);
  closed = λ b l old new r outside unclear. let k : KeepsSafe old new 0 = close_safe r outside unclear in (remains_nothing (close_adds r) k.supers, λ high doubts safe. safe_step (close_safe r outside unclear) safe);
}
