use Rattle.std.specs.List.{Contains}
use Rattle.fo_cells.specs.Known.{Remains}
use Rattle.fo_cells.proofs.Clearing.{fills_more}
use Rattle.fo_cells.specs.Safe.{KeepsSafe}
use Rattle.fo_cells.proofs.Waiting.{await_adds, more_adds}
use Rattle.fo_cells.proofs.Firing.{fire_adds}
use Rattle.fo_cells.proofs.Super.{remains_slot, remains_nothing}
use Rattle.fo_cells.proofs.Safe.{safe_step}
use Rattle.fo_cells.proofs.SafeSteps.{await_safe, fire_safe, more_safe}
use Rattle.fo_cells.proofs.Removing.{one_fill}
use Rattle.fo_cells.proofs.laws.waits_are_safe.Goals as goal

pub returns : goal.returns
returns c = record {
  begins = λ at i leaf high doubts old new w may safe. let k = await_safe w may in (remains_slot may.1 (await_adds w) k.supers, safe_step k safe);
  cleared = λ at i leaf old new r other waits. let k : KeepsSafe old new 0 = fire_safe r other waits in ((remains_nothing (fire_adds r) k.supers, λ high doubts safe. safe_step (fire_safe r other waits) safe), one_fill r other k.supers);
  joined = λ at i leaf before first old new r other waits same fills. let k : KeepsSafe old new 0 = fire_safe r other waits in fills_more (λ b j. Contains before (b, j)) first.memory r other k.supers same (Remains first) fills;
  more = λ high doubts old new w waits safe. let k = more_safe w waits in (remains_nothing (more_adds w) k.supers, safe_step k safe);
}
