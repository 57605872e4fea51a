use Rattle.fo_cells.proofs.Waiting.{await_adds}
use Rattle.fo_cells.proofs.Removing.{removal_adds, removal_has, nothing_brought}
use Rattle.fo_cells.proofs.Super.{remains_slot}
use Rattle.fo_cells.proofs.SafeSteps.{put_safe, await_safe}
use Rattle.fo_cells_calls.proofs.Images.{told_slot, told_have}
use Rattle.fo_cells_calls.proofs.laws.removes.Goals as goal

pub returns : goal.returns
returns g c = record {
  at_once = λ told at i leaf doubts u set top current other epoch safe. let k = put_safe u safe.kept top current other epoch (nothing_brought (g.C.Cells.known c.args._old.now) (((g.C.Cells.known c.args._old.now).memory at).slot i)) in (told_slot told (λ image b. b) (removal_adds u set other k.supers), told_have (removal_has u set));
  waits = λ told at i leaf doubts w may safe. let k = await_safe w may in told_slot told (λ image b. b) (remains_slot may.1 (await_adds w) k.supers);
}
