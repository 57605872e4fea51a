use Rattle.fo_cells.proofs.Putting.{put_adds}
use Rattle.fo_cells.proofs.Bytes.{bytes_adds}
use Rattle.fo_cells.proofs.Waiting.{more_adds}
use Rattle.fo_cells.proofs.Super.{remains_slot, remains_bytes, remains_nothing}
use Rattle.fo_cells.proofs.SafeSteps.{put_safe, bytes_safe, more_safe}
use Rattle.fo_cells_calls.proofs.Images.{told_slot, told_bytes, told_nothing, bytes_are}
use Rattle.fo_cells_calls.proofs.laws.puts.Goals as goal

pub returns : goal.returns
returns g c = record {
  bytes = λ told at bytes doubts u current other safe. let k = bytes_safe u current other in bytes_are u.memory.here (told_bytes told (λ image b on j w no. b on j w.0 (λ leaf h. no (leaf, h))) (remains_bytes other (bytes_adds u) k.supers));
  slot = λ told at i s doubts u top current other epoch brings safe. let k = put_safe u safe.kept top current other epoch brings in told_slot told (λ image b. b) (remains_slot other (put_adds u) k.supers);
  wait = λ told doubts w waits safe. let k = more_safe {high = (g.C.Cells.rest c.args._old.now).high} w waits in told_nothing told (remains_nothing (more_adds w) k.supers);
}
