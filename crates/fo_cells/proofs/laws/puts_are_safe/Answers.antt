use Rattle.fo_cells.proofs.Putting.{put_adds}
use Rattle.fo_cells.proofs.Bytes.{bytes_adds}
use Rattle.fo_cells.proofs.Super.{remains_slot, remains_bytes}
use Rattle.fo_cells.proofs.Safe.{safe_step}
use Rattle.fo_cells.proofs.SafeSteps.{put_safe, bytes_safe}
use Rattle.fo_cells.proofs.Removing.{removal_adds, removal_has, nothing_brought}
use Rattle.fo_cells.proofs.laws.puts_are_safe.Goals as goal

pub returns : goal.returns
returns c = record {
  slot = λ at i high s doubts old new u top current other epoch brings safe. let k = put_safe u safe.kept top current other epoch brings in (remains_slot other (put_adds u) k.supers, safe_step k safe);
  bytes = λ at high bytes doubts old new u current other safe. let k = bytes_safe u current other in (remains_bytes other (bytes_adds u) k.supers, safe_step k safe);
  removal = λ at i leaf high doubts old new u set top current other epoch safe. let k = put_safe u safe.kept top current other epoch (nothing_brought old ((old.memory at).slot i)) in (removal_adds u set other k.supers, removal_has u set, safe_step k safe);
}
