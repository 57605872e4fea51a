use Rattle.fo_cells_held.proofs.Held.{buffers_change, flags_change, buffers_release, unheld_known}
use Rattle.fo_cells_held.proofs.laws.buffers_are_kept.Goals as goal

pub returns : goal.returns
returns c = record {
  change = λ m n f g h j unsure holds k fits x. (flags_change k fits, buffers_change k x);
  release = λ at m f h j r x. buffers_release r x;
  unheld = λ m f h unsure holds b fits x lt off. unheld_known fits x b lt off;
  clean = λ m f h b bytes x is. (x.clean b bytes is).1;
}
