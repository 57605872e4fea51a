use Rattle.fo_cells_held.proofs.Timed.{timed_change}
use Rattle.fo_cells_held.proofs.laws.labels_are_timed.Goals as goal

pub returns : goal.returns
returns c = record {
  change = λ m n f g t u holds k same h. timed_change k same h;
  set = λ m f t holds b h lt l is. h.set b lt l is;
}
