use Rattle.fo_cells_between.proofs.Counting.{counted_between}
use Rattle.fo_cells_between.proofs.Dropping.{dropped_between, dropped_loses}
use Rattle.fo_cells_between.proofs.laws.snapshot_ends.Goals as goal

pub returns : goal.returns
returns c = record {
  counts = λ s root next first k d f unsure before holds x h. counted_between x h;
  dropped = λ root next first k d f unsure before holds x h. dropped_between x h;
  lost = λ root next first k d f unsure before holds x h b lost. dropped_loses x h b lost;
}
