use Rattle.fo_cells_whole.proofs.Tops.{none_refused}
use Rattle.fo_cells_whole.proofs.laws.no_tops_are_refused.Goals as goal

pub returns : goal.returns
returns c = none_refused
