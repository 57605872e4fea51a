use Rattle.fo_cells_fresh.proofs.Some.{some_whole}
use Rattle.fo_cells_fresh.proofs.laws.some_is_whole.Goals as goal

pub returns : goal.returns
returns c = some_whole
