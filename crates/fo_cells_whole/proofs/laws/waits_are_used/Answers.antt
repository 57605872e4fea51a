use Rattle.fo_cells_whole.proofs.Certain.{used_by}
use Rattle.fo_cells_whole.proofs.laws.waits_are_used.Goals as goal

pub returns : goal.returns
returns g c = λ k f unsure holds all leaf on j is. used_by all.awaited leaf on j is
