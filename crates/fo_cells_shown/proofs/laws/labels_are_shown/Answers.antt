use Rattle.fo_cells_shown.proofs.Labels.{labelled}
use Rattle.fo_cells_shown.proofs.laws.labels_are_shown.Goals as goal

pub returns : goal.returns
returns c = labelled
