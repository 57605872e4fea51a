use Rattle.fo_cells_shown.proofs.Shown.{stands_within}
use Rattle.fo_cells_whole.proofs.laws.whole_is_within.Goals as goal

pub returns : goal.returns
returns g c = λ k f unsure holds all. stands_within k.high k.doubts k.mind holds all.made.all.epochs.safe
