use Rattle.fo_cells.proofs.Safe.{all_set}
use Rattle.fo_cells_calls.proofs.Images.{told_all}
use Rattle.fo_cells_calls.proofs.laws.settles.Goals as goal

pub returns : goal.returns
returns g c = record { all = λ set. told_all (all_set set) }
