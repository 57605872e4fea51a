use Rattle.fo_cells_fresh.proofs.Formatted.{formatted_alone}
use Rattle.fo_cells_fresh.proofs.Some.{alone_whole}
use Rattle.fo_cells_fresh.proofs.laws.formatted_is_whole.Goals as goal

pub returns : goal.returns
returns c = λ r time image labels unsure reads size fresh has. alone_whole unsure (formatted_alone reads size fresh has)
