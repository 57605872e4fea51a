use Rattle.fo_cells_turns.proofs.Opening.{open_made}
use Rattle.fo_cells_turns.proofs.laws.opening_holds.Goals as goal

pub returns : goal.returns
returns c = λ k f unsure holds o. open_made o
