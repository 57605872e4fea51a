use Rattle.fo_cells_fresh.proofs.Several.{kept_whole, made_whole, some_rooted}
use Rattle.fo_cells_fresh.proofs.laws.several_are_whole.Goals as goal

pub returns : goal.returns
returns c = record { kept = kept_whole; made = made_whole; rooted = some_rooted }
