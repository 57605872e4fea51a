use Rattle.fo_cells_all.proofs.All.{beside, beside_step, together}
use Rattle.fo_cells_all.proofs.laws.memory_keeps_all.Goals as goal

pub returns : goal.returns
returns g c = record { kept = λ k d f x unsure holds s e q h. together (e h.epochs) (q h.epochs h.queue) (beside_step s (beside h)) }
