use Rattle.fo_cells_queue.proofs.Queue.{queue_still}
use Rattle.fo_cells_queue.proofs.laws.queue_stays.Goals as goal

pub returns : goal.returns
returns g c = record { still = λ old new high before after roots past queue s k labels q. queue_still s k labels q }
