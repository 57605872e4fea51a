use Rattle.fo_cells_queue.proofs.Closing.{queue_raised}
use Rattle.fo_cells_queue.proofs.laws.queue_stays_low.Goals as goal

pub returns : goal.returns
returns g c = record { low = λ low high active roots kept past queue k x q. queue_raised x q }
