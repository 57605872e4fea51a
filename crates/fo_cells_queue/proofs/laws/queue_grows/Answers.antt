use Rattle.fo_cells_queue.proofs.Queue.{queue_moves}
use Rattle.fo_cells_queue.proofs.laws.queue_grows.Goals as goal

pub returns : goal.returns
returns g c = record { moved = λ at i high s high_of doubts old new before after roots past queue rs m k h q. queue_moves m k h.safe q }
