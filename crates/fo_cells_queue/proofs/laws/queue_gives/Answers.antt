use Rattle.fo_cells_queue.proofs.Queue.{given_outside, queue_given}
use Rattle.fo_cells_queue.proofs.laws.queue_gives.Goals as goal

pub returns : goal.returns
returns g c = record {
  outside = λ at high d p high_of doubts old new active roots past queue x usable h q. given_outside x usable h.safe h.trees q;
  given = λ at high d p high_of doubts old new active roots past queue x usable live young inside h q. queue_given x usable live young inside h.safe h.trees q;
}
