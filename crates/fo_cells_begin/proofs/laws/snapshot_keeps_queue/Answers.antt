use Rattle.fo_cells_begin.proofs.Begin.{begun_queue}
use Rattle.fo_cells_begin.proofs.laws.snapshot_keeps_queue.Goals as goal

pub returns : goal.returns
returns g c = record { begun = λ root next high high_of after_high doubts after roots past queue first new x before now q. begun_queue x before.safe before.trees now.trees q }
