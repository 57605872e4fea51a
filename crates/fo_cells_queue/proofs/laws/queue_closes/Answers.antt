use Rattle.fo_cells_epochs.proofs.of_cells.SafeSteps.{close_safe}
use Rattle.fo_cells_epochs.proofs.TreeSteps.{close_trees}
use Rattle.fo_cells_epochs.proofs.Epochs.{by_trees, outside_memory}
use Rattle.fo_cells_queue.proofs.Closing.{past_closed, now_closed, past_done, now_done, closed_relabels, closed_active, closed_held}
use Rattle.fo_cells_queue.proofs.laws.queue_closes.Goals as goal

pub returns : goal.returns
returns g c = record {
  earlier = λ epoch b after high bs rs queue high_of doubts active roots old new n set unclear read h q.
      let x = past_closed h.trees q set n in
      let r = closed_relabels h.trees x.0 in
      (by_trees (close_safe r (outside_memory h.safe h.trees b (closed_active h.trees x.0)) unclear) (close_trees h.trees r (closed_active h.trees x.0) (closed_held h.trees x.0)) read h, x.1);
  now = λ b after high bs rs high_of doubts active roots old new n set unclear begun read h q.
      let x = now_closed h.trees begun q set n in
      let r = closed_relabels h.trees x.0 in
      (by_trees (close_safe r (outside_memory h.safe h.trees b (closed_active h.trees x.0)) unclear) (close_trees h.trees r (closed_active h.trees x.0) (closed_held h.trees x.0)) read h, x.1);
  done = λ epoch after high rs queue active roots k q. past_done q;
  now_done = λ after high rs active roots k q. now_done q;
}
