use Rattle.fo_cells_out.proofs.Steps.{puts_moves}
use Rattle.fo_cells_epochs.proofs.TreeSteps.{put_trees}
use Rattle.fo_cells_steps.proofs.of_cells_queue.Queue.{moves_view}
use Rattle.fo_cells_steps.proofs.Facts.{held_stands}
use Rattle.fo_cells_puts.proofs.Puts.{same_made}
use Rattle.fo_cells_puts.proofs.Linking.{filled_made}
use Rattle.fo_cells_puts.proofs.Coming.{linked_made, come_made, left_made}
use Rattle.fo_cells_puts.proofs.laws.puts_keep_all.Goals as goal

pub returns : goal.returns
returns g c = record {
  same = λ at i s k d f x unsure holds p holder there back b all. same_made p holder there back b all;
  filled = λ at i s k d f x unsure holds p fills b all. filled_made all p b fills;
  linked = λ at i y s k d f x unsure holds p new b all. linked_made all b p new;
  came = λ at i top x y s rs k d f used unsure holds p m q b all. come_made all b p m q;
  lost = λ at i x z s rs k d f used unsure holds p m q b all. left_made all b p m q;
  moves = λ at i s k d f unsure holds u fewer tops epoch put all. moves_view (puts_moves u all.all.epochs.safe.kept) (put_trees all.all.epochs.trees u all.all.epochs.safe.kept tops fewer epoch (λ z e. held_stands all z (put z e)));
}
