use Rattle.fo_cells.proofs.SafeSteps.{write_safe, label_safe, sync_safe, end_safe, fire_safe}
use Rattle.fo_cells_epochs.proofs.TreeSteps.{write_trees, label_trees, sync_trees, end_trees, fire_trees}
use Rattle.fo_cells_epochs.proofs.Epochs.{by_trees}
use Rattle.fo_cells_epochs.proofs.laws.device_keeps_epochs.Goals as goal

pub returns : goal.returns
returns c = record {
  write = λ at f old new w names current super waits high high_of doubts active roots read h. by_trees (write_safe w (current high) super waits) (write_trees h.trees w names) read h;
  label = λ old new w high high_of doubts active roots read h. by_trees (label_safe w) (label_trees h.trees w) read h;
  sync = λ old new w waits high high_of doubts active roots read h. by_trees (sync_safe w waits) (sync_trees h.trees w) read h;
  end = λ old new w waits high high_of doubts active roots read h. by_trees (end_safe w waits) (end_trees h.trees w) read h;
  cleared = λ at i leaf old new r other waits high high_of doubts active roots read h. by_trees (fire_safe r other waits) (fire_trees h.trees r) read h;
}
