use Rattle.fo_cells_snapshot.proofs.Abandon.{abandon_made}
use Rattle.fo_cells_snapshot.proofs.Snapshot.{snapshot_made}
use Rattle.fo_cells_snapshot.proofs.laws.snapshot_holds.Goals as goal

pub returns : goal.returns
returns c = record {
  begun = λ s root next first k d f unsure later before holds x all. snapshot_made x all;
  abandoned = λ next first k d f unsure later before holds o all. abandon_made o all;
}
