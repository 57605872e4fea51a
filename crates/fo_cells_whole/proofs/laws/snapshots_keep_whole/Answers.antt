use Rattle.fo_cells_whole.proofs.Supers.{snapshot_whole, abandon_whole}
use Rattle.fo_cells_whole.proofs.laws.snapshots_keep_whole.Goals as goal

pub returns : goal.returns
returns c = record {
  begun = λ s root next first k d f unsure later before holds x nowhere low used all. snapshot_whole x nowhere low used all;
  abandoned = λ next first k d f unsure later before holds o nowhere low young used certain all. abandon_whole o nowhere low young used certain all;
}
