use Rattle.fo_cells_gaps.proofs.Snapshot.{snapshot_loses, snapshot_shares}
use Rattle.fo_cells_gaps.proofs.laws.snapshot_loses_none.Goals as goal

pub returns : goal.returns
returns c = λ s root next first k d f unsure later before holds x nowhere low all. (snapshot_loses x nowhere low all, snapshot_shares x nowhere low all)
