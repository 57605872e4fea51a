use Rattle.fo_cells_shown.proofs.Versions.{syncs_none, syncs_settled}
use Rattle.fo_cells_shown.proofs.device.settle_live.Goals as goal

pub returns-clause-versions : goal.returns-clause-versions
returns-clause-versions g c = syncs_none c.sync.result _ _ c.sync.ensures.state

pub returns-clause-settled : goal.returns-clause-settled
returns-clause-settled g c = λ kept f all. syncs_settled c.sync.result kept f _ _ _ _ c.sync.ensures.state all
