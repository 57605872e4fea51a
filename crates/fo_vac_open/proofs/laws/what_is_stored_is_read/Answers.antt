use Rattle.fo_vac_open.proofs.Stored.{stored_is}
use Rattle.fo_vac_open.proofs.laws.what_is_stored_is_read.Goals as goal

pub returns : goal.returns
returns c = stored_is
