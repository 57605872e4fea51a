use Rattle.fo_vac_open.proofs.Held.{held_is}
use Rattle.fo_vac_open.proofs.laws.what_is_held_is_read.Goals as goal

pub returns : goal.returns
returns c = held_is
