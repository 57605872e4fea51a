use Rattle.fo_vac_open.proofs.Held.{stays_in_arena}
use Rattle.fo_vac_open.proofs.laws.archives_stay_in_the_arena.Goals as goal

pub returns : goal.returns
returns c = stays_in_arena
