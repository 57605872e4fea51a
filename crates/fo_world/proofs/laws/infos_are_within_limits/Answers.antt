use Rattle.fo_world.proofs.Fits.{info-fits, find-fits, parent-fits, next_name-fits}
use Rattle.fo_world.proofs.laws.infos_are_within_limits.Goals as goal

pub returns : goal.returns
returns c = record { info = info-fits; find = find-fits; parent = parent-fits; next = next_name-fits }
