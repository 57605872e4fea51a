use Rattle.fo_world.proofs.Fits.{write-fits, create-fits, remove-fits, change-fits}
use Rattle.fo_world.proofs.laws.worlds_stay_within_limits.Goals as goal

pub returns : goal.returns
returns c = record { write = write-fits; create = create-fits; remove = remove-fits; change = change-fits }
