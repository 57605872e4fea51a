use Rattle.fo_world.proofs.Going.{write-goes, create-goes, remove-goes, change-goes, along-other}
use Rattle.fo_world.proofs.laws.changes_stay_local.Goals as goal

pub returns : goal.returns
returns c = record { write = write-goes; create = create-goes; remove = remove-goes; change = change-goes; others = along-other }
