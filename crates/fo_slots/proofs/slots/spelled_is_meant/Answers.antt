use Rattle.fo_slots.proofs.Putting.{only}
use Rattle.fo_slots.proofs.slots.spelled_is_meant.Goals as goal

pub returns : goal.returns
returns c = only
