use Rattle.fo_disk.proofs.Quiet.{latest-adds, sure-adds}
use Rattle.fo_format.proofs.calls.write.Goals as goal

pub returns-in-Ok-clause-latest : goal.returns-in-Ok-clause-latest
returns-in-Ok-clause-latest g c = latest-adds c.in-Ok.ensures.state.holds

pub returns-in-Ok-clause-sure : goal.returns-in-Ok-clause-sure
returns-in-Ok-clause-sure g c sure = sure-adds sure c.in-Ok.ensures.state.holds c.in-Ok.ensures.state.unsure
