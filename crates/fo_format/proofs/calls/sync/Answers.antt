use Rattle.fo_format.proofs.Latest.{settles-latest, settles-quiet}
use Rattle.fo_format.proofs.calls.sync.Goals as goal

pub returns-in-Ok-clause-latest : goal.returns-in-Ok-clause-latest
returns-in-Ok-clause-latest g c = settles-latest (g.met.D.Disk.is_content c.args.device.now) c.in-Ok.ensures.state.holds

pub returns-in-Ok-clause-quiet : goal.returns-in-Ok-clause-quiet
returns-in-Ok-clause-quiet g c sure = settles-quiet (g.met.D.Disk.is_content c.args.device.now) c.in-Ok.ensures.state.holds sure
