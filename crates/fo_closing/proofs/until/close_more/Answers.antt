use Rattle.fo_closing.proofs.Taking.{closings_once}
use Rattle.fo_closing.proofs.until.close_more.Goals as goal

pub returns-in-Ok-clause-closes : goal.returns-in-Ok-clause-closes
returns-in-Ok-clause-closes g c = closings_once (g.D.Disk.state c.args.main.now).holds c.in-Ok.answer _ _ _ _ c.in-Ok.ensures.turned
