use Rattle.many_names.proofs.Quieting.{made_quiet}
use Rattle.many_names.proofs.disks.zeros.Goals as goal

pub returns-clause-quiet : goal.returns-clause-quiet
returns-clause-quiet c = made_quiet _ c.new.result c.new.ensures.holds
