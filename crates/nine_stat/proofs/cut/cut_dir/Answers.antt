use Rattle.nine_stat.specs.Cut.{records}
use Rattle.nine_stat.proofs.cut.cut_dir.Goals as goal

pub returns-in-Ok-clause-written : goal.returns-in-Ok-clause-written
unfolding records
returns-in-Ok-clause-written c = c.in-Ok.ensures.ok
