use Rattle.test_dir.proofs.Empty.{records_over}
use Rattle.test_dir.proofs.looking.sure.Goals as goal

pub prepare-requires-clause-over : goal.prepare-requires-clause-over
prepare-requires-clause-over g c = records_over _ c.in_ok-records.ensures
