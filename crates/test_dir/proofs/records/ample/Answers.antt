use Rattle.test_dir.proofs.Empty.{records_over}
use Rattle.test_dir.proofs.records.ample.Goals as goal

pub has_two-requires-clause-over : goal.has_two-requires-clause-over
has_two-requires-clause-over g c = records_over _ c.in_ok-records.ensures
