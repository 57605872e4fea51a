use Rattle.test_dir.proofs.Empty.{records_over}
use Rattle.test_dir.proofs.records.letters.Goals as goal

pub thirds-requires-clause-over : goal.thirds-requires-clause-over
thirds-requires-clause-over g c = records_over _ c.in_ok-records.ensures
