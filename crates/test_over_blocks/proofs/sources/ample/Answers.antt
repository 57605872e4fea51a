use Rattle.test_over_blocks.proofs.Empty.{empty_over}
use Rattle.test_over_blocks.proofs.sources.ample.Goals as goal

pub prepare-requires-clause-over : goal.prepare-requires-clause-over
prepare-requires-clause-over g c = empty_over _ c.in_ok-source.ensures
