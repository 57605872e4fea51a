use Rattle.test_dir.proofs.Empty.{entries_over}
use Rattle.test_dir.proofs.looking.free.Goals as goal

pub free_pair-requires-clause-over : goal.free_pair-requires-clause-over
free_pair-requires-clause-over g c = entries_over _ c.in_ok-entries.ensures
