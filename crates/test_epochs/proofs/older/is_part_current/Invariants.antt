use Rattle.test_names.specs.Root.{NoneComes}
use Rattle.test_epochs.proofs.older.is_part_current.Given as goal

abbrev pub invariant-loop-i : goal.invariant-loop-i
invariant-loop-i g l = NoneComes (g.B.Blocks.state l.on)
