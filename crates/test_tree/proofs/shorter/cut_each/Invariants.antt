use Rattle.test_tree.specs.Linked.{NoneComes}
use Rattle.test_tree.proofs.shorter.cut_each.Given as goal

abbrev pub invariant-loop-len : goal.invariant-loop-len
invariant-loop-len g l = NoneComes (g.B.Blocks.state l.on)
