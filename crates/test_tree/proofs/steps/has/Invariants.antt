use Rattle.test_tree.specs.Rig.{Stands}
use Rattle.test_tree.proofs.steps.has.Given as goal

abbrev pub invariant-loop-place : goal.invariant-loop-place
invariant-loop-place g l = Stands (g.B.Blocks.state l.on) l.ways
