use Rattle.fo_tree_look.specs.Source.{Over}
use Rattle.test_tree_set.proofs.steps.has.Given as goal

abbrev pub invariant-loop-place : goal.invariant-loop-place
invariant-loop-place g l = Over (g.B.Blocks.state l.on) l.ways.tree l.ways.kept.items l.ways.limit
