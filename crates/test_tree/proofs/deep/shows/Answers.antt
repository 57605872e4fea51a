use Rattle.test_tree.proofs.Rigs.{rig_new}
use Rattle.test_tree.proofs.deep.shows.Goals as goal

pub run-requires-clause-rig : goal.run-requires-clause-rig
run-requires-clause-rig c = rig_new _ c.source-ways.result c.source-ways.ensures
