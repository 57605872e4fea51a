use Rattle.test_tree.proofs.Rigs.{rig_new}
use Rattle.test_tree.proofs.Aparts.{apart_new}
use Rattle.test_tree.proofs.shorter.grown.Goals as goal

pub build-requires-clause-rig : goal.build-requires-clause-rig
build-requires-clause-rig g c = rig_new _ c.source-ways.result c.source-ways.ensures

pub build-requires-clause-apart : goal.build-requires-clause-apart
build-requires-clause-apart g c = apart_new _ c.source-ways.result c.source-ways.ensures c.requires.none c.requires.begun
