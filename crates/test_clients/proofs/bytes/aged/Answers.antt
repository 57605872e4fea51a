use Rattle.test_blocks.specs.SilentParts.{parts}
use Rattle.test_clients.proofs.Aging.{aged}
use Rattle.test_clients.proofs.bytes.aged.Goals as goal

pub returns-clause-tree : goal.returns-clause-tree
returns-clause-tree c = aged (parts c.args.on.now) (parts c.begin_epoch.new.self) c.args.top c.args.leaf c.args.on.now.high c.begin_epoch.ensures.begins c.requires.tree
