use Rattle.fo_ports_plain.specs.Parts.{parts}
use Rattle.test_names.proofs.Staying.{blocks_begin, none_begin}
use Rattle.test_epochs.proofs.epochs.next_epoch.Goals as goal

pub returns-clause-blocks : goal.returns-clause-blocks
returns-clause-blocks c = blocks_begin (parts c.args.on.now) (parts c.begin_epoch.new.self) c.begin_epoch.ensures c.requires.blocks

pub returns-clause-none : goal.returns-clause-none
returns-clause-none c = none_begin (parts c.args.on.now) (parts c.begin_epoch.new.self) c.begin_epoch.ensures c.requires.none
