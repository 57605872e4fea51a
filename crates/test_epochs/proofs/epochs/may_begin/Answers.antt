use Rattle.fo_ports_plain.specs.Parts.{parts}
use Rattle.test_names.proofs.Staying.{blocks_stay}
use Rattle.test_epochs.proofs.epochs.may_begin.Goals as goal

pub returns-clause-blocks : goal.returns-clause-blocks
returns-clause-blocks c = blocks_stay (parts c.args.on.now) (parts c.has_room.new.on) c.has_room.ensures.keeps c.requires.blocks
