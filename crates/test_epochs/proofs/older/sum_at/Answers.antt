use Rattle.fo_ports_plain.specs.Parts.{parts}
use Rattle.test_names.proofs.Staying.{blocks_stay}
use Rattle.test_epochs.proofs.older.sum_at.Goals as goal

pub returns-clause-blocks : goal.returns-clause-blocks
returns-clause-blocks c = blocks_stay (parts c.args.on.now) (parts c.sum_there.new.on) c.sum_there.ensures.keeps c.requires.blocks
