use Rattle.fo_ports_plain.specs.Parts.{parts}
use Rattle.test_names.proofs.Staying.{blocks_stay}
use Rattle.test_epochs.proofs.epochs.second.Goals as goal

pub are_copied-requires-clause-blocks : goal.are_copied-requires-clause-blocks
are_copied-requires-clause-blocks c = blocks_stay (parts c.begin_epoch.new.on) (parts c.change_again.new.on) c.change_again.ensures.keeps c.begin_epoch.ensures.blocks
