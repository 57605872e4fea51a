use Rattle.fo_ports_plain.specs.Parts.{parts}
use Rattle.test_names.proofs.Staying.{blocks_stay, in_memory}
use Rattle.test_epochs.proofs.epochs.first.Goals as goal

pub change_first-requires-clause-memory : goal.change_first-requires-clause-memory
change_first-requires-clause-memory c = λ b. in_memory (parts b)

pub returns-clause-blocks : goal.returns-clause-blocks
returns-clause-blocks c = blocks_stay (parts c.args.on.now) (parts c.change_first.new.on) c.change_first.ensures.keeps c.requires.blocks
