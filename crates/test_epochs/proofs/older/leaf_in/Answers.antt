use Rattle.fo_ports_plain.specs.Parts.{parts}
use Rattle.test_names.proofs.Staying.{blocks_stay, in_memory}
use Rattle.test_epochs.proofs.older.leaf_in.Goals as goal

pub leaf_at-requires-clause-memory : goal.leaf_at-requires-clause-memory
leaf_at-requires-clause-memory c = λ b. in_memory (parts b)

pub returns-clause-blocks : goal.returns-clause-blocks
returns-clause-blocks c = blocks_stay (parts c.args.on.now) (parts c.leaf_at.new.on) c.leaf_at.ensures.keeps c.requires.blocks
