use Rattle.test_blocks.proofs.silent_calls.CarelessBlocksBlocks.get.Goals as goal

pub returns-then-copy_into-clause-names : goal.returns-then-copy_into-clause-names
returns-then-copy_into-clause-names c = λ i below lt leads. (c.args.self.now.sound.each c.args.at (c.copy_into.ensures.copied c.if-copy_into.true).0.1).within.each i below leads
