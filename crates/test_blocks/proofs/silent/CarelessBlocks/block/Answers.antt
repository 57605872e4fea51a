use Rattle.std.proofs.Common.{sym, subst}
use Rattle.test_blocks.specs.declared.silent.Block.{Block}
use Rattle.test_blocks.specs.Silent.{Good}
use Rattle.test_blocks.proofs.Updating.{block_is}
use Rattle.test_blocks.proofs.silent.CarelessBlocks.block.Goals as goal

pub returns-clause-good : goal.returns-clause-good
returns-clause-good c =
    let self = c.args.self.now in
    subst (λ (z : Block). Good self.count z.label.kind z.bytes) (sym (block_is self.blocks.items c.args.at c.index.result.now c.requires c.index.ensures)) (self.sound.each c.args.at c.requires)
