use Rattle.std.proofs.Common.{◌≡◌, ◌↔◌, true, subst}
use Rattle.test_blocks.specs.declared.silent.Block.{Block}
use Rattle.test_blocks.specs.Silent.{IsTopBlock}
use Rattle.test_blocks.proofs.silent.CarelessBlocks.is_top.Goals as goal

pub returns : goal.returns
returns c = subst (λ (z : Block). (c.is_top.result ≡ true) ↔ IsTopBlock z c.args.i) c.block-block.ensures.is c.is_top.ensures
