use Rattle.std.proofs.Common.{◌-◌, ◌^◌, ap, arith}
use Rattle.fo_image.specs.declared.types.Label.{Label}
use Rattle.fo_image.specs.declared.types.State.TheVariants.{Live}
use Rattle.test_blocks.specs.declared.silent.Block.{Block}
use Rattle.test_blocks.specs.Silent.{block_at, content_of, memory}
use Rattle.test_blocks.specs.SilentParts.{parts}
use Rattle.test_blocks.proofs.Giving.{given}
use Rattle.test_blocks.proofs.silent_calls.CarelessBlocksBlocks.copy.Goals as goal

pub returns-clause-gives : goal.returns-clause-gives
returns-clause-gives c =
    let self = c.args.self.now in
    let is = c.copy_of-block.ensures.is in
    let l : Label = record (block_at self.blocks.items c.args.at).label { state = Live; epoch = self.high; closing = 2 ^ 32 - 1 } in
    let spare = c.requires.spare in
    given (parts self) (parts c.make.new.self) c.make.result c.copy_of-block.result (memory self.blocks.items c.args.at) l self.waiting self.begun (omega (arith, spare)) (record { bytes = ap (λ (z : Block). (content_of z).bytes) is; slots = λ i. ap (λ (z : Block). (content_of z).slot i) is }) (ap (λ (z : Block). z.label) is) (ap (λ (z : Block). z.apart) is) c.make.ensures.at c.make.ensures.blocks c.make.ensures.rest
