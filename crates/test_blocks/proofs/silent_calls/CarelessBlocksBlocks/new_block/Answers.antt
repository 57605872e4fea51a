use Rattle.std.proofs.Common.{◌-◌, ◌^◌, arith}
use Rattle.fo_image.specs.declared.types.Label.{Label}
use Rattle.fo_image.specs.declared.types.State.TheVariants.{Live}
use Rattle.fo_ports.specs.Blocks.{blank}
use Rattle.test_blocks.specs.SilentParts.{parts}
use Rattle.test_blocks.proofs.Giving.{given}
use Rattle.test_blocks.proofs.silent_calls.CarelessBlocksBlocks.new_block.Goals as goal

pub make-requires-clause-good : goal.make-requires-clause-good
make-requires-clause-good c = c.blank_block.ensures.good c.args.self.now.count

pub returns-clause-gives : goal.returns-clause-gives
returns-clause-gives c =
    let self = c.args.self.now in
    let block = c.blank_block.ensures in
    let l : Label = record { state = Live; kind = c.args.kind; tag = c.args.tag; epoch = self.high; closing = 2 ^ 32 - 1 } in
    let spare = c.requires.spare in
    given (parts self) (parts c.make.new.self) c.make.result c.blank_block.result (blank c.args.kind) l self.waiting self.begun (omega (arith, spare)) block.content block.label block.marks.0 c.make.ensures.at c.make.ensures.blocks c.make.ensures.rest
