use Rattle.std.proofs.Common.{◌∙◌, sym}
use Rattle.std.proofs.lemmas.Bool.{false≢true}
use Rattle.fo_image.specs.Format.{header_fields, HeaderHolds}
use Rattle.fo_image.proofs.Answering.{refused, parts_are}
use Rattle.fo_image.proofs.blocks.read_header.Goals as goal

pub returns-else-is_spelled : goal.returns-else-is_spelled
returns-else-is_spelled c =
    let v = c.header_of-header.result in
    refused 8192 header_fields HeaderHolds _ v c.args.block.now c.header_of-header.ensures
    (λ s. false≢true (sym c.if-is_spelled.false ∙ c.is_spelled.ensures.1 (parts_are 8192 header_fields HeaderHolds v _ c.args.block.now c.requires c.parts_of_header.ensures.spelled s)))
