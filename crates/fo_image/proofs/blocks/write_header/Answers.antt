use Rattle.fo_image.specs.Format.{header_fields, HeaderHolds}
use Rattle.fo_image.proofs.Answering.{written}
use Rattle.fo_image.proofs.blocks.write_header.Goals as goal

pub returns : goal.returns
returns c = written 8192 header_fields HeaderHolds c.args.v.now _ _ _ tt c.parts_of_header.ensures.fit c.parts_of_header.ensures.spelled c.requires c.write_parts.ensures
