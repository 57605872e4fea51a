use Rattle.fo_image.specs.Format.{super_fields, SuperHolds}
use Rattle.fo_image.proofs.Answering.{written}
use Rattle.fo_image.proofs.blocks.write_super.Goals as goal

pub returns : goal.returns
returns c = written 8192 super_fields SuperHolds c.args.v.now _ _ _ c.requires.spelled c.parts_of_super_block.ensures.fit c.parts_of_super_block.ensures.spelled c.requires.length c.write_parts.ensures
