use Rattle.fo_image.specs.Format.{arena_head_fields, ArenaHeadHolds}
use Rattle.fo_image.proofs.Answering.{written}
use Rattle.fo_image.proofs.arena.write_arena_head.Goals as goal

pub returns : goal.returns
returns c = written 8192 arena_head_fields ArenaHeadHolds c.args.v.now _ _ _ tt c.parts_of_arena_head.ensures.fit c.parts_of_arena_head.ensures.spelled c.requires c.write_parts.ensures
