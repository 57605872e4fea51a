use Rattle.fo_image.specs.Format.{arena_line_fields, ArenaLineHolds}
use Rattle.fo_image.proofs.Answering.{written}
use Rattle.fo_image.proofs.arena.write_arena_line.Goals as goal

pub returns : goal.returns
returns c = written 24 arena_line_fields ArenaLineHolds c.args.v.now _ _ _ c.requires.spelled c.parts_of_arena_line.ensures.fit c.parts_of_arena_line.ensures.spelled c.requires.length c.write_parts.ensures
