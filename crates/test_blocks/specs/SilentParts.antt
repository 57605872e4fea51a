-- The fields of blocks that tell nothing.
use Rattle.test_blocks.specs.declared.silent.CarelessBlocks.{CarelessBlocks}
use Rattle.test_blocks.specs.Silent.{Silent}

abbrev pub parts : CarelessBlocks → Silent
parts s = record {
  blocks = s.blocks.items;
  waits = s.waits.items;
  count = s.count;
  high = s.high;
  next = s.next;
  room = s.room;
  queued = s.queued;
}
