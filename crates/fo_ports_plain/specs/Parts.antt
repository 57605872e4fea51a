-- The fields of a device in memory.
use Rattle.fo_ports_plain.specs.declared.plain.PlainBlocks.{PlainBlocks}
use Rattle.fo_ports_plain.specs.Meaning.{Plain}

abbrev pub parts : PlainBlocks → Plain
parts s = record {
  blocks = s.blocks.items;
  held = s.held.items;
  waits = s.waits.items;
  seen = s.seen.items;
  made = s.made;
  high = s.high;
  root = s.root;
  spare = s.spare;
  next = s.next;
  room = s.room;
  queued = s.queued;
}
