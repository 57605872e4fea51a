-- The fields of a cache but its device, and what that holds.
use Rattle.std.specs.Prelude.{ℕ}
use Rattle.fo_disk.specs.Disk.{Content as Holds}
use Rattle.fo_mind.specs.declared.mind.Mind.{Mind}
use Rattle.fo_mind.specs.Parts.{Parts}

abbrev pub parts : Mind → Holds → ℕ → Parts
parts m disk faults = record {
  held = m.buffers;
  turns = m.order;
  region = m.labels;
  facts = m.facts;
  waits = m.waits.items;
  clears = m.clears.items;
  one = m.one;
  one_bytes = m.one_bytes;
  doubt = m.doubt;
  next = m.next;
  granted = m.granted;
  spare = m.spare;
  pins = m.pins;
  room = m.room;
  removals = m.queue.removals;
  walk = m.walk;
  links = m.links;
  disk = disk;
  faults = faults;
}
