-- A record as it stands in bytes.
use Rattle.fo_image.specs.declared.record.Record.{Record}
use Rattle.fo_slots.specs.declared.records.Seen.{Seen}

abbrev pub as_record : Seen → Record
as_record s = record {
  name = s.name.now;
  number = s.number;
  slot = s.slot;
  generation = s.generation;
  vers = s.vers;
  mode = s.mode;
  atime = s.atime;
  mtime = s.mtime;
  uid = s.uid.now;
  gid = s.gid.now;
  muid = s.muid.now;
}
