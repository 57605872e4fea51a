-- The record of a new file.
use Rattle.std.specs.Prelude.{ℕ, List}
use Rattle.fo_image.specs.declared.record.Record.{Record}

-- the record of a new file, but for its number and its pair
abbrev pub new_record : (name : List ℕ) (mode : ℕ) (who uid gid : List ℕ) (now : ℕ) → Record
new_record name mode who uid gid now = record {
  name = name;
  number = 0;
  slot = 0;
  generation = 0;
  vers = 0;
  mode = mode;
  atime = now;
  mtime = now;
  uid = uid;
  gid = gid;
  muid = who;
}
