-- What was found for a new file.
use Rattle.std.specs.Prelude.{◌≡◌, ◌*◌, ◌≤◌, ℕ, true, List, length}
use Rattle.fo_image.specs.declared.record.Record.{Record}
use Rattle.fo_image.specs.Record.{RecordHolds, RootRecordHolds}
use Rattle.fo_ports.specs.State.{State}
use Rattle.fo_dir_read.specs.Names.{leaf_count}
use Rattle.fo_files_along.specs.of_files_at.declared.at.Way.{Way}
use Rattle.fo_files_along.specs.of_files_at.Way.{IsWay}
use Rattle.fo_files_along.specs.Along.{with_touched}
use Rattle.fo_files_create_look.specs.declared.found.Found.{Found}

-- A directory was found at the end of a trail, and a place in it for a new file with this record: the way to it, where its record says that the
-- file's maker changed it; a pair, and a leaf of records, within the directory's sources or right behind their last leaf.
pub record IsFound (s : State) (root : ℕ) (trail : List ℕ) (named : Record) (f : Found) : Type 0 where
  pub was : Way
  pub was_found : IsWay s root trail was
  pub is_dir : was.file.dir ≡ true
  pub way : IsWay s root trail f.way
  pub steps : f.way.steps ≡ was.steps
  pub file : f.way.file ≡ with_touched named.muid named.mtime was.file
  pub of_root : length trail ≡ 0 → RootRecordHolds f.way.file.named
  pub named_is : f.named ≡ named
  pub holds : RecordHolds named
  pub pair : f.spot.pair ≤ 102 * leaf_count was.file.first.size
  pub leaf : f.spot.leaf ≤ leaf_count was.file.second.size
