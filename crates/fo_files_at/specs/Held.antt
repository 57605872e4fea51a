-- A file that was found.
use Rattle.std.specs.Prelude.{◌≡◌, ◌+◌, ◌*◌, ◌%◌, ◌^◌, ◌≤◌, ℕ, Bool, true, false, []}
use Rattle.fo_image.specs.declared.types.Entry.{Entry}
use Rattle.fo_image.specs.Format.{EntryHolds}
use Rattle.fo_image.specs.Record.{RecordHolds}
use Rattle.fo_ports.specs.State.{State}
use Rattle.fo_dir_read.specs.Pairs.{LeadsWithin}
use Rattle.fo_tree.specs.declared.source.Source.{Source}
use Rattle.fo_tree.specs.of_tree_open.Open.{IsFit, tree_of}
use Rattle.fo_files_at.specs.declared.file.File.{File}

-- The record is within its limits, and the two entries can be spelled and lead to data blocks; they stand in a data block. A source of
-- records below them has the rank of one, and none is below the least rank.
pub record FileHolds (s : State) (f : File) : Type 0 where
  pub named : RecordHolds f.named
  pub first : EntryHolds f.first × LeadsWithin s f.first
  pub second : EntryHolds f.second × LeadsWithin s f.second
  pub stands : s.is_block f.leaf
  pub ranked : f.rank % 32 ≡ 8
  pub high : f.rank ≤ 2120

-- the tag of a file's data or entries, or of a directory's records
abbrev pub tag_for : ℕ → Bool → ℕ
tag_for number false = 32 + 2 * number
tag_for number true = 33 + 2 * number

-- The source of an entry, of this tag, with leaves of this rank, and up to this length.
pub record IsSource (e : Entry) (tag rank limit : ℕ) (s : Source) : Type 0 where
  pub tree : s.ways.tree ≡ tree_of e rank
  pub generation : s.ways.generation ≡ e.generation
  pub limit_is : s.ways.limit ≡ limit
  pub kept : s.ways.kept.items ≡ []
  pub fits : IsFit e tag limit
