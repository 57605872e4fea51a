-- A file whose entries stand in a block that was owned.
use Rattle.std.specs.Prelude.{◌≡◌, ◌+◌, ◌%◌, ◌≤◌, ℕ}
use Rattle.fo_tree_open.specs.of_image.declared.types.State.TheVariants.{Live}
use Rattle.fo_tree_open.specs.of_ports.State.{State}
use Rattle.fo_tree_open.specs.Open.{HasEntry}
use Rattle.fo_files_dir.specs.declared.dir.DirAt.{DirAt}
use Rattle.fo_files_dir.specs.declared.dir.FileAt.{FileAt}

-- A pair of entries has slots j and j + 1 of this block: a data block, pinned, live, and of the current epoch, which is a root block or a leaf
-- of entries.
pub record IsPairAt (s : State) (at j : ℕ) : Type 0 where
  pub is_one : s.is_block at
  pub is_pinned : s.pinned at
  pub live : (s.label at).state ≡ Live
  pub current : (s.label at).epoch ≡ s.high
  pub first : HasEntry (s.label at).kind j
  pub second : HasEntry (s.label at).kind (j + 1)

-- The entries of a directory stand there, and the rank leaves room for its sources.
pub record IsDirAt (s : State) (d : DirAt) : Type 0 where
  pub pair : IsPairAt s d.at d.slot
  pub ranked : d.rank % 32 ≡ 8
  pub least : 40 ≤ d.rank
  pub most : d.rank ≤ 2120

-- So do those of a file.
pub record IsFileAt (s : State) (f : FileAt) : Type 0 where
  pub pair : IsPairAt s f.at f.slot
  pub ranked : f.rank % 32 ≡ 8
  pub most : f.rank ≤ 2120
