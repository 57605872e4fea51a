-- The way to a file.
use Rattle.std.specs.Prelude.{◌≡◌, ◌+◌, ◌≤◌, ◌<◌, ℕ, true, List, [], ◌∷◌}
use Rattle.fo_ports.specs.State.{State}
use Rattle.fo_dir_read.specs.Names.{leaf_count}
use Rattle.fo_files_at.specs.declared.at.Step.{Step}
use Rattle.fo_files_at.specs.declared.at.Way.{Way}
use Rattle.fo_files_at.specs.declared.file.File.{File}
use Rattle.fo_files_at.specs.Held.{FileHolds}

-- A directory on the way, whose leaf of entries has this rank, and a leaf of its records.
pub record IsStep (s : State) (rank : ℕ) (step : Step) : Type 0 where
  pub holds : FileHolds s step.dir
  pub ranked : step.dir.rank ≡ rank
  pub high : 40 ≤ rank
  pub is_dir : step.dir.dir ≡ true
  pub within : step.leaf < leaf_count step.dir.second.size

-- the file to which steps to a file go first: that of the first step, or the file
abbrev pub first_of : List Step → File → File
first_of [] file = file
first_of (step ∷ steps) file = step.dir

-- From a file whose leaf of entries has this rank these steps go to this file, each to that with the next number of the trail.
abbrev pub Follows : State → ℕ → List Step → File → List ℕ → Type 0
Follows s rank [] file [] = FileHolds s file × (file.rank ≡ rank)
Follows s rank [] file (q ∷ trail) = ⊥
Follows s rank (step ∷ steps) file [] = ⊥
Follows s rank (step ∷ steps) file (q ∷ trail) = IsStep s rank step × ((first_of steps file).named.number ≡ q) × ((below : ℕ) × (below + 32 ≡ rank) × Follows s below steps file trail)

-- A way from the root directory, whose root block this is, along a trail of file numbers: as many steps as numbers, each a directory that
-- has the record of the next file, with the next number, in this leaf of its records; and each file's leaf of entries is 32 ranks below
-- that of its directory.
pub record IsWay (s : State) (root : ℕ) (trail : List ℕ) (w : Way) : Type 0 where
  pub follows : Follows s 2120 w.steps.items w.file trail
  pub starts : (first_of w.steps.items w.file).leaf ≡ root
