-- A plan that goes along a way.
use Rattle.std.specs.Prelude.{◌≡◌, ◌+◌, ◌*◌, ◌≤◌, ℕ, List, [], ◌∷◌, length, slice_index}
use Rattle.fo_ports.specs.State.{State}
use Rattle.fo_files_way.specs.of_files_at.declared.at.Step.{Step}
use Rattle.fo_files_way.specs.of_files_at.declared.file.File.{File}
use Rattle.fo_files_way.specs.of_files_at.Way.{first_of}
use Rattle.fo_files_way.specs.declared.add.Wanted.{Wanted}
use Rattle.fo_files_way.specs.declared.plan.Level.{Level}
use Rattle.fo_files_way.specs.declared.plan.Plan.{Plan}
use Rattle.fo_files_way.specs.Plan.{IsPlanned, IsEntries, Fulfils, most_for_levels}
use Rattle.fo_files_way.specs.Owns.{IsFreeOf}

-- A level is the leaf of a directory's entries that has this pair; the entry of these stands in block `above` of the plan, in the first slot of
-- the directory's own pair.
abbrev pub IsLeafOf : (above : ℕ) (dir : File) (pair : ℕ) → Level → Type 0
IsLeafOf above dir pair l = (w : Wanted) × IsEntries above dir pair w × Fulfils w l

-- Levels from number k on are those of steps to a file: of each directory the leaf that has the pair of the next file.
abbrev pub AreLeavesOf : ℕ → List Step → File → List Level → Type 0
AreLeavesOf k [] file [] = Unit {0}
AreLeavesOf k [] file (l ∷ rest) = ⊥
AreLeavesOf k (step ∷ steps) file [] = ⊥
AreLeavesOf k (step ∷ steps) file (l ∷ rest) = IsLeafOf k step.dir (first_of steps file).named.slot l × AreLeavesOf (k + 1) steps file rest

-- A plan of the steps to a file: a block more than steps, the first the root block in which the first file's pair stands, and a level a step. No
-- entry of a level stands in the last block, and a level takes at most five blocks.
pub record IsAlong (s : State) (steps : List Step) (file : File) (p : Plan) : Type 0 where
  pub planned : IsPlanned s p
  pub count : length p.at.items ≡ length steps + 1
  pub root : slice_index p.at.items 0 ≡ (first_of steps file).leaf
  pub leaves : AreLeavesOf 0 steps file p.levels.items
  pub free : (j : ℕ) → IsFreeOf p.levels.items (length steps) j
  pub most : most_for_levels p.levels.items ≤ 5 * length steps
