-- The way to a file was owned, and what requests on files say alike.
use Rattle.std.specs.Prelude.{◌≡◌, ◌≢◌, ◌+◌, ◌-◌, ◌%◌, ◌^◌, ◌<◌, ℕ, List, length, get_or, slice_index, Option, MatchOption, ◌⊎◌}
use Rattle.fo_image.specs.declared.record.Record.{Record}
use Rattle.fo_ports.specs.State.{State, IsSettled}
use Rattle.fo_world.specs.declared.error.FileError.{FileError}
use Rattle.fo_world.specs.declared.error.FileError.TheVariants as error
use Rattle.fo_files_plan.specs.of_files_at.declared.file.File.{File}
use Rattle.fo_files_plan.specs.of_files_at.declared.at.Step.{Step}
use Rattle.fo_files_plan.specs.of_files_at.declared.at.Way.{Way}
use Rattle.fo_files_plan.specs.of_files_at.Way.{IsWay}
use Rattle.fo_files_dir.specs.declared.dir.DirAt.{DirAt}
use Rattle.fo_files_dir.specs.declared.dir.FileAt.{FileAt}
use Rattle.fo_files_plan.specs.of_files_way.declared.plan.Level.{Level}
use Rattle.fo_files_plan.specs.of_files_way.Owns.{Owns, IsTag, IsIn, IsAboveLeaves, AreLinked}
use Rattle.fo_files_plan.specs.of_files_way.Plan.{IsFirstSlot}
use Rattle.fo_files_plan.specs.Along.{AreLeavesOf}

-- all is settled, no removal is queued, and so many blocks are usable
abbrev pub HasRoom : State → ℕ → Type 0
HasRoom s n = IsSettled s × (s.usable ≡ n)

-- a refusal of blocks: a fault, damage, want of memory and of room
abbrev pub IsBlocks : FileError → Type 0
IsBlocks error.Memory = Unit {0}
IsBlocks error.Full = Unit {0}
IsBlocks error.MainRead = Unit {0}
IsBlocks error.MainWrite = Unit {0}
IsBlocks error.MainSync = Unit {0}
IsBlocks error.ArenaRead = Unit {0}
IsBlocks error.ArenaWrite = Unit {0}
IsBlocks error.ArenaSync = Unit {0}
IsBlocks (error.Damaged b) = Unit {0}
IsBlocks _ = ⊥

-- The record of a file after somebody wrote to it at a moment; vers wraps at 2^32.
abbrev pub touched : List ℕ → ℕ → Record → Record
touched who now r = record r { vers = (r.vers + 1) % 2 ^ 32; mtime = now; muid = who }

-- the file with that record
abbrev pub with_touched : List ℕ → ℕ → File → File
with_touched who now f = record f { named = touched who now f.named }

-- The pair of a file that is number k of a way stands in block k of these, in the slot that its record says; the root block's is its first.
pub record IsPairOf (at : List ℕ) (k : ℕ) (f : File) (block slot number rank : ℕ) : Type 0 where
  pub block_is : block ≡ slice_index at k
  pub slot_is : IsFirstSlot k f.named.slot slot
  pub number_is : number ≡ f.named.number
  pub rank_is : rank ≡ f.rank

abbrev pub IsDirOf : (at : List ℕ) (k : ℕ) → File → DirAt → Type 0
IsDirOf at k f d = IsPairOf at k f d.at d.slot d.number d.rank

abbrev pub IsFileOf : (at : List ℕ) (k : ℕ) → File → FileAt → Type 0
IsFileOf at k f d = IsPairOf at k f d.at d.slot d.number d.rank

-- so does that of the directory of step k, the first of which is 0
pub record IsStepOf (at : List ℕ) (steps : List Step) (k : ℕ) (d : DirAt) : Type 0 where
  pub step : Step
  pub within : k < length steps
  pub step_is : step ≡ get_or steps k step
  pub pair : IsDirOf at k step.dir d

-- that of the directory above file k of a way; there is none above the root directory
abbrev pub IsAboveOf : (at : List ℕ) → List Step → ℕ → Option DirAt → Type 0
IsAboveOf at steps k above = MatchOption above (k ≡ 0) (λ a. (0 < k) × IsStepOf at steps (k - 1) a)

-- the directories of these steps have numbers that differ
abbrev pub AreApart : List Step → Type 0
AreApart steps = (j k : ℕ) (d e : Step) → j < length steps → k < length steps → (get_or steps j d).dir.named.number ≡ (get_or steps k e).dir.named.number → j ≡ k

-- the directory at the end of a way has another number than that above it
abbrev pub IsApart : Way → Type 0
IsApart w = (k : ℕ) (d : Step) → k + 1 ≡ length w.steps.items → (get_or w.steps.items k d).dir.named.number ≢ w.file.named.number

-- A way was planned, and owned: these blocks hang from the root block one below the other, each the leaf of entries with the pair of the next file of
-- the way.
pub record OwnsWay (c d : State) (root : ℕ) (trail : List ℕ) (way : Way) (at : List ℕ) : Type 0 where
  pub found : IsWay c root trail way
  pub levels : List Level
  pub leaves : AreLeavesOf 0 way.steps.items way.file levels
  pub tags : List ℕ
  pub old : List ℕ
  pub owned : Owns (IsIn old) (IsAboveLeaves levels) (IsTag tags) c d
  pub root_is : slice_index at 0 ≡ root
  pub linked : AreLinked d at 0 levels
  pub differ : AreApart way.steps.items

-- So it was for a file below the root directory: its own pair stands in the last of the blocks, that of its directory in the one before, and that
-- of the directory above that in the one before that.
pub record GoesAlong (c d : State) (root : ℕ) (trail : List ℕ) (way : Way) (dir : DirAt) (file : FileAt) (above : Option DirAt) : Type 0 where
  pub at : List ℕ
  pub owns : OwnsWay c d root trail way at
  pub file_is : IsFileOf at (length trail) way.file file
  pub dir_is : IsStepOf at way.steps.items (length trail - 1) dir
  pub above_is : IsAboveOf at way.steps.items (length trail - 1) above

-- So it was for a directory: its own pair stands in the last of the blocks, and that of the directory above it in the one before.
pub record GoesToDir (c d : State) (root : ℕ) (trail : List ℕ) (way : Way) (dir : DirAt) (above : Option DirAt) : Type 0 where
  pub at : List ℕ
  pub owns : OwnsWay c d root trail way at
  pub dir_is : IsDirOf at (length trail) way.file dir
  pub above_is : IsAboveOf at way.steps.items (length trail) above

-- one of the blocks in which the pair of a directory stands, and that of the directory above it
abbrev pub HasPairIn : DirAt → Option DirAt → ℕ → Type 0
HasPairIn dir above b = (b ≡ dir.at) ⊎ MatchOption above ⊥ (λ a. b ≡ a.at)
