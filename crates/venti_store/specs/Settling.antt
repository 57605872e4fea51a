-- A run of writes and syncs that settles the blocks of an arena.
use Rattle.std.specs.Prelude.{◌≡◌, ◌≢◌, ℕ, ◌+◌, ◌<◌, ◌≤◌, ◌^◌, false, List, [], ◌∷◌, ◌++◌, length, slice_index_or}
use Rattle.fo_disk.specs.Disk.{Block, Versions, Content, DiskState, versions_of, IsQuiet, Since}
use Rattle.fo_image.specs.declared.types.ArenaLine.{ArenaLine}
use Rattle.fo_image.specs.Format.{SpellsArenaHead}
use Rattle.fo_image.specs.Place.{arena_places, line_block, stored_block}
use Rattle.venti_store.specs.Held.{line_at, stored_at, name_of, HasLine, HasBytes, Recovers}
use Rattle.venti_store.specs.Kept.{AllFit, AreDue}

-- what a run is about: a device of so many blocks; how many places the last sync settled, and how many are settled now; the used
-- places; and the moments from before the run
pub record Run : Type 0 where
  pub size : ℕ
  pub synced : ℕ
  pub settled : ℕ
  pub lines : List ArenaLine
  pub stored : List (List ℕ)
  pub before : List Content

-- what stays in the run
pub record IsRun (run : Run) : Type 0 where
  pub least : 16 ≤ run.size
  pub most : run.size ≤ 2 ^ 20
  pub places : length run.lines ≤ arena_places run.size
  pub apart : (one other : ℕ) → one < other → other < length run.lines → name_of (line_at run.lines one) ≢ name_of (line_at run.lines other)
  pub lens : (place : ℕ) → place < length run.lines → length (stored_at run.stored place) ≡ (line_at run.lines place).len
  pub order : run.synced ≤ run.settled
  pub within : run.settled ≤ length run.lines

-- Where the run is. Each image since its start has what the last sync held.
pub record Goes (run : Run) (s : DiskState) : Type 0 where
  pub is_run : IsRun run
  pub since : Since run.before s.moments (Recovers run.synced run.lines run.stored)
  pub told : length s.holds ≡ run.size
  pub some : (at : ℕ) → at < run.size → 0 < length (versions_of s.holds at)
  pub fits : AllFit run.size run.synced run.settled run.lines run.stored s.holds
  pub due : AreDue run.size run.settled (length run.lines) s

-- This block ends in a version that is so, by a write that answered Ok.
pub record IsDone (s : DiskState) (at : ℕ) (P : Block → Type 0) : Type 0 where
  pub sure : slice_index_or s.unsure at false ≡ false
  pub older : Versions
  pub block : Block
  pub is : versions_of s.holds at ≡ older ++ block ∷ []
  pub has : P block

-- The places from the settled ones up to this one have their bytes, or their lines, as last versions.
pub record WroteBytes (run : Run) (upto : ℕ) (s : DiskState) : Type 0 where
  pub each : (place : ℕ) → run.settled ≤ place → place < upto → IsDone s (stored_block place) (HasBytes run.lines run.stored place)

pub record WroteLines (run : Run) (upto : ℕ) (s : DiskState) : Type 0 where
  pub each : (place : ℕ) → run.settled ≤ place → place < upto → place < length run.lines → IsDone s (line_block place) (HasLine run.lines place)

-- These are the bytes that wait, of the places from the settled ones on.
pub record Waits (run : Run) (waiting : List (List ℕ)) : Type 0 where
  pub all : run.settled + length waiting ≡ length run.lines
  pub each : (i : ℕ) → i < length waiting → stored_at run.stored (run.settled + i) ≡ slice_index_or waiting i []

-- the run from when all used places are settled
abbrev pub all_settled : Run → Run
all_settled run = record run { settled = length run.lines }

-- the head that says that all places with a line are used
abbrev pub IsWholeHead : Run → Block → Type 0
IsWholeHead run block = SpellsArenaHead (record { blocks = run.size; used = length run.lines }) block

-- Where a run ends whose head is written and settled: the device is quiet, and all used places are held.
pub record Ends (run : Run) (s : DiskState) : Type 0 where
  pub since : Since run.before s.moments (Recovers run.synced run.lines run.stored)
  pub told : length s.holds ≡ run.size
  pub quiet : IsQuiet s.holds
  pub fits : AllFit run.size (length run.lines) (length run.lines) run.lines run.stored s.holds
