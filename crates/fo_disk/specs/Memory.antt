-- What a disk in memory has held at each moment.
use Rattle.std.specs.Prelude.{◌≡◌, ◌==◌, ◌⊎◌, ℕ, ◌-◌, ◌<◌, Bool, true, false, if◌then◌else◌, List, [], ◌∷◌, ◌++◌, length, map, reverse, take, drop, slice_index_or, slice_set}
use Rattle.std.specs.List.{list_any}
use Rattle.fo_base.specs.Cause.{Rose}
use Rattle.fo_disk.specs.Disk.{Block, Versions, Content, DiskState, Appends}
use Rattle.fo_disk.specs.declared.memory.Version.{Version}
use Rattle.fo_disk.specs.declared.memory.Cell.{Cell}
use Rattle.fo_disk.specs.declared.memory.Change.{Change}
use Rattle.fo_disk.specs.declared.memory.Change.TheVariants.{Wrote, Settled}
use Rattle.fo_disk.specs.declared.memory.MemDisk.{MemDisk}

abbrev pub bytes_of : Version → Block
bytes_of v = v.bytes.items

-- from which version on a crash may leave them, and all of them
abbrev pub cell_of : Cell → ℕ × Versions
cell_of cell = (cell.from, map bytes_of cell.all.items)

abbrev pub versions_in : ℕ × Versions → Versions
versions_in cell = drop cell.0 cell.1

abbrev pub cells_of : List Cell → List (ℕ × Versions)
cells_of cells = map cell_of cells

abbrev pub content_of : List (ℕ × Versions) → Content
content_of cells = map versions_in cells

abbrev pub with_version : ℕ → Block → List (ℕ × Versions) → List (ℕ × Versions)
with_version at bytes cells = slice_set cells at ((slice_index_or cells at (0, [])).0, (slice_index_or cells at (0, [])).1 ++ bytes ∷ [])

abbrev pub settled_cell : Bool → ℕ × Versions → ℕ × Versions
settled_cell unsure cell = if unsure then cell else (length cell.1 - 1, cell.1)

pub record SettledFrom (unsure : List Bool) (old new : List (ℕ × Versions)) : Type 0 where
  pub count : length new ≡ length old
  pub each : (k : ℕ) → k < length old → slice_index_or new k (0, []) ≡ settled_cell (slice_index_or unsure k false) (slice_index_or old k (0, []))

-- of each block the version with this number
abbrev pub picked : List ℕ → Content → List Block
picked [] content = []
picked (pick ∷ picks) [] = []
picked (pick ∷ picks) (versions ∷ content) = slice_index_or versions pick [] ∷ picked picks content

-- with the last version taken off
abbrev pub shorter : ℕ × Versions → ℕ × Versions
shorter cell = (cell.0, take (length cell.1 - 1) cell.1)

abbrev pub with_froms : List ℕ → List (ℕ × Versions) → List (ℕ × Versions)
with_froms [] cells = cells
with_froms (from ∷ froms) [] = []
with_froms (from ∷ froms) (cell ∷ cells) = (from, cell.1) ∷ with_froms froms cells

-- as before this change
abbrev pub undone : Change → List (ℕ × Versions) → List (ℕ × Versions)
undone (Wrote at) cells = slice_set cells at (shorter (slice_index_or cells at (0, [])))
undone (Settled froms) cells = with_froms froms.items cells

-- the earlier moments, the newest first
abbrev pub earlier : List Change → List (ℕ × Versions) → List Content
earlier [] cells = []
earlier (change ∷ changes) cells = content_of (undone change cells) ∷ earlier changes (undone change cells)

abbrev pub moments_at : List (ℕ × Versions) → List Change → List Content
moments_at cells changes = content_of cells ∷ earlier (reverse changes) cells

abbrev pub holds_of : MemDisk → Content
holds_of m = content_of (cells_of m.cells.items)

abbrev pub moments_of : MemDisk → List Content
moments_of m = moments_at (cells_of m.cells.items) m.changes.items

abbrev pub unsure_of : MemDisk → List Bool
unsure_of m = m.unsure.items

abbrev pub state_of : MemDisk → DiskState
state_of m = record { holds = holds_of m; moments = moments_of m; unsure = unsure_of m }

-- the numbers of the calls that are to fail
abbrev pub lists : MemDisk → List ℕ
lists m = m.fails.items

-- the next call is to fail
abbrev pub is_listed : MemDisk → Bool
is_listed m = list_any (λ n. n == m.calls) m.fails.items

-- What a write does, with how many calls found no memory before and after it: it lands, and fails only where it is listed to,
-- or it finds no memory, fails and changes nothing.
abbrev pub Lands : ℕ → Block → Bool → Bool → Content → Content → ℕ → ℕ → Type 0
Lands at bytes listed failed old new before now =
    (Appends at bytes old new × (failed ≡ listed) × (now ≡ before))
    ⊎ ((new ≡ old) × (failed ≡ true) × Rose before now)
