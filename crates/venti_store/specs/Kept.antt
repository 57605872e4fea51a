-- What an open arena knows of a device that tells what it holds.
use Rattle.std.specs.Prelude.{◌≡◌, ◌⊎◌, ℕ, ◌-◌, ◌<◌, ◌≤◌, true, false, List, length, map, drop, slice_index_or}
use Rattle.std.specs.List.{All, Contains}
use Rattle.fo_disk.specs.Disk.{Block, Content, DiskState, versions_of, IsSettled}
use Rattle.fo_disk.specs.declared.disk.DiskFault.{DiskFault}
use Rattle.fo_disk.specs.declared.disk.DiskFault.TheVariants.{Read, Write, Sync}
use Rattle.fo_image.specs.declared.types.ArenaLine.{ArenaLine}
use Rattle.fo_image.specs.Format.{SpellsArenaHead}
use Rattle.fo_image.specs.Place.{line_block, stored_block}
use Rattle.venti_store.specs.Held.{line_at, stored_at, HasLine, HasBytes}
use Rattle.venti_store.specs.declared.waiting.Waiting.{Waiting}
use Rattle.venti_store.specs.declared.recent.Recalled.{Recalled}

-- the bytes of the blocks that were put and are not settled yet
abbrev pub waits : List Waiting → List (List ℕ)
waits pending = map (λ (w : Waiting). w.bytes.items) pending

-- how many of the used places are settled
abbrev pub settled_count : List ArenaLine → List (List ℕ) → ℕ
settled_count lines waiting = length lines - length waiting

-- A block 0 that says so many used places, from the first number up to the second.
pub record IsHead (size synced settled : ℕ) (block : Block) : Type 0 where
  pub used : ℕ
  pub from : synced ≤ used
  pub to : used ≤ settled
  pub spelled : SpellsArenaHead (record { blocks = size; used = used }) block

-- This version of a block says of the settled places what they hold.
pub record Fits (size synced settled : ℕ) (lines : List ArenaLine) (stored : List (List ℕ)) (at : ℕ) (block : Block) : Type 0 where
  pub head : at ≡ 0 → IsHead size synced settled block
  pub line : (place : ℕ) → place < settled → line_block place ≡ at → HasLine lines place block
  pub bytes : (place : ℕ) → place < settled → stored_block place ≡ at → HasBytes lines stored place block

abbrev pub AllFit : ℕ → ℕ → ℕ → List ArenaLine → List (List ℕ) → Content → Type 0
AllFit size synced settled lines stored holds = (at : ℕ) (block : Block) → at < size → Contains (versions_of holds at) block → Fits size synced settled lines stored at block

-- a block that a sync writes before it settles: the head, and what stands for places that are not settled
abbrev pub IsDue : ℕ → ℕ → ℕ → Type 0
IsDue settled used at = (at ≡ 0) ⊎ ((place : ℕ) × (settled ≤ place) × (place < used) × ((stored_block place ≡ at) ⊎ (line_block place ≡ at)))

-- Each block whose last write failed is settled, or it is written again before the next sync.
abbrev pub AreDue : ℕ → ℕ → ℕ → DiskState → Type 0
AreDue size settled used s = (at : ℕ) → at < size → slice_index_or s.unsure at false ≡ true → IsSettled s.holds at ⊎ IsDue settled used at

-- What is recalled are bytes of used places.
abbrev pub AreRecalled : List ArenaLine → List (List ℕ) → List Recalled → Type 0
AreRecalled lines stored recalled = All (λ (r : Recalled). (r.place < length lines) × (r.bytes.items ≡ stored_at stored r.place)) recalled

-- The device tells what it holds, and the used places have these bytes, of which the first `synced` were held when a sync last
-- answered Ok. Blocks that wait in memory are the last ones, and what is recalled is theirs.
pub record KeepsIn (size : ℕ) (lines : List ArenaLine) (waiting : List (List ℕ)) (recalled : List Recalled) (stored : List (List ℕ)) (synced : ℕ) (s : DiskState) : Type 0 where
  pub told : length s.holds ≡ size
  pub some : (at : ℕ) → at < size → 0 < length (versions_of s.holds at)
  pub count : length stored ≡ length lines
  pub lens : (place : ℕ) → place < length lines → length (stored_at stored place) ≡ (line_at lines place).len
  pub wait : waiting ≡ drop (settled_count lines waiting) stored
  pub order : synced ≤ settled_count lines waiting
  pub fits : AllFit size synced (settled_count lines waiting) lines stored s.holds
  pub due : AreDue size (settled_count lines waiting) (length lines) s
  pub recalls : AreRecalled lines stored recalled

-- a write or a sync
abbrev pub IsLater : DiskFault → Type 0
IsLater Read = ⊥
IsLater Write = Unit {0}
IsLater Sync = Unit {0}
