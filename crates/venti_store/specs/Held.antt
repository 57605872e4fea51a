-- Which blocks an arena holds, by its own blocks. A block is found by the SHA-1 score of its bytes and its kind (the Venti paper,
-- "Venti: a new approach to archival storage"). `lines` are what the index says of the used places, in their order, and `stored`
-- are the bytes of these places.
use Rattle.std.specs.Prelude.{◌≡◌, ◌≢◌, ◌⊎◌, ℕ, ◌<◌, ◌≤◌, ◌^◌, List, [], length, take, drop, slice_index_or}
use Rattle.fo_disk.specs.Disk.{Block}
use Rattle.fo_image.specs.declared.types.ArenaLine.{ArenaLine}
use Rattle.fo_image.specs.Format.{SpellsArenaLine}
use Rattle.fo_image.specs.Place.{line_block, line_byte, stored_block}
use Rattle.fo_sound.specs.Image.{block_of}
use Rattle.fo_sound.specs.Sizes.{IsArena}
use Rattle.sha1.specs.Sha1.{sha1}

abbrev pub no_line : ArenaLine
no_line = record { score = record { 0 = [] }; kind = 0; len = 0 }

abbrev pub line_at : List ArenaLine → ℕ → ArenaLine
line_at lines place = slice_index_or lines place no_line

abbrev pub stored_at : List (List ℕ) → ℕ → List ℕ
stored_at stored place = slice_index_or stored place []

-- the score and the kind by which a block is found
abbrev pub Name : Type 0
Name = List ℕ × ℕ

abbrev pub name_of : ArenaLine → Name
name_of line = (line.score.0, line.kind)

-- the bytes of the line of a place, in its block of the index
abbrev pub line_bytes : ℕ → Block → List ℕ
line_bytes place block = take 24 (drop (line_byte place) block)

-- This block of the index has the line of this place.
abbrev pub HasLine : List ArenaLine → ℕ → Block → Type 0
HasLine lines place block = SpellsArenaLine (line_at lines place) (line_bytes place block)

-- This block begins with the bytes of this place.
abbrev pub HasBytes : List ArenaLine → List (List ℕ) → ℕ → Block → Type 0
HasBytes lines stored place block = stored_at stored place ≡ take (line_at lines place).len block

-- An arena of its format, with so many used places, which have these lines. No two of them have one score and kind.
pub record IsIndexed (used : ℕ) (lines : List ArenaLine) (vault : List Block) : Type 0 where
  pub least : 16 ≤ length vault
  pub most : length vault ≤ 2 ^ 20
  pub arena : IsArena vault used
  pub line : (place : ℕ) → place < used → HasLine lines place (block_of vault (line_block place))
  pub apart : (one other : ℕ) → one < other → other < used → name_of (line_at lines one) ≢ name_of (line_at lines other)

-- An arena of its format, with so many used places, which have these lines and bytes.
pub record IsArenaOf (used : ℕ) (lines : List ArenaLine) (stored : List (List ℕ)) (vault : List Block) : Type 0 where
  pub indexed : IsIndexed used lines vault
  pub bytes : (place : ℕ) → place < used → HasBytes lines stored place (block_of vault (stored_block place))

-- The vault is an arena in which at least the first `synced` of these blocks are held, and none but these.
abbrev pub Recovers : ℕ → List ArenaLine → List (List ℕ) → List Block → Type 0
Recovers synced lines stored vault = (used : ℕ) × (synced ≤ used) × (used ≤ length lines) × IsArenaOf used lines stored vault

-- a used place with this score and kind
pub record HasName (lines : List ArenaLine) (score : List ℕ) (kind place : ℕ) : Type 0 where
  pub used : place < length lines
  pub score_is : (line_at lines place).score.0 ≡ score
  pub kind_is : (line_at lines place).kind ≡ kind

-- The index has a block of this score and kind, or it is the empty block, which takes no place.
abbrev pub IsNamed : List ArenaLine → List ℕ → ℕ → Type 0
IsNamed lines score kind = (score ≡ sha1 []) ⊎ ((place : ℕ) × HasName lines score kind place)

-- These bytes are held under this score and kind. The empty block is held under its score for every kind.
abbrev pub IsHeld : List ArenaLine → List (List ℕ) → List ℕ → ℕ → List ℕ → Type 0
IsHeld lines stored score kind bytes =
    ((score ≡ sha1 []) × (bytes ≡ []))
    ⊎ ((score ≢ sha1 []) × (place : ℕ) × HasName lines score kind place × (bytes ≡ stored_at stored place))
