-- What the opening of an arena finds, and why it is refused.
use Rattle.std.specs.Prelude.{◌≡◌, ◌≢◌, ◌⊎◌, ℕ, ◌<◌, ◌≤◌, List, [], ◌∷◌, ◌++◌, length, Result, IfErr}
use Rattle.fo_base.specs.Cause.{Rose}
use Rattle.fo_disk.specs.Disk.{Block, DiskState}
use Rattle.fo_image.specs.declared.types.ArenaLine.{ArenaLine}
use Rattle.fo_image.specs.Format.{SpellsArenaLine}
use Rattle.fo_image.specs.Place.{line_block}
use Rattle.fo_sound.specs.Image.{block_of}
use Rattle.fo_sound.specs.Sizes.{IsArena}
use Rattle.venti_store.specs.Held.{line_at, line_bytes, name_of, HasLine, HasName, IsIndexed, IsArenaOf}
use Rattle.venti_store.specs.Arena.{lines_of, Keeps}
use Rattle.venti_store.specs.declared.shelf.Shelf.{Shelf}
use Rattle.venti_store.specs.declared.error.ArenaWhy.{ArenaWhy}
use Rattle.venti_store.specs.declared.error.ArenaWhy.TheVariants as why

-- What is held once the vault is opened: just what its used places hold, all of which is settled.
pub record Opens (vault : List Block) (shelf : Shelf) (s : DiskState) : Type 0 where
  pub stored : List (List ℕ)
  pub is : IsArenaOf (length (lines_of shelf)) (lines_of shelf) stored vault
  pub keeps : Keeps shelf stored (length stored) s

-- `NotArena` exactly where the vault is no arena of its format.
abbrev pub OpenRefuses : List Block → ArenaWhy → Type 0
OpenRefuses vault why.NotArena = (used : ℕ) (lines : List ArenaLine) → ¬ IsIndexed used lines vault
OpenRefuses vault why.ArenaRead = Unit {0}
OpenRefuses vault why.Memory = Unit {0}

abbrev pub OpenBlames : ℕ → ℕ → ArenaWhy → Type 0
OpenBlames before now why.ArenaRead = Rose before now
OpenBlames before now why.NotArena = Unit {0}
OpenBlames before now why.Memory = Unit {0}

-- The count of faults never falls, and a fault is answered only where it rose.
pub record HasOpenCauses {T : Type 0} (before now : ℕ) (result : Result T ArenaWhy) : Type 0 where
  pub later : before ≤ now
  pub failed : IfErr result (OpenBlames before now)

-- ---- single steps

-- The head says so many used places, and no other number.
pub record UsedIs (vault : List Block) (used : ℕ) : Type 0 where
  pub arena : IsArena vault used
  pub only : (other : ℕ) → IsArena vault other → used ≡ other

-- why a head is refused
abbrev pub HeadRefuses : List Block → ArenaWhy → Type 0
HeadRefuses vault why.NotArena = (used : ℕ) → ¬ IsArena vault used
HeadRefuses vault why.ArenaRead = Unit {0}
HeadRefuses vault why.Memory = ⊥

-- the line that these bytes spell, of a score and a kind that no place has, is added
pub record TakesLine (bytes : List ℕ) (lines now : List ArenaLine) : Type 0 where
  pub line : ArenaLine
  pub is : now ≡ lines ++ line ∷ []
  pub spelled : SpellsArenaLine line bytes
  pub only : (other : ArenaLine) → SpellsArenaLine other bytes → line ≡ other
  pub fresh : (place : ℕ) → ¬ HasName lines line.score.0 line.kind place

-- The bytes spell a line, of a score and a kind that a place has.
pub record IsTaken (bytes : List ℕ) (lines : List ArenaLine) : Type 0 where
  pub line : ArenaLine
  pub only : (other : ArenaLine) → SpellsArenaLine other bytes → line ≡ other
  pub place : ℕ
  pub named : HasName lines line.score.0 line.kind place

abbrev pub LineRefuses : List ℕ → List ArenaLine → ArenaWhy → Type 0
LineRefuses bytes lines why.NotArena = ((line : ArenaLine) → ¬ SpellsArenaLine line bytes) ⊎ IsTaken bytes lines
LineRefuses bytes lines why.ArenaRead = ⊥
LineRefuses bytes lines why.Memory = Unit {0}

-- These are the lines of the first places, each the only one that is spelled there.
pub record ReadLines (upto : ℕ) (lines : List ArenaLine) (vault : List Block) : Type 0 where
  pub count : length lines ≡ upto
  pub line : (place : ℕ) → place < upto → HasLine lines place (block_of vault (line_block place))
  pub only : (place : ℕ) (line : ArenaLine) → place < upto → SpellsArenaLine line (line_bytes place (block_of vault (line_block place))) → line_at lines place ≡ line

-- the lines of so many used places, of which no two have one score and kind
pub record AreLines (used : ℕ) (lines : List ArenaLine) (vault : List Block) : Type 0 where
  pub line : (place : ℕ) → place < used → HasLine lines place (block_of vault (line_block place))
  pub apart : (one other : ℕ) → one < other → other < used → name_of (line_at lines one) ≢ name_of (line_at lines other)

abbrev pub LinesRefuse : ℕ → List Block → ArenaWhy → Type 0
LinesRefuse used vault why.NotArena = (lines : List ArenaLine) → ¬ AreLines used lines vault
LinesRefuse used vault why.ArenaRead = Unit {0}
LinesRefuse used vault why.Memory = Unit {0}

abbrev pub IsNoFault : ArenaWhy → Type 0
IsNoFault why.NotArena = Unit {0}
IsNoFault why.ArenaRead = ⊥
IsNoFault why.Memory = Unit {0}
