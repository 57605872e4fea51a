-- The archived form of one block, and what is stored of it.
use Rattle.std.specs.Prelude.{◌≡◌, ℕ, ◌+◌, ◌*◌, List, ◌++◌, length, take, drop, replicate, if◌then◌else◌}
use Rattle.fo_image.specs.declared.types.Score.{Score}
use Rattle.fo_image.specs.declared.types.Entry.{Entry}
use Rattle.fo_vacput.specs.declared.types.VacEntry.{VacEntry}
use Rattle.fo_vacput.specs.Cut.{tail_of, IsCut}
use Rattle.fo_vacput.specs.Vac.{SpellsVacEntry}

-- These bytes are stored of a block of this kind: the least from which it is made again.
pub record IsStored (kind : ℕ) (block bytes : List ℕ) : Type 0 where
  pub left : ℕ
  pub cut : IsCut (tail_of kind) block left
  pub bytes_are : bytes ≡ take left block

-- an entry that is not active leads nowhere
abbrev pub no_score : Score
no_score = record { 0 = replicate 20 0 }

-- an entry of the main device as an archive has it, with the score of the block that it leads to
abbrev pub archived : Entry → Score → VacEntry
archived e score = record { generation = e.generation; active = e.active; dir = e.dir; depth = e.depth; size = e.size; score = if e.active then score else no_score }

-- a list with other bytes from a place on
abbrev pub put_at : ℕ → List ℕ → List ℕ → List ℕ
put_at from bytes old = take from old ++ bytes ++ drop (from + length bytes) old

-- These bytes stand now from this place on, and all others stay.
pub record Puts (from : ℕ) (bytes old new : List ℕ) : Type 0 where
  pub before : take from new ≡ take from old
  pub here : take (length bytes) (drop from new) ≡ bytes
  pub behind : drop (from + length bytes) new ≡ drop (from + length bytes) old
  pub length_is : length new ≡ length old

-- This entry is spelled now in slot i of a leaf of entries, and all else stays.
pub record PutsEntry (i : ℕ) (e : VacEntry) (old new : List ℕ) : Type 0 where
  pub bytes : List ℕ
  pub spelled : SpellsVacEntry e bytes
  pub long : length bytes ≡ 40
  pub puts : Puts (40 * i) bytes old new
