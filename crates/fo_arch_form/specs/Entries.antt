-- The form of a leaf of entries.
use Rattle.std.specs.Prelude.{◌≡◌, ℕ, ◌+◌, ◌*◌, ◌<◌, ◌≤◌, List, length, take, drop, Some, None, if◌then◌else◌}
use Rattle.fo_image.specs.declared.types.Score.{Score}
use Rattle.fo_image.specs.declared.types.Entry.{Entry}
use Rattle.fo_image.specs.declared.types.Pointer.TheVariants.{Local}
use Rattle.fo_image.specs.Format.{SpellsEntry}
use Rattle.fo_vacput.specs.Vac.{SpellsVacEntry}
use Rattle.fo_arch_hash.specs.Form.{PutsEntry, archived}
use Rattle.fo_arch_form.specs.declared.stored.Stored.{Stored}
use Rattle.fo_arch_form.specs.declared.entries.Missing.{Missing}
use Rattle.fo_arch_form.specs.Stored.{found, score_under}

-- the bytes of slot i
abbrev pub entry_at : List ℕ → ℕ → List ℕ
entry_at block i = take 40 (drop (40 * i) block)

-- the kind in the arena of the block at the top of a source
abbrev pub code_of : Entry → ℕ
code_of e = if e.dir then 8 + e.depth else e.depth

-- Slot i spells an entry of at most four levels.
pub record HasEntry (i : ℕ) (block : List ℕ) : Type 0 where
  pub entry : Entry
  pub spelled : SpellsEntry entry (entry_at block i)
  pub shallow : entry.depth ≤ 4

-- Slot i spells an entry whose top was stored under this score.
pub record TopStored (done : Stored) (i : ℕ) (block : List ℕ) (e : Entry) (score : Score) : Type 0 where
  pub spelled : SpellsEntry e (entry_at block i)
  pub shallow : e.depth ≤ 4
  pub stored : score_under done (code_of e) e.top ≡ Some score

-- The archived entry of slot i was put into its place.
pub record PutsArchived (done : Stored) (i : ℕ) (old new : List ℕ) : Type 0 where
  pub entry : Entry
  pub score : Score
  pub was : TopStored done i old entry score
  pub puts : PutsEntry i (archived entry score) old new

-- Slot i spells this entry, whose top isn't stored.
pub record MissesTop (done : Stored) (i : ℕ) (block : List ℕ) (e : Entry) : Type 0 where
  pub spelled : SpellsEntry e (entry_at block i)
  pub shallow : e.depth ≤ 4
  pub at : ℕ
  pub top : e.top ≡ Local at
  pub none : found done at (code_of e) ≡ None

abbrev pub MissesOneTop : Stored → List ℕ → Missing → Type 0
MissesOneTop done block m = (m.i < 204) × MissesTop done m.i block m.entry

-- Slot i of the form spells the archived entry of what slot i of the block spells.
pub record HasArchived (done : Stored) (i : ℕ) (old new : List ℕ) : Type 0 where
  pub entry : Entry
  pub score : Score
  pub was : TopStored done i old entry score
  pub here : SpellsVacEntry (archived entry score) (entry_at new i)

-- The first slots have the archived entries of what they had, and the bytes behind them stay.
pub record HasArchivedAll (done : Stored) (count : ℕ) (old new : List ℕ) : Type 0 where
  pub each : (i : ℕ) → i < count → HasArchived done i old new
  pub behind : drop (40 * count) new ≡ drop (40 * count) old
  pub length_is : length new ≡ length old
