-- The form of a block of pointers.
use Rattle.std.specs.Prelude.{◌≡◌, ℕ, ◌*◌, ◌<◌, List, length, take, drop, Some, None}
use Rattle.fo_image.specs.declared.types.Score.{Score}
use Rattle.fo_image.specs.declared.types.Pointer.{Pointer}
use Rattle.fo_image.specs.declared.types.Pointer.TheVariants.{Local}
use Rattle.fo_image.specs.Format.{SpellsPointer}
use Rattle.fo_arch_hash.specs.Form.{Puts}
use Rattle.fo_arch_form.specs.declared.stored.Stored.{Stored}
use Rattle.fo_arch_form.specs.Stored.{found, score_under}

-- the bytes of slot i
abbrev pub pointer_at : List ℕ → ℕ → List ℕ
pointer_at block i = take 20 (drop (20 * i) block)

-- Slot i names what was stored under this score.
pub record WasStored (done : Stored) (kind i : ℕ) (block : List ℕ) (score : Score) : Type 0 where
  pub pointer : Pointer
  pub spelled : SpellsPointer pointer (pointer_at block i)
  pub stored : score_under done kind pointer ≡ Some score

-- The score of what slot i names was put into its place.
pub record PutsPointer (done : Stored) (kind i : ℕ) (old new : List ℕ) : Type 0 where
  pub score : Score
  pub was : WasStored done kind i old score
  pub long : length score.0 ≡ 20
  pub puts : Puts (20 * i) score.0 old new

-- Slot i names this block, which isn't stored.
pub record Misses (done : Stored) (kind i : ℕ) (block : List ℕ) (at : ℕ) : Type 0 where
  pub spelled : SpellsPointer (Local at) (pointer_at block i)
  pub none : found done at kind ≡ None

abbrev pub MissesOne : Stored → ℕ → List ℕ → ℕ → Type 0
MissesOne done kind block at = (i : ℕ) × (i < 409) × Misses done kind i block at

-- Slot i of the form has the score of what slot i of the block names.
pub record HasScore (done : Stored) (kind i : ℕ) (old new : List ℕ) : Type 0 where
  pub score : Score
  pub was : WasStored done kind i old score
  pub here : pointer_at new i ≡ score.0

-- The first slots have the scores of what they named, and the bytes behind them stay.
pub record HasScores (done : Stored) (kind count : ℕ) (old new : List ℕ) : Type 0 where
  pub each : (i : ℕ) → i < count → HasScore done kind i old new
  pub behind : drop (20 * count) new ≡ drop (20 * count) old
  pub length_is : length new ≡ length old
