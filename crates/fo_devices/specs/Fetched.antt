-- What is fetched from an arena, and why a block is not.
use Rattle.std.specs.Prelude.{◌≡◌, ◌⊎◌, ℕ, List}
use Rattle.fo_disk.specs.declared.disk.DiskFault.TheVariants.{Read}
use Rattle.fo_image.specs.declared.types.ArenaLine.{ArenaLine}
use Rattle.fo_ports.specs.declared.error.BlockError.{BlockError}
use Rattle.fo_ports.specs.declared.error.BlockError.TheVariants.{Full, Damaged, Fault, Arena, Memory}
use Rattle.fo_vacput.specs.Cut.{grown, tail_of}
use Rattle.sha1.specs.Sha1.{sha1}
use Rattle.venti_store.specs.Arena.{IsDamaged}
use Rattle.venti_store.specs.Held.{HasName, IsHeld, IsNamed}

-- Bytes that hash to the score, and are grown to a whole block as one of this kind. The arena has a block of this score and kind.
pub record Fetched (lines : List ArenaLine) (score : List ℕ) (kind : ℕ) (block : List ℕ) : Type 0 where
  pub bytes : List ℕ
  pub hashes : sha1 bytes ≡ score
  pub named : IsNamed lines score kind
  pub grows : block ≡ grown (tail_of kind) 8192 bytes

-- What is held under the score and kind, grown to a whole block.
pub record FetchedHeld (lines : List ArenaLine) (stored : List (List ℕ)) (score : List ℕ) (kind : ℕ) (block : List ℕ) : Type 0 where
  pub bytes : List ℕ
  pub held : IsHeld lines stored score kind bytes
  pub grows : block ≡ grown (tail_of kind) 8192 bytes

-- Why no block is fetched, over any device: the arena has none of this score and kind, or the bytes of its place don't hash to the score;
-- a block of the index could not be read; or memory is wanting.
abbrev pub FetchRefuses : List ArenaLine → List ℕ → ℕ → BlockError → Type 0
FetchRefuses lines score kind Full = ⊥
FetchRefuses lines score kind (Damaged at) = (at ≡ 1) × (¬ IsNamed lines score kind ⊎ ((place : ℕ) × HasName lines score kind place))
FetchRefuses lines score kind (Fault which) = ⊥
FetchRefuses lines score kind (Arena which) = (which ≡ Read) × IsNamed lines score kind
FetchRefuses lines score kind Memory = Unit {0}

-- The same over a device that tells what it holds: what is called damaged is not held, or doesn't hash to its score.
abbrev pub FetchLacks : List ArenaLine → List (List ℕ) → List ℕ → ℕ → BlockError → Type 0
FetchLacks lines stored score kind (Damaged at) = ¬ IsNamed lines score kind ⊎ IsDamaged lines stored score kind
FetchLacks lines stored score kind _ = Unit {0}
