-- The blocks of a way that was owned.
use Rattle.std.specs.Prelude.{◌≡◌, ◌<◌, ℕ, List, length, slice_index}
use Rattle.fo_image.specs.declared.types.State.TheVariants.{Live}
use Rattle.fo_image.specs.declared.types.Kind.TheVariants.{Dir, Root}
use Rattle.fo_ports.specs.State.{State}

-- A data block that may be changed: pinned, live, and of the current epoch.
pub record IsOwnedBlock (s : State) (at : ℕ) : Type 0 where
  pub is_one : s.is_block at
  pub is_pinned : s.pinned at
  pub live : (s.label at).state ≡ Live
  pub current : (s.label at).epoch ≡ s.high

-- The blocks of a way that was owned: the first is a root block, the others leaves of entries, and two of them are two blocks.
pub record AreOwned (s : State) (at : List ℕ) : Type 0 where
  pub some : 0 < length at
  pub each : (i : ℕ) → i < length at → IsOwnedBlock s (slice_index at i)
  pub root : (s.label (slice_index at 0)).kind ≡ Root
  pub dirs : (i : ℕ) → 0 < i → i < length at → (s.label (slice_index at i)).kind ≡ Dir 0
  pub apart : (i j : ℕ) → i < length at → j < length at → slice_index at i ≡ slice_index at j → i ≡ j
