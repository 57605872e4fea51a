-- What a block has to be so that a byte of it is changed.
use Rattle.std.specs.Prelude.{◌≡◌, ℕ, length}
use Rattle.fo_image.specs.declared.types.Kind.TheVariants.{Data}
use Rattle.fo_crash.specs.declared.place.Place.{Place}
use Rattle.fo_crash.specs.Images.{Reaches, to_block}
use Rattle.fo_ports.specs.State.{State, IsDoomed}

-- no block was made to come in the place of another
pub record IsApartFromAll (s : State) : Type 0 where
  pub each : (y x : ℕ) → s.instead y x → ⊥

-- Where the device tells, the block stands at a place of data of this rank, hangs from block 1, and is not to be closed.
pub record StandsOnce (s : State) (at rank : ℕ) : Type 0 where
  pub place : s.tells → (p : Place) × s.stands at p × (p.kind ≡ Data 0) × (p.rank ≡ rank)
  pub linked : s.tells → Reaches s.now (to_block 1) at
  pub undoomed : s.tells → IsDoomed s at → ⊥

pub record StandsSo (s : State) (at rank : ℕ) : Type 0 where
  pub each : s.tells → (p : Place) → s.stands at p → (p.kind ≡ Data 0) × (p.rank ≡ rank)

-- a pinned block of data
pub record IsHad (s : State) (at : ℕ) : Type 0 where
  pub pinned : s.pinned at
  pub kind : (s.label at).kind ≡ Data 0
  pub long : length ((s.now at).bytes) ≡ 8192
