-- What holds of a device with the list of what stands there.
use Rattle.std.specs.Prelude.{◌<◌, ℕ, Bool, cond, List, [], length, map}
use Rattle.fo_disk.specs.Disk.{Content as Holds}
use Rattle.fo_crash.specs.declared.place.Place.{Place}
use Rattle.fo_crash.specs.Images.{Content}
use Rattle.fo_cells.specs.Known.{Top}
use Rattle.fo_cells.specs.Device.{Mind, Fits, known, synced}
use Rattle.fo_cells.specs.Laws.{Safe}

-- a block at the place where it stands
abbrev pub top_at : (ℕ → Place) → ℕ → Top
top_at place at = record { at = at; place = place at }

-- with these tops
abbrev pub over : Mind → (ℕ → Place) → List ℕ → Mind
over m place tops = record m { tops = map (top_at place) tops }

-- what is known after a sync that answered so
abbrev pub noted_sync : Bool → Mind → Mind
noted_sync ok m = cond ok (synced m) m

-- The invariant, where the device tells what it holds. It asks that block 1 is a top, so it holds of no empty list.
pub record IsRooted (m : Mind) (place : ℕ → Place) (high : ℕ) (doubts : List Content) (tops : List ℕ) (unsure : List Bool) (holds : Holds) : Type 0 where
  pub safe : 0 < length holds → ∥ Safe (known (over m place tops) holds) high doubts ∥₁
  pub fits : 0 < length holds → Fits (over m place tops) unsure holds

-- It holds of no empty list of tops.
abbrev pub NoneIsRefused : Type 0
NoneIsRefused = (m : Mind) (place : ℕ → Place) (high : ℕ) (doubts : List Content) (unsure : List Bool) (holds : Holds) → 0 < length holds → IsRooted m place high doubts [] unsure holds → ⊥
