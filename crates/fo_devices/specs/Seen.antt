-- What calls on blocks see of a cache over its device, with an arena beside it.
use Rattle.std.specs.Prelude.{◌≡◌, ◌≤◌, ℕ}
use Rattle.fo_disk.specs.Disk.{DiskState}
use Rattle.fo_ports.specs.State.{State}
use Rattle.fo_settling.specs.of_mind.Parts.{CacheKeeps, Parts, state_of}
use Rattle.venti_store.specs.declared.shelf.Shelf.{Shelf}

-- A cache's parts over its device, and the size of that; an arena's index, what its device is, and how many faults that had.
pub record Seen : Type 0 where
  pub cache : Parts
  pub size : ℕ
  pub shelf : Shelf
  pub stored : DiskState
  pub faults : ℕ

abbrev pub seen : Parts → ℕ → Shelf → DiskState → ℕ → Seen
seen cache size shelf stored faults = record { cache = cache; size = size; shelf = shelf; stored = stored; faults = faults }

-- a state with this count of the arena's faults
abbrev pub beside : State → ℕ → State
beside s faults = record s { arena_faults = faults }

-- Over any devices all is said as over such that tell nothing: no image is left, nothing stands, nothing is to be closed, and what is held
-- is said where devices tell alone.
abbrev pub state_of_devices : Seen → State
state_of_devices d = beside (state_of d.cache) d.faults

-- What every call keeps: also the size of the device, and all that the arena holds.
pub record DevicesKeep (old new : Seen) : Type 0 where
  pub parts : CacheKeeps old.cache new.cache
  pub same_size : new.size ≡ old.size
  pub same_shelf : new.shelf ≡ old.shelf
  pub same_stored : new.stored ≡ old.stored
  pub more_faults : old.faults ≤ new.faults
