-- A snapshot that begins loses no block, and the tree of the epoch that ended shares what hung in it.
use Rattle.std.specs.Prelude.{◌≡◌, ℕ, Bool, List}
use Rattle.fo_disk.specs.Disk.{Content as Holds}
use Rattle.fo_crash.specs.declared.place.Place.{Place}
use Rattle.fo_crash.specs.Images.{Content}
use Rattle.fo_cells.specs.Known.{Stands}
use Rattle.fo_cells.specs.Device.{known}
use Rattle.fo_cells_lost.specs.Lost.{IsLost, AreShared}
use Rattle.fo_cells_all.specs.All.{Kept, Format}
use Rattle.fo_cells_steps.specs.Division.{HoldsMade, division}
use Rattle.fo_cells_snapshot.specs.of_cells_turns.Opening.{none_made, no_origins}
use Rattle.fo_cells_snapshot.specs.Snapshot.{Snapshots}

abbrev pub SnapshotLoses : Type 0
SnapshotLoses = (s : Content) (root next : ℕ) (first c d : Kept) (f : Format) (unsure later : List Bool) (before holds : Holds) → Snapshots s root next first c d f later before holds → ((q : Place) → Stands (known first.mind before) next q → ⊥) → d.mind.low ≡ first.mind.low → HoldsMade first f none_made no_origins unsure before → ((b : ℕ) → IsLost (known d.mind holds) (division d none_made) d.roots b → IsLost (known first.mind before) (division first none_made) first.roots b) × (AreShared (known first.mind before) (division first none_made) first.high first.roots first.past first.queue → AreShared (known d.mind holds) (division d none_made) d.high d.roots d.past d.queue)
