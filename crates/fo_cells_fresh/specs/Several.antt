-- Several tops: a cache with a kept snapshot and a block that was made; and a device with a list of what stands there.
use Rattle.std.specs.Prelude.{◌≡◌, ◌≢◌, ◌<◌, ℕ, Bool, List, length}
use Rattle.std.specs.List.{Contains}
use Rattle.fo_disk.specs.Disk.{Content as Holds}
use Rattle.fo_crash.specs.declared.place.Place.{Place}
use Rattle.fo_crash.specs.Images.{Content}
use Rattle.fo_cells.specs.Safe.{super_top}
use Rattle.fo_cells.specs.Device.{Mind}
use Rattle.fo_cells_out.specs.Origins.{given}
use Rattle.fo_cells_epochs.specs.Epochs.{Root, root_top}
use Rattle.fo_cells_all.specs.All.{Kept, Format}
use Rattle.fo_cells_turns.specs.Opening.{Opens, none_made, no_origins}
use Rattle.fo_cells_whole.specs.of_cells_blocks.Giving.{made_with}
use Rattle.fo_cells_whole.specs.Whole.{HoldsWhole}
use Rattle.fo_cells_whole.specs.Tops.{IsRooted}

-- the root of a snapshot is kept, and is a top
pub record KeepsOne (c : Kept) : Type 0 where
  pub root : Root
  pub among : Contains c.roots root
  pub top : Contains c.mind.tops (root_top root)
  pub other : root.at ≢ 1

-- A CACHE OPENS over a device with a kept snapshot beside the active tree, and keeps the whole.
abbrev pub KeptIsWhole : Type 0
KeptIsWhole = (c : Kept) × (f : Format) × (unsure : List Bool) × (holds : Holds) × (0 < length holds) × KeepsOne c × Opens c f unsure holds × HoldsWhole c f none_made no_origins unsure holds

-- this block and block 1 are tops beside the kept root
pub record HasThree (c : Kept) (at : ℕ) : Type 0 where
  pub kept : KeepsOne c
  pub super : Contains c.mind.tops super_top
  pub place : Place
  pub made : Contains c.mind.tops (record { at = at; place = place })
  pub apart : (at ≢ 1) × (at ≢ (kept.root).at)

-- A BLOCK IS GIVEN OUT there: the whole is kept, with three tops.
abbrev pub MadeIsWhole : Type 0
MadeIsWhole = (c : Kept) × (f : Format) × (at : ℕ) × (unsure : List Bool) × (holds : Holds) × (0 < length holds) × HasThree c at × HoldsWhole c f (made_with none_made at) (given no_origins at (λ z. ⊥)) unsure holds

-- SOME DEVICE, with these three tops as its list, is what `Rooted` asks.
abbrev pub SomeIsRooted : Type 0
SomeIsRooted = (m : Mind) × (place : ℕ → Place) × (high : ℕ) × (doubts : List Content) × (tops : List ℕ) × (unsure : List Bool) × (holds : Holds) × (0 < length holds) × (length tops ≡ 3) × IsRooted m place high doubts tops unsure holds
