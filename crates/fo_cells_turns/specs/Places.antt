-- What is held after a step stands where it stood.
use Rattle.std.specs.Prelude.{◌≡◌, ◌⊎◌, ℕ, Bool, List}
use Rattle.std.specs.List.{Contains}
use Rattle.fo_disk.specs.Disk.{Content as Holds}
use Rattle.fo_image.specs.declared.types.Label.{Label}
use Rattle.fo_crash.specs.declared.slot.Slot.{Slot}
use Rattle.fo_crash.specs.declared.place.Place.{Place}
use Rattle.fo_crash.specs.Images.{Content, Image, Reaches, to_block}
use Rattle.fo_crash.specs.Places.{root_place}
use Rattle.fo_cells.specs.Known.{Known, IsKept, Remains, Stands}
use Rattle.fo_cells.specs.Writes.{Writes, WritesLabels, Syncs, Ends, Puts, Relabels, Fires}
use Rattle.fo_cells.specs.Calls.{PutsInto, Awaits, WaitsMore, TriesSuper, CountsSuper}
use Rattle.fo_cells.specs.Device.{known}
use Rattle.fo_cells_out.specs.Origins.{Origins}
use Rattle.fo_cells_epochs.specs.Epochs.{Root}
use Rattle.fo_cells_steps.specs.of_cells_all.All.{Kept, Format}
use Rattle.fo_cells_steps.specs.Division.{HoldsMade}

-- a step of the device or in memory, after which nothing stands anew
pub data OneStep (old new : Known) : Type 0 where
  writes : (at : ℕ) (f : Content) → Writes at f old new → OneStep old new
  labels : WritesLabels old new → OneStep old new
  syncs : Syncs old new → OneStep old new
  ends : Ends old new → OneStep old new
  clears : (at i leaf : ℕ) → Fires at i leaf old new → OneStep old new
  closes : (b : ℕ) (l : Label) → Relabels b l old new → OneStep old new
  puts : (at i : ℕ) (s : Slot) → Puts at i s old new → OneStep old new
  refills : (at : ℕ) (bytes : List ℕ) → PutsInto at bytes old new → OneStep old new
  awaits : (at i leaf : ℕ) → Awaits at i leaf old new → OneStep old new
  more : WaitsMore old new → OneStep old new
  tries : (d : Content) → TriesSuper d old new → OneStep old new
  counts : (d : Content) → CountsSuper d old new → OneStep old new

-- Nothing stands anew. (This joins over steps.)
abbrev pub FewerStand : Known → Known → Type 0
FewerStand old new = (b : ℕ) (q : Place) → Stands new b q → Stands old b q

abbrev pub StepsStand : Type 0
StepsStand = (old new : Known) → OneStep old new → IsKept old → FewerStand old new

-- Where nothing stands anew, what hangs from block 1 or from what was made stands where it stood.
abbrev pub PlacesStay : (ℕ → Type 0) → Origins → (ℕ → Type 0) → Origins → Type 0
PlacesStay Made h After k = (c d : Kept) (f : Format) (unsure later : List Bool) (holds after : Holds) → HoldsMade c f Made h unsure holds → HoldsMade d f After k later after → FewerStand (known c.mind holds) (known d.mind after) → (b : ℕ) (q : Place) → Reaches d.mind.memory (to_block 1) b ⊎ After b → Stands (known c.mind holds) b q → Stands (known d.mind after) b q

-- In no image does a path from block 1, or from a root that is kept, lead to what was made; and roots that are kept stand at their place.
abbrev pub MadeHangs : (ℕ → Type 0) → Origins → Type 0
MadeHangs Made h = (c : Kept) (f : Format) (unsure : List Bool) (holds : Holds) → HoldsMade c f Made h unsure holds → ((image : Image) (t b : ℕ) → Remains (known c.mind holds) image → (t ≡ 1) ⊎ ((r : Root) × Contains c.roots r × (r.at ≡ t)) → Made b → Reaches image (to_block t) b → ⊥) × ((r : Root) → Contains c.roots r → Stands (known c.mind holds) r.at root_place)
