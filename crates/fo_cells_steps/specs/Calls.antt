-- Each call in memory: by which cell the images grow, and that all that holds at every moment is kept.
use Rattle.std.specs.Prelude.{◌≡◌, ◌≢◌, ◌⊎◌, ℕ, Bool, List}
use Rattle.std.specs.List.{Contains}
use Rattle.fo_disk.specs.Disk.{Content as Holds}
use Rattle.fo_crash.specs.Images.{Image}
use Rattle.fo_crash.specs.Steps.{AddsNothing, AddsSlot, AddsBytes, cleared}
use Rattle.fo_crash.specs.Names.{SameUse}
use Rattle.fo_cells.specs.Known.{Top, IsWait, IsClear, Remains}
use Rattle.fo_cells.specs.Writes.{Ends}
use Rattle.fo_cells.specs.Calls.{PutsInto, Awaits, WaitsMore}
use Rattle.fo_cells.specs.Safe.{MayWait, MayClear}
use Rattle.fo_cells.specs.Laws.{NoWait}
use Rattle.fo_cells.specs.Device.{known}
use Rattle.fo_cells_out.specs.Origins.{Origins}
use Rattle.fo_cells_all.specs.of_cells_held.Room.{Used}
use Rattle.fo_cells_all.specs.of_cells_epochs.Epochs.{IsRead, FewerTops}
use Rattle.fo_cells_all.specs.All.{Kept, Format, StepsBeside}
use Rattle.fo_cells_steps.specs.Division.{HoldsMade}

-- A step within an epoch leaves what was kept of earlier ones.
pub record SameEpoch (c d : Kept) : Type 0 where
  pub high : d.high ≡ c.high
  pub doubts : d.doubts ≡ c.doubts
  pub roots : d.roots ≡ c.roots
  pub past : d.past ≡ c.past

-- It leaves the tops, and queues nothing.
pub record SameRest (c d : Kept) : Type 0 where
  pub epoch : SameEpoch c d
  pub active : d.active ≡ c.active
  pub queue : d.queue ≡ c.queue

-- The tops after a step: fewer, of block 1 and of what is made then, and those of what is put into no slot yet.
pub record KeepsTops (c d : Kept) (After : ℕ → Type 0) (Apart : ℕ → Type 0) : Type 0 where
  pub fewer : FewerTops c.active d.active
  pub made : (y : Top) → Contains d.active y → (y.at ≡ 1) ⊎ After y.at
  pub apart : (y : Top) → Contains c.active y → Apart y.at → Contains d.active y

-- what a step in memory does beside what is known of blocks
pub record Beside (c d : Kept) (f : Format) (x : Used) (holds : Holds) : Type 0 where
  pub steps : StepsBeside c d f x holds
  pub read : IsRead f.high_of

-- the images that a crash may leave
abbrev pub images : Kept → Holds → Image → Type 0
images c holds = Remains (known c.mind holds)

-- ---- STEPS AFTER WHICH EACH SLOT OF MEMORY IS AS IT WAS

-- `put_bytes`
abbrev pub PutBytesKeeps : (ℕ → Type 0) → Origins → Type 0
PutBytesKeeps Made h = (at : ℕ) (bytes : List ℕ) (c d : Kept) (f : Format) (x : Used) (unsure : List Bool) (holds : Holds) → PutsInto at bytes (known c.mind holds) (known d.mind holds) → at ≢ 1 → (c.mind.label at).epoch ≡ c.high → SameRest c d → Beside c d f x holds → HoldsMade c f Made h unsure holds → AddsBytes c.mind.memory at ((d.mind.memory at).bytes) (λ image. (on j : ℕ) → IsWait c.mind.waits at on j → ((leaf : ℕ) → IsClear (known c.mind holds).clears on j leaf → ⊥) → SameUse ((image on).slot j) ((c.mind.memory on).slot j)) (images c holds) (images d holds) × HoldsMade d f Made h unsure holds

-- `wait_for`
abbrev pub WaitForKeeps : (ℕ → Type 0) → Origins → Type 0
WaitForKeeps Made h = (c d : Kept) (f : Format) (x : Used) (unsure : List Bool) (holds : Holds) → WaitsMore (known c.mind holds) (known d.mind holds) → ((leaf on j : ℕ) → IsWait d.mind.waits leaf on j → IsWait c.mind.waits leaf on j ⊎ MayWait (known c.mind holds) leaf on) → SameRest c d → Beside c d f x holds → HoldsMade c f Made h unsure holds → AddsNothing (images c holds) (images d holds) × HoldsMade d f Made h unsure holds

-- `remove_slot` that waits
abbrev pub RemoveLaterKeeps : (ℕ → Type 0) → Origins → Type 0
RemoveLaterKeeps Made h = (at i leaf : ℕ) (c d : Kept) (f : Format) (x : Used) (unsure : List Bool) (holds : Holds) → Awaits at i leaf (known c.mind holds) (known d.mind holds) → MayClear (known c.mind holds) c.high at leaf → SameRest c d → Beside c d f x holds → HoldsMade c f Made h unsure holds → AddsSlot c.mind.memory at i (cleared ((c.mind.memory at).slot i)) (λ image. (image leaf).bytes ≡ (c.mind.memory leaf).bytes) (images c holds) (images d holds) × HoldsMade d f Made h unsure holds

-- the end of a wait
abbrev pub EndKeeps : (ℕ → Type 0) → Origins → Type 0
EndKeeps Made h = (c d : Kept) (f : Format) (x : Used) (unsure : List Bool) (holds : Holds) → Ends (known c.mind holds) (known d.mind holds) → NoWait (known c.mind holds) (known d.mind holds) → SameRest c d → Beside c d f x holds → HoldsMade c f Made h unsure holds → AddsNothing (images c holds) (images d holds) × HoldsMade d f Made h unsure holds
