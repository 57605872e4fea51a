-- What waits is closed.
use Rattle.std.specs.Prelude.{◌≡◌, ◌⊎◌, ◌≤◌, ℕ, true, false, Bool, List, [], ◌∷◌}
use Rattle.std.specs.List.{Contains}
use Rattle.fo_disk.specs.Disk.{Block}
use Rattle.fo_disk.specs.Disk.{Content as Holds}
use Rattle.fo_labels.specs.Region.{IsDataBlock, label_of}
use Rattle.fo_crash.specs.Steps.{AddsNothing}
use Rattle.fo_cells.specs.Known.{IsClear}
use Rattle.fo_cells.specs.Device.{known}
use Rattle.fo_cells_out.specs.Removals.{Pending}
use Rattle.fo_cells_out.specs.Origins.{Origins}
use Rattle.fo_cells_held.specs.Held.{ChangesLabels}
use Rattle.fo_cells_held.specs.Room.{Used, Spends, UsesLabels}
use Rattle.fo_cells_epochs.specs.Epochs.{IsRead}
use Rattle.fo_cells_queue.specs.Queue.{Queued, NewLabel, IsSetAfter, closed_at, first_past}
use Rattle.fo_cells_all.specs.All.{Kept, Format}
use Rattle.fo_cells_steps.specs.Division.{HoldsMade}
use Rattle.fo_cells_steps.specs.Calls.{images}

-- WHAT A CLOSING DOES BESIDE: the block of the label is dirty then. What is closed is dirty only where its last write failed, so that it may have
-- several versions: it stays dirty, and its bytes are kept.
pub record ClosesBeside (b epoch : ℕ) (c d : Kept) (f : Format) (x : Used) : Type 0 where
  pub read : d.mind.read ≡ c.mind.read
  pub memory : d.mind.memory ≡ c.mind.memory
  pub newborn : d.mind.newborn ≡ c.mind.newborn
  pub complete : d.mind.complete ≡ c.mind.complete
  pub waits : d.mind.waits ≡ c.mind.waits
  pub clears : d.mind.clears ≡ c.mind.clears
  pub low : d.mind.low ≡ c.mind.low
  pub labels : ChangesLabels c.mind d.mind c.times d.times
  pub label_dirty : (a : ℕ) → d.flags.dirty (c.mind.label_block a) ≡ false → (c.flags.dirty (c.mind.label_block a) ≡ false) × (d.mind.label a ≡ c.mind.label a)
  pub dirty : (a : ℕ) → d.flags.dirty a ≡ true → (c.flags.dirty a ≡ true) ⊎ (f.is_data a ≡ false)
  pub still : (a : ℕ) → d.flags.dirty a ≡ false → c.flags.dirty a ≡ false
  pub wrote : (a : ℕ) → d.flags.wrote a ≡ c.flags.wrote a
  pub failed : (a : ℕ) → d.flags.failed a ≡ c.flags.failed a
  pub unknown : d.flags.dirty b ≡ true → c.flags.failed b ≡ true
  pub begun : (c.mind.label b).epoch ≤ epoch
  pub held : (a : ℕ) → d.buffering.held a ≡ false → (c.buffering.held a ≡ false) × (d.flags.dirty a ≡ false)
  pub clean : (a : ℕ) (bytes : Block) → Contains d.buffering.clean (a, bytes) → Contains c.buffering.clean (a, bytes) × (d.buffering.held a ≡ false)
  pub region : (a : ℕ) → IsDataBlock d.region a → d.mind.label a ≡ label_of d.region a
  pub spends : Spends x c.promises d.promises c.space d.space
  pub uses : UsesLabels x.blocks c.mind.low d.mind.low c.region d.region

-- The next block of the first removal is closed, once the block after which it comes is set; nothing of it waits to be cleared.
pub record ClosesNext (b epoch after : ℕ) (c d : Kept) (holds : Holds) : Type 0 where
  pub label : NewLabel b (closed_at (c.mind.label b) epoch) (known c.mind holds) (known d.mind holds)
  pub set : IsSetAfter (known c.mind holds) after
  pub unclear : (i leaf : ℕ) → IsClear (known c.mind holds).clears b i leaf → ⊥
  pub high : d.high ≡ c.high
  pub doubts : d.doubts ≡ c.doubts
  pub active : d.active ≡ c.active
  pub roots : d.roots ≡ c.roots

-- of an earlier epoch
abbrev pub CloseEarlierKeeps : (ℕ → Type 0) → Origins → Type 0
CloseEarlierKeeps Made h = (b epoch after : ℕ) (bs : List ℕ) (rs : List Queued) (c d : Kept) (f : Format) (x : Used) (unsure : List Bool) (holds : Holds) → ClosesNext b epoch after c d holds → c.past ≡ first_past epoch (b ∷ bs) after ∷ rs → d.past ≡ first_past epoch bs after ∷ rs → d.queue ≡ c.queue → ClosesBeside b epoch c d f x → IsRead f.high_of → HoldsMade c f Made h unsure holds → AddsNothing (images c holds) (images d holds) × HoldsMade d f Made h unsure holds

-- of the active epoch; or at the next one, as the root of a snapshot that failed
abbrev pub CloseNowKeeps : (ℕ → Type 0) → Origins → Type 0
CloseNowKeeps Made h = (b epoch after : ℕ) (bs : List ℕ) (rs : List Pending) (c d : Kept) (f : Format) (x : Used) (unsure : List Bool) (holds : Holds) → ClosesNext b epoch after c d holds → c.high ≤ epoch → (epoch ≤ c.high) ⊎ (epoch ≡ (c.mind.label b).epoch) → c.past ≡ [] → d.past ≡ [] → c.queue ≡ record { blocks = b ∷ bs; after = after } ∷ rs → d.queue ≡ record { blocks = bs; after = after } ∷ rs → ClosesBeside b epoch c d f x → IsRead f.high_of → HoldsMade c f Made h unsure holds → AddsNothing (images c holds) (images d holds) × HoldsMade d f Made h unsure holds

-- A removal that has nothing left is gone.
abbrev pub PastDoneKeeps : (ℕ → Type 0) → Origins → Type 0
PastDoneKeeps Made h = (epoch after : ℕ) (rs : List Queued) (c : Kept) (f : Format) (unsure : List Bool) (holds : Holds) → c.past ≡ first_past epoch [] after ∷ rs → HoldsMade c f Made h unsure holds → HoldsMade (record c { past = rs }) f Made h unsure holds

abbrev pub DoneKeeps : (ℕ → Type 0) → Origins → Type 0
DoneKeeps Made h = (after : ℕ) (rs : List Pending) (c : Kept) (f : Format) (unsure : List Bool) (holds : Holds) → c.past ≡ [] → c.queue ≡ record { blocks = []; after = after } ∷ rs → HoldsMade c f Made h unsure holds → HoldsMade (record c { queue = rs }) f Made h unsure holds
