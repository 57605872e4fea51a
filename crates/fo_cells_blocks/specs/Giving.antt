-- A block is given out, empty or as a copy of an older one.
use Rattle.std.specs.Prelude.{◌≡◌, ◌≢◌, ◌⊎◌, ◌<◌, ◌≤◌, ℕ, true, Bool, List, ◌∷◌, ◌++◌, map}
use Rattle.fo_disk.specs.Disk.{Content as Holds}
use Rattle.fo_image.specs.declared.types.Pointer.TheVariants.{Local}
use Rattle.fo_image.specs.declared.types.State.TheVariants.{Live}
use Rattle.fo_image.specs.Usable.{is_usable}
use Rattle.fo_crash.specs.declared.place.Place.{Place}
use Rattle.fo_crash.specs.Images.{Content, Reaches, target, to_block}
use Rattle.fo_crash.specs.Steps.{AddsBlock}
use Rattle.fo_cells.specs.Known.{Stands}
use Rattle.fo_cells.specs.Writes.{Gives}
use Rattle.fo_cells.specs.Laws.{NoWait}
use Rattle.fo_cells.specs.Device.{known}
use Rattle.fo_cells_out.specs.Origins.{Origins, given}
use Rattle.fo_cells_held.specs.Room.{Used}
use Rattle.fo_cells_epochs.specs.Epochs.{root_top}
use Rattle.fo_cells_all.specs.All.{Kept, Format}
use Rattle.fo_cells_steps.specs.Division.{HoldsMade}
use Rattle.fo_cells_steps.specs.Calls.{SameEpoch, Beside, images}

-- A usable block is given out with this content for this place: it is live, of the high epoch or, a snapshot's new root, of the next; it is
-- a top, and waits for nothing.
pub record GivesOne (at : ℕ) (content : Content) (p : Place) (c d : Kept) (holds : Holds) : Type 0 where
  pub gives : Gives at content p (known c.mind holds) (known d.mind holds)
  pub other : at ≢ 1
  pub usable : is_usable c.mind.low (c.mind.label at) ≡ true
  pub live : (d.mind.label at).state ≡ Live
  pub begun : c.high ≤ (d.mind.label at).epoch
  pub waits : NoWait (known c.mind holds) (known d.mind holds)
  pub epoch : SameEpoch c d
  pub queue : d.queue ≡ c.queue
  pub active : d.active ≡ record { at = at; place = p } ∷ c.active
  pub tops : d.mind.tops ≡ d.active ++ map root_top c.roots

-- with one block more that was made
abbrev pub made_with : (ℕ → Type 0) → ℕ → ℕ → Type 0
made_with Made at = λ b. Made b ⊎ (b ≡ at)

-- it is in all images, and no path from what stood leads to it
abbrev pub AddsThis : ℕ → Content → Kept → Kept → Holds → Type 0
AddsThis at content c d holds = AddsBlock (λ t. (r : Place) × Stands (known c.mind holds) t r) at content (images c holds) (images d holds)

-- `new_block`: no slot leads on
abbrev pub NewBlockKeeps : (ℕ → Type 0) → Origins → Type 0
NewBlockKeeps Made h = (at : ℕ) (content : Content) (p : Place) (c d : Kept) (f : Format) (x : Used) (unsure : List Bool) (holds : Holds) → GivesOne at content p c d holds → ((i t : ℕ) → target (content.slot i) ≡ Local t → ⊥) → Beside c d f x holds → HoldsMade c f Made h unsure holds → AddsThis at content c d holds × HoldsMade d f (made_with Made at) (given h at (λ z. ⊥)) unsure holds

-- the block that is copied: an older one of the tree, at its place
pub record CopiesThis (from at : ℕ) (p : Place) (c d : Kept) (holds : Holds) : Type 0 where
  pub within : Reaches c.mind.memory (to_block 1) from
  pub other : from ≢ 1
  pub older : (c.mind.label from).epoch < c.high
  pub stands : Stands (known c.mind holds) from p
  pub kind : (d.mind.label at).kind ≡ (c.mind.label from).kind

-- `copy`
abbrev pub CopyKeeps : (ℕ → Type 0) → Origins → Type 0
CopyKeeps Made h = (at from : ℕ) (p : Place) (c d : Kept) (f : Format) (x : Used) (unsure : List Bool) (holds : Holds) → GivesOne at (c.mind.memory from) p c d holds → CopiesThis from at p c d holds → Beside c d f x holds → HoldsMade c f Made h unsure holds → AddsThis at (c.mind.memory from) c d holds × HoldsMade d f (made_with Made at) (given h at (λ z. z ≡ from)) unsure holds
