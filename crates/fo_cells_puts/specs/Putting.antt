-- A slot is put.
use Rattle.std.specs.Prelude.{◌≡◌, ◌≢◌, ◌⊎◌, ℕ, Bool, List, [], ◌++◌, map}
use Rattle.fo_disk.specs.Disk.{Content as Holds}
use Rattle.fo_image.specs.declared.types.Pointer.TheVariants.{Local}
use Rattle.fo_crash.specs.declared.slot.Slot.{Slot}
use Rattle.fo_crash.specs.Images.{Reaches, target, to_block}
use Rattle.fo_crash.specs.Steps.{AddsSlot, Brings}
use Rattle.fo_cells.specs.Known.{Known}
use Rattle.fo_cells.specs.Writes.{Puts}
use Rattle.fo_cells.specs.Safe.{IsLive}
use Rattle.fo_cells.specs.Device.{known}
use Rattle.fo_cells_out.specs.Removals.{Pending, IsCovered}
use Rattle.fo_cells_out.specs.Parents.{Tree, AllLeaving, Moves, blocks_of, view}
use Rattle.fo_cells_out.specs.Origins.{Origins, LinkedBy, Decided, PutsMade, LosesMany, Fills, filled, copied_tree, lost_tree}
use Rattle.fo_cells_held.specs.Room.{Used}
use Rattle.fo_cells_epochs.specs.Epochs.{FewerTops, root_top}
use Rattle.fo_cells_steps.specs.of_cells_queue.Queue.{IsOnce, past_blocks}
use Rattle.fo_cells_steps.specs.of_cells_all.All.{Kept, Format}
use Rattle.fo_cells_steps.specs.Division.{HoldsMade, division}
use Rattle.fo_cells_steps.specs.Calls.{SameEpoch, KeepsTops, Beside, images}

-- WHAT EACH PUT HAS: the slot is put into a current block, what it leads to is live, tops become fewer, and these removals are queued.
pub record PutsOne (at i : ℕ) (s : Slot) (c d : Kept) (After Apart : ℕ → Type 0) (rs : List Pending) (holds : Holds) : Type 0 where
  pub puts : Puts at i s (known c.mind holds) (known d.mind holds)
  pub other : at ≢ 1
  pub current : (c.mind.label at).epoch ≡ c.high
  pub brings : Brings c.mind.memory s (λ b. IsLive c.high (c.mind.label b))
  pub epoch : SameEpoch c d
  pub keeps : KeepsTops c d After Apart
  pub tops : d.mind.tops ≡ d.active ++ map root_top c.roots
  pub queue : d.queue ≡ c.queue ++ rs

-- the images with this slot are added
abbrev pub AddsThat : ℕ → ℕ → Slot → Kept → Kept → Holds → Type 0
AddsThat at i s c d holds = AddsSlot c.mind.memory at i s (λ image. Unit {0}) (images c holds) (images d holds)

-- THE SAME BLOCK: the slot leads where it led, or nowhere as before
abbrev pub SameSlotKeeps : (ℕ → Type 0) → Origins → Type 0
SameSlotKeeps Made h = (at i : ℕ) (s : Slot) (c d : Kept) (f : Format) (x : Used) (unsure : List Bool) (holds : Holds) → PutsOne at i s c d Made h.Apart [] holds → Reaches c.mind.memory (to_block 1) at ⊎ Made at → ((b : ℕ) → target s ≡ Local b → target ((c.mind.memory at).slot i) ≡ Local b) → ((b : ℕ) → target ((c.mind.memory at).slot i) ≡ Local b → target s ≡ Local b) → Beside c d f x holds → HoldsMade c f Made h unsure holds → AddsThat at i s c d holds × HoldsMade d f Made h unsure holds

-- what is seen of a cache's blocks from block 1 and what was made
abbrev pub seen_from : Kept → Holds → Known
seen_from c holds = view (known c.mind holds) c.active

-- A MADE BLOCK IS PUT INTO, or a slot of it is cleared. (`Raises`: what it is raised over by that.)
abbrev pub FillKeeps : (ℕ → Type 0) → Origins → (ℕ → Type 0) → Type 0
FillKeeps Made h Raises = (at i : ℕ) (s : Slot) (c d : Kept) (f : Format) (x : Used) (unsure : List Bool) (holds : Holds) → PutsOne at i s c d Made (filled h at s Raises).Apart [] holds → Fills at i s (seen_from c holds) (division c Made) h Raises → Beside c d f x holds → HoldsMade c f Made h unsure holds → AddsThat at i s c d holds × HoldsMade d f Made (filled h at s Raises) unsure holds

-- what is made then, and put nowhere: not y, nor what hangs from it
abbrev pub made_after : Kept → (ℕ → Type 0) → Holds → ℕ → ℕ → Type 0
made_after c Made holds y = λ b. Made b × (LinkedBy (seen_from c holds) (division c Made) y b → ⊥)

abbrev pub put_after : Origins → ℕ → Origins
put_after h y = record { Apart = λ b. h.Apart b × (b ≢ y); Copied = h.Copied; Instead = h.Instead }

-- A NEW BLOCK comes where the slot led nowhere, with all that was made below it.
pub record ComesNew (at i : ℕ) (s : Slot) (y : ℕ) (c : Kept) (Made : ℕ → Type 0) (h : Origins) (holds : Holds) : Type 0 where
  pub within : Reaches c.mind.memory (to_block 1) at
  pub empty : (b : ℕ) → target ((c.mind.memory at).slot i) ≡ Local b → ⊥
  pub put : target s ≡ Local y
  pub apart : h.Apart y
  pub none : (z : ℕ) → h.Instead y z → ⊥
  pub decided : (b : ℕ) → Made b → Decided (LinkedBy (seen_from c holds) (division c Made) y b)

abbrev pub LinkKeeps : (ℕ → Type 0) → Origins → Type 0
LinkKeeps Made h = (at i y : ℕ) (s : Slot) (c d : Kept) (f : Format) (x : Used) (unsure : List Bool) (holds : Holds) → PutsOne at i s c d (made_after c Made holds y) (put_after h y).Apart [] holds → ComesNew at i s y c Made h holds → Beside c d f x holds → HoldsMade c f Made h unsure holds → AddsThat at i s c d holds × HoldsMade d f (made_after c Made holds y) (put_after h y) unsure holds

-- WHAT IS QUEUED, in order: just what left the tree without being lost, none twice.
pub record QueuesAll (s : Slot) (c d : Kept) (t u : Tree) (rs : List Pending) (holds : Holds) : Type 0 where
  pub leaving : AllLeaving s (seen_from c holds) (seen_from d holds) t (past_blocks c.past ++ blocks_of c.queue) rs
  pub listed : (b : ℕ) → u.Covered b → t.Covered b ⊎ IsCovered rs b
  pub covered : (b : ℕ) → IsCovered rs b → u.Covered b
  pub once : IsOnce (blocks_of rs)

-- A MADE BLOCK COMES IN THE PLACE OF ANOTHER: a copy, or raised over one, with copies, raised and new blocks below it.
abbrev pub ComesKeeps : (ℕ → Type 0) → Origins → (ℕ → Type 0) → Type 0
ComesKeeps Made h Lost = (at i top x y : ℕ) (s : Slot) (rs : List Pending) (c d : Kept) (f : Format) (used : Used) (unsure : List Bool) (holds : Holds) → PutsOne at i s c d (made_after c Made holds y) (put_after h y).Apart rs holds → PutsMade at i s (seen_from c holds) (seen_from d holds) (division c Made) h top x y Lost → QueuesAll s c d (division c Made) (copied_tree (seen_from c holds) (division c Made) h top y Lost) rs holds → Beside c d f used holds → HoldsMade c f Made h unsure holds → AddsThat at i s c d holds × HoldsMade d f (made_after c Made holds y) (put_after h y) unsure holds

-- LEVELS ARE LOST: the slot leads to a block below the one it led to.
abbrev pub LosesKeeps : (ℕ → Type 0) → Origins → (ℕ → Type 0) → Type 0
LosesKeeps Made h Lost = (at i x b : ℕ) (s : Slot) (rs : List Pending) (c d : Kept) (f : Format) (used : Used) (unsure : List Bool) (holds : Holds) → PutsOne at i s c d Made h.Apart rs holds → LosesMany at i s (seen_from c holds) (seen_from d holds) (division c Made) h x b Lost → QueuesAll s c d (division c Made) (lost_tree (seen_from c holds) (division c Made) x b Lost) rs holds → Beside c d f used holds → HoldsMade c f Made h unsure holds → AddsThat at i s c d holds × HoldsMade d f Made h unsure holds

-- What is seen from the active trees moves by that one slot, where what is put is in the tree or was made.
abbrev pub MovesSeen : (ℕ → Type 0) → Origins → Type 0
MovesSeen Made h = (at i : ℕ) (s : Slot) (c d : Kept) (f : Format) (unsure : List Bool) (holds : Holds) → Puts at i s (known c.mind holds) (known d.mind holds) → FewerTops c.active d.active → d.mind.tops ≡ d.active ++ map root_top c.roots → (c.mind.label at).epoch ≡ c.high → ((b : ℕ) → target s ≡ Local b → Reaches c.mind.memory (to_block 1) b ⊎ Made b) → HoldsMade c f Made h unsure holds → Moves at i s (seen_from c holds) (seen_from d holds)
