-- A slot of the tree is cleared, at once or when its leaf is settled, and what leaves with it is queued.
use Rattle.std.specs.Prelude.{◌≡◌, ◌≢◌, ◌⊎◌, ℕ, Bool, List, [], ◌∷◌, ◌++◌}
use Rattle.std.specs.List.{Contains}
use Rattle.fo_disk.specs.Disk.{Content as Holds}
use Rattle.fo_image.specs.declared.types.Pointer.TheVariants.{Local}
use Rattle.fo_crash.specs.Images.{Reaches, target, to_block}
use Rattle.fo_crash.specs.Steps.{AddsNothing, AddsSlot, Fills, HasBytes, cleared}
use Rattle.fo_cells.specs.Writes.{Puts, Fires}
use Rattle.fo_cells.specs.Calls.{IsSetLeaf}
use Rattle.fo_cells.specs.Laws.{NoWait}
use Rattle.fo_cells.specs.Device.{known}
use Rattle.fo_cells_out.specs.Removals.{Pending}
use Rattle.fo_cells_out.specs.Origins.{Origins}
use Rattle.fo_cells_all.specs.of_cells_held.Room.{Used}
use Rattle.fo_cells_all.specs.of_cells_queue.Queue.{IsOnce}
use Rattle.fo_cells_all.specs.All.{Kept, Format}
use Rattle.fo_cells_steps.specs.Division.{HoldsMade, IsOfPointers}
use Rattle.fo_cells_steps.specs.Calls.{SameEpoch, Beside, images}

-- WHAT LEAVES with slot i of `at`, which led to x: these blocks are queued, which hang together from x. The slot is no slot 0 of a block of
-- pointers, and nothing was made that is to come in the place of what leaves.
pub record TakesOut (at i : ℕ) (c : Kept) (h : Origins) (x : ℕ) (blocks : List ℕ) : Type 0 where
  pub leads : target ((c.mind.memory at).slot i) ≡ Local x
  pub first : IsOfPointers (c.mind.label at).kind → i ≡ 0 → ⊥
  pub alone : (w z : ℕ) → h.Apart w → h.Instead w z → Reaches c.mind.memory ((c.mind.memory at).slot i) z → ⊥
  pub only : (b : ℕ) → Contains blocks b → (b ≡ x) ⊎ ((a : ℕ) × (j : ℕ) × Contains blocks a × (target ((c.mind.memory a).slot j) ≡ Local b))
  pub below : (b : ℕ) → Contains blocks b → Reaches c.mind.memory ((c.mind.memory at).slot i) b
  pub once : IsOnce blocks

-- what is queued: nothing, where the slot led nowhere; or one removal, after the block that lost the slot
abbrev pub LeavesWith : ℕ → ℕ → Kept → Origins → List Pending → Type 0
LeavesWith at i c h rs = (((b : ℕ) → target ((c.mind.memory at).slot i) ≡ Local b → ⊥) × (rs ≡ [])) ⊎ ((x : ℕ) × (blocks : List ℕ) × TakesOut at i c h x blocks × (rs ≡ record { blocks = blocks; after = at } ∷ []))

-- A step of the tree: the block is in it, and current; the tops stay; these removals are queued.
pub record InTree (at : ℕ) (c d : Kept) (rs : List Pending) : Type 0 where
  pub within : Reaches c.mind.memory (to_block 1) at
  pub other : at ≢ 1
  pub current : (c.mind.label at).epoch ≡ c.high
  pub epoch : SameEpoch c d
  pub active : d.active ≡ c.active
  pub tops : d.mind.tops ≡ c.mind.tops
  pub queue : d.queue ≡ c.queue ++ rs

-- `remove_slot` at once, after nothing or after a leaf that is set
abbrev pub RemoveSlotKeeps : (ℕ → Type 0) → Origins → Type 0
RemoveSlotKeeps Made h = (at i : ℕ) (rs : List Pending) (c d : Kept) (f : Format) (x : Used) (unsure : List Bool) (holds : Holds) → Puts at i (cleared ((c.mind.memory at).slot i)) (known c.mind holds) (known d.mind holds) → LeavesWith at i c h rs → InTree at c d rs → Beside c d f x holds → HoldsMade c f Made h unsure holds → AddsSlot c.mind.memory at i (cleared ((c.mind.memory at).slot i)) (λ image. Unit {0}) (images c holds) (images d holds) × ((leaf : ℕ) → IsSetLeaf (known d.mind holds) leaf → AddsSlot c.mind.memory at i (cleared ((c.mind.memory at).slot i)) (λ image. (image leaf).bytes ≡ (c.mind.memory leaf).bytes) (images c holds) (images d holds) × HasBytes c.mind.memory leaf (images d holds)) × HoldsMade d f Made h unsure holds

-- a slot that waited is cleared
abbrev pub ClearingKeeps : (ℕ → Type 0) → Origins → Type 0
ClearingKeeps Made h = (at i leaf : ℕ) (rs : List Pending) (c d : Kept) (f : Format) (x : Used) (unsure : List Bool) (holds : Holds) → Fires at i leaf (known c.mind holds) (known d.mind holds) → NoWait (known c.mind holds) (known d.mind holds) → LeavesWith at i c h rs → InTree at c d rs → Beside c d f x holds → HoldsMade c f Made h unsure holds → AddsNothing (images c holds) (images d holds) × Fills (λ b j. (b ≡ at) × (j ≡ i)) c.mind.memory (images c holds) (images d holds) × HoldsMade d f Made h unsure holds
