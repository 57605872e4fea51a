-- What a put or a removal loses: no block but those that hang from the entries of a source that leaves, and are not queued.
use Rattle.std.specs.Prelude.{◌≡◌, ◌⊎◌, ℕ, Bool, List, [], ◌∷◌}
use Rattle.std.specs.List.{Contains}
use Rattle.fo_disk.specs.Disk.{Content as Holds}
use Rattle.fo_image.specs.declared.types.Pointer.TheVariants.{Local}
use Rattle.fo_crash.specs.declared.slot.Slot.{Slot}
use Rattle.fo_crash.specs.Images.{Reaches, target, to_block}
use Rattle.fo_crash.specs.Steps.{cleared}
use Rattle.fo_cells.specs.Writes.{Puts, Fires}
use Rattle.fo_cells.specs.Device.{known}
use Rattle.fo_cells_out.specs.Removals.{Pending}
use Rattle.fo_cells_out.specs.Origins.{Origins, Decided, PutsMade, LosesMany, Fills, filled, copied_tree, lost_tree}
use Rattle.fo_cells_held.specs.Room.{Used}
use Rattle.fo_cells_lost.specs.Lost.{LosesOnly, AreShared}
use Rattle.fo_cells_all.specs.All.{Kept, Format}
use Rattle.fo_cells_steps.specs.Division.{HoldsMade, division}
use Rattle.fo_cells_steps.specs.Calls.{Beside}
use Rattle.fo_cells_steps.specs.Taking.{TakesOut, InTree}
use Rattle.fo_cells_puts.specs.Putting.{PutsOne, ComesNew, QueuesAll, seen_from, made_after, put_after}

-- The blocks that are lost then were lost before, or are in this gap; and what kept trees share stays so.
abbrev pub LosesJust : Kept → Kept → (ℕ → Type 0) → (ℕ → Type 0) → Holds → (ℕ → Type 0) → Type 0
LosesJust c d Made After holds Gap = LosesOnly (known c.mind holds) (known d.mind holds) (division c Made) (division d After) c.roots Gap × (AreShared (known c.mind holds) (division c Made) c.high c.roots c.past c.queue → AreShared (known d.mind holds) (division d After) d.high d.roots d.past d.queue)

-- the same block, a made block filled, a new one: nothing is lost
abbrev pub SameLoses : (ℕ → Type 0) → Origins → Type 0
SameLoses Made h = (at i : ℕ) (s : Slot) (c d : Kept) (f : Format) (used : Used) (unsure : List Bool) (holds : Holds) → PutsOne at i s c d Made h.Apart [] holds → Reaches c.mind.memory (to_block 1) at ⊎ Made at → ((b : ℕ) → target s ≡ Local b → target ((c.mind.memory at).slot i) ≡ Local b) → ((b : ℕ) → target ((c.mind.memory at).slot i) ≡ Local b → target s ≡ Local b) → Beside c d f used holds → HoldsMade c f Made h unsure holds → LosesJust c d Made Made holds (λ b. ⊥)

abbrev pub FillLoses : (ℕ → Type 0) → Origins → (ℕ → Type 0) → Type 0
FillLoses Made h Raises = (at i : ℕ) (s : Slot) (c d : Kept) (f : Format) (used : Used) (unsure : List Bool) (holds : Holds) → PutsOne at i s c d Made (filled h at s Raises).Apart [] holds → Fills at i s (seen_from c holds) (division c Made) h Raises → Beside c d f used holds → HoldsMade c f Made h unsure holds → LosesJust c d Made Made holds (λ b. ⊥)

abbrev pub LinkLoses : (ℕ → Type 0) → Origins → Type 0
LinkLoses Made h = (at i y : ℕ) (s : Slot) (c d : Kept) (f : Format) (used : Used) (unsure : List Bool) (holds : Holds) → PutsOne at i s c d (made_after c Made holds y) (put_after h y).Apart [] holds → ComesNew at i s y c Made h holds → Beside c d f used holds → HoldsMade c f Made h unsure holds → LosesJust c d Made (made_after c Made holds y) holds (λ b. ⊥)

-- a block in the place of another, and levels lost: what is `Lost`
abbrev pub ComesLoses : (ℕ → Type 0) → Origins → (ℕ → Type 0) → Type 0
ComesLoses Made h Lost = (at i top x y : ℕ) (s : Slot) (rs : List Pending) (c d : Kept) (f : Format) (used : Used) (unsure : List Bool) (holds : Holds) → PutsOne at i s c d (made_after c Made holds y) (put_after h y).Apart rs holds → PutsMade at i s (seen_from c holds) (seen_from d holds) (division c Made) h top x y Lost → QueuesAll s c d (division c Made) (copied_tree (seen_from c holds) (division c Made) h top y Lost) rs holds → Beside c d f used holds → HoldsMade c f Made h unsure holds → LosesJust c d Made (made_after c Made holds y) holds Lost

abbrev pub LevelsLose : (ℕ → Type 0) → Origins → (ℕ → Type 0) → Type 0
LevelsLose Made h Lost = (at i x b : ℕ) (s : Slot) (rs : List Pending) (c d : Kept) (f : Format) (used : Used) (unsure : List Bool) (holds : Holds) → PutsOne at i s c d Made h.Apart rs holds → LosesMany at i s (seen_from c holds) (seen_from d holds) (division c Made) h x b Lost → QueuesAll s c d (division c Made) (lost_tree (seen_from c holds) (division c Made) x b Lost) rs holds → Beside c d f used holds → HoldsMade c f Made h unsure holds → LosesJust c d Made Made holds Lost

-- a removal: what hangs from the slot and is not queued
abbrev pub left_out : Kept → ℕ → ℕ → List ℕ → ℕ → Type 0
left_out c at i blocks = λ b. Reaches c.mind.memory ((c.mind.memory at).slot i) b × (Contains blocks b → ⊥)

abbrev pub RemoveLoses : (ℕ → Type 0) → Origins → Type 0
RemoveLoses Made h = (at i x : ℕ) (blocks : List ℕ) (c d : Kept) (f : Format) (used : Used) (unsure : List Bool) (holds : Holds) → Puts at i (cleared ((c.mind.memory at).slot i)) (known c.mind holds) (known d.mind holds) ⊎ ((leaf : ℕ) × Fires at i leaf (known c.mind holds) (known d.mind holds)) → TakesOut at i c h x blocks → InTree at c d (record { blocks = blocks; after = at } ∷ []) → ((b : ℕ) → Decided (Reaches c.mind.memory ((c.mind.memory at).slot i) b)) → HoldsMade c f Made h unsure holds → LosesJust c d Made Made holds (left_out c at i blocks)
