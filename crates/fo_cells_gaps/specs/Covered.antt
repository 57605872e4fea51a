-- What is to be closed after a put or a removal: what hung from the slot through blocks of pointers and hangs from block 1 no more, and what
-- was; no other block that did not hang from the slot.
use Rattle.std.specs.Prelude.{◌≡◌, ◌⊎◌, ℕ, Bool, List, [], ◌∷◌}
use Rattle.std.specs.List.{Contains}
use Rattle.fo_disk.specs.Disk.{Content as Holds}
use Rattle.fo_image.specs.declared.types.Pointer.TheVariants.{Local}
use Rattle.fo_crash.specs.declared.slot.Slot.{Slot}
use Rattle.fo_crash.specs.Images.{Reaches, target, to_block}
use Rattle.fo_crash.specs.Steps.{Covers, Through, cleared}
use Rattle.fo_cells.specs.Writes.{Puts, Fires}
use Rattle.fo_cells.specs.Device.{known}
use Rattle.fo_cells_out.specs.Removals.{Pending}
use Rattle.fo_cells_out.specs.Origins.{Origins, PutsMade, LosesMany, Fills, filled, copied_tree, lost_tree}
use Rattle.fo_cells_held.specs.Room.{Used}
use Rattle.fo_cells_all.specs.All.{Kept, Format}
use Rattle.fo_cells_steps.specs.Calls.{Beside}
use Rattle.fo_cells_steps.specs.Division.{HoldsMade, IsOfPointers, division}
use Rattle.fo_cells_steps.specs.Taking.{TakesOut, InTree}
use Rattle.fo_cells_puts.specs.Putting.{PutsOne, ComesNew, QueuesAll, seen_from, made_after, put_after}

-- `covers` of the trait
abbrev pub CoversFrom : ℕ → ℕ → Kept → Kept → (ℕ → Type 0) → (ℕ → Type 0) → Type 0
CoversFrom at i c d Made After = Covers (λ b. IsOfPointers (c.mind.label b).kind) ((c.mind.memory at).slot i) c.mind.memory d.mind.memory (division c Made).Covered (division d After).Covered

-- a path from the slot through blocks of pointers
abbrev pub InSource : ℕ → ℕ → Kept → ℕ → Type 0
InSource at i c b = Through (λ a. IsOfPointers (c.mind.label a).kind) c.mind.memory ((c.mind.memory at).slot i) b

abbrev pub SameCovers : (ℕ → Type 0) → Origins → Type 0
SameCovers Made h = (at i : ℕ) (s : Slot) (c d : Kept) (f : Format) (used : Used) (unsure : List Bool) (holds : Holds) → PutsOne at i s c d Made h.Apart [] holds → Reaches c.mind.memory (to_block 1) at ⊎ Made at → ((b : ℕ) → target s ≡ Local b → target ((c.mind.memory at).slot i) ≡ Local b) → ((b : ℕ) → target ((c.mind.memory at).slot i) ≡ Local b → target s ≡ Local b) → Beside c d f used holds → HoldsMade c f Made h unsure holds → CoversFrom at i c d Made Made

abbrev pub FillCovers : (ℕ → Type 0) → Origins → (ℕ → Type 0) → Type 0
FillCovers Made h Raises = (at i : ℕ) (s : Slot) (c d : Kept) (f : Format) (used : Used) (unsure : List Bool) (holds : Holds) → PutsOne at i s c d Made (filled h at s Raises).Apart [] holds → Fills at i s (seen_from c holds) (division c Made) h Raises → Beside c d f used holds → HoldsMade c f Made h unsure holds → CoversFrom at i c d Made Made

abbrev pub LinkCovers : (ℕ → Type 0) → Origins → Type 0
LinkCovers Made h = (at i y : ℕ) (s : Slot) (c d : Kept) (f : Format) (used : Used) (unsure : List Bool) (holds : Holds) → PutsOne at i s c d (made_after c Made holds y) (put_after h y).Apart [] holds → ComesNew at i s y c Made h holds → Beside c d f used holds → HoldsMade c f Made h unsure holds → CoversFrom at i c d Made (made_after c Made holds y)

-- where nothing of the slot's own source is `Lost`
abbrev pub ComesCovers : (ℕ → Type 0) → Origins → (ℕ → Type 0) → Type 0
ComesCovers Made h Lost = (at i top x y : ℕ) (s : Slot) (rs : List Pending) (c d : Kept) (f : Format) (used : Used) (unsure : List Bool) (holds : Holds) → PutsOne at i s c d (made_after c Made holds y) (put_after h y).Apart rs holds → PutsMade at i s (seen_from c holds) (seen_from d holds) (division c Made) h top x y Lost → QueuesAll s c d (division c Made) (copied_tree (seen_from c holds) (division c Made) h top y Lost) rs holds → ((b : ℕ) → InSource at i c b → Lost b → ⊥) → Beside c d f used holds → HoldsMade c f Made h unsure holds → CoversFrom at i c d Made (made_after c Made holds y)

abbrev pub LevelsCover : (ℕ → Type 0) → Origins → (ℕ → Type 0) → Type 0
LevelsCover Made h Lost = (at i x b : ℕ) (s : Slot) (rs : List Pending) (c d : Kept) (f : Format) (used : Used) (unsure : List Bool) (holds : Holds) → PutsOne at i s c d Made h.Apart rs holds → LosesMany at i s (seen_from c holds) (seen_from d holds) (division c Made) h x b Lost → QueuesAll s c d (division c Made) (lost_tree (seen_from c holds) (division c Made) x b Lost) rs holds → ((z : ℕ) → InSource at i c z → Lost z → ⊥) → Beside c d f used holds → HoldsMade c f Made h unsure holds → CoversFrom at i c d Made Made

-- a removal, where all of the slot's own source is queued
abbrev pub RemoveCovers : (ℕ → Type 0) → Origins → Type 0
RemoveCovers Made h = (at i x : ℕ) (blocks : List ℕ) (c d : Kept) (f : Format) (unsure : List Bool) (holds : Holds) → Puts at i (cleared ((c.mind.memory at).slot i)) (known c.mind holds) (known d.mind holds) ⊎ ((leaf : ℕ) × Fires at i leaf (known c.mind holds) (known d.mind holds)) → TakesOut at i c h x blocks → InTree at c d (record { blocks = blocks; after = at } ∷ []) → ((b : ℕ) → InSource at i c b → Contains blocks b) → HoldsMade c f Made h unsure holds → CoversFrom at i c d Made Made
