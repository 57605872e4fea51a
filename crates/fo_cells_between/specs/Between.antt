-- WHAT HOLDS from when a snapshot's new root is given out until the super block that names it counts, or is overruled.
use Rattle.std.specs.Prelude.{◌≡◌, ◌≢◌, ◌⊎◌, ◌≤◌, ℕ, suc, Bool, List, [], ◌∷◌}
use Rattle.fo_disk.specs.Disk.{Content as Holds}
use Rattle.fo_image.specs.declared.types.State.TheVariants.{Live}
use Rattle.fo_image.specs.declared.types.Pointer.TheVariants.{Local}
use Rattle.fo_crash.specs.declared.slot.Slot.{Slot}
use Rattle.fo_crash.specs.declared.place.Place.{Place}
use Rattle.fo_crash.specs.Images.{Content, target, to_block}
use Rattle.fo_crash.specs.Places.{root_place}
use Rattle.fo_cells.specs.Known.{Top, MaySlot, Stands}
use Rattle.fo_cells.specs.Safe.{super_top}
use Rattle.fo_cells.specs.Device.{known}
use Rattle.fo_cells_out.specs.Removals.{IsCovered}
use Rattle.fo_cells_epochs.specs.Epochs.{HasEpochs, IsRead}
use Rattle.fo_cells_all.specs.All.{Kept, Format, HoldsBeside}
use Rattle.fo_cells_steps.specs.Division.{division}
use Rattle.fo_cells_turns.specs.Opening.{none_made, no_origins}
use Rattle.fo_cells_whole.specs.Awaited.{WaitsUsed}
use Rattle.fo_cells_whole.specs.Whole.{HoldsWhole}

-- The content leads where another leads, by the same slots. (The slot with the root before leads nowhere, and may differ.)
pub record LeadsAs (content source : Content) : Type 0 where
  pub targets : (i : ℕ) → target (content.slot i) ≡ target (source.slot i)
  pub slots : (i b : ℕ) → target (content.slot i) ≡ Local b → content.slot i ≡ source.slot i

-- BEFORE the new root was given out the whole held, with nothing made, and block 1 led to the old root alone. The new root stood nowhere.
pub record BeginsAt (root next : ℕ) (first : Kept) (f : Format) (before : Holds) : Type 0 where
  pub unsure : List Bool
  pub whole : HoldsWhole first f none_made no_origins unsure before
  pub read : IsRead f.high_of
  pub active : first.active ≡ super_top ∷ []
  pub leads : (first.mind.memory 1).slot 0 ≡ to_block root
  pub only : (i b : ℕ) → target ((first.mind.memory 1).slot i) ≡ Local b → i ≡ 0
  -- the low epoch is no higher, and what waits was given out by now
  pub low : first.mind.low ≤ first.high
  pub begun : (b : ℕ) → IsCovered first.queue b → (first.mind.label b).epoch ≤ first.high
  pub other : next ≢ 1
  pub nowhere : (q : Place) → Stands (known first.mind before) next q → ⊥
  pub fresh : ((division first none_made).Within next → ⊥) × ((division first none_made).Covered next → ⊥)

-- the new root, which is a top
abbrev pub next_top : ℕ → Top
next_top next = record { at = next; place = root_place }

-- IN BETWEEN: trees, super blocks, and what is beside hold as ever, with the new root as a top, which is live, of the next epoch, and leads
-- where the old one leads. All else in memory is as it was, and so are removals. On the device no other block may lead where it could not
-- before, but block 1, by the super block in doubt; the new root has the slots of memory alone; what stands did, but for the new root; and
-- what leaves wait for is in use, as before.
pub record HoldsBetween (root next : ℕ) (first : Kept) (before : Holds) (c : Kept) (f : Format) (unsure : List Bool) (holds : Holds) : Type 0 where
  pub begins : BeginsAt root next first f before
  pub epochs : HasEpochs (known c.mind holds) c.high f.high_of c.doubts c.active c.roots
  pub beside : HoldsBeside c f unsure holds
  pub high : c.high ≡ first.high
  pub roots : c.roots ≡ first.roots
  pub past : c.past ≡ first.past
  pub queue : c.queue ≡ first.queue
  pub active : c.active ≡ next_top next ∷ first.active
  pub low : c.mind.low ≡ first.mind.low
  pub label : (b : ℕ) → b ≢ next → c.mind.label b ≡ first.mind.label b
  pub live : (c.mind.label next).state ≡ Live
  pub epoch : (c.mind.label next).epoch ≡ suc first.high
  pub memory : (a i : ℕ) → a ≢ next → (c.mind.memory a).slot i ≡ (first.mind.memory a).slot i
  pub leads : LeadsAs (c.mind.memory next) (first.mind.memory root)
  pub may : (a i : ℕ) (s : Slot) → a ≢ 1 → a ≢ next → MaySlot (known c.mind holds) a i s → MaySlot (known first.mind before) a i s
  pub may_next : (i : ℕ) (s : Slot) → MaySlot (known c.mind holds) next i s → s ≡ (c.mind.memory next).slot i
  pub stands : (b : ℕ) (q : Place) → Stands (known c.mind holds) b q → Stands (known first.mind before) b q ⊎ (b ≡ next)
  pub awaited : WaitsUsed c.mind.waits c.mind.memory
