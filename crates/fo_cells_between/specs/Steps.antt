-- Each step of a snapshot: by which cell the images grow, and that what has to hold is kept.
use Rattle.std.specs.Prelude.{◌≡◌, ◌≢◌, ◌≤◌, ℕ, suc, false, true, Bool, List, [], ◌∷◌, ◌++◌, map}
use Rattle.std.specs.List.{Contains}
use Rattle.fo_disk.specs.Disk.{Content as Holds}
use Rattle.fo_image.specs.declared.types.Pointer.TheVariants.{Local}
use Rattle.fo_crash.specs.Images.{Content, SameContent, target, to_block}
use Rattle.fo_crash.specs.Places.{root_place}
use Rattle.fo_crash.specs.Steps.{AddsNothing, AddsSuper}
use Rattle.fo_cells.specs.Safe.{super_top}
use Rattle.fo_cells.specs.Calls.{TriesSuper}
use Rattle.fo_cells.specs.Flags.{IsUnmarked}
use Rattle.fo_cells.specs.Device.{Clearing, known}
use Rattle.fo_cells_out.specs.Removals.{IsCovered}
use Rattle.fo_cells_held.specs.Room.{HasRoom, Used}
use Rattle.fo_cells_epochs.specs.Epochs.{IsLabelSet, kept_root, root_top}
use Rattle.fo_cells_begin.specs.Begin.{ended, old_root}
use Rattle.fo_cells_lost.specs.Lost.{IsLost}
use Rattle.fo_cells_all.specs.All.{Kept, Format, HoldsBeside}
use Rattle.fo_cells_steps.specs.Division.{division}
use Rattle.fo_cells_steps.specs.Calls.{Beside, images}
use Rattle.fo_cells_whole.specs.of_cells_blocks.Giving.{GivesOne, AddsThis}
use Rattle.fo_cells_supers.specs.Supers.{SameTrees}
use Rattle.fo_cells_turns.specs.Opening.{none_made, no_origins}
use Rattle.fo_cells_whole.specs.Whole.{HoldsWhole}
use Rattle.fo_cells_between.specs.Between.{LeadsAs, HoldsBetween}

-- ---- the new root is given out

-- A usable block is given out at the place of a root, of the next epoch, which leads where the root of memory leads. Nothing was made.
pub record GivesRoot (root next : ℕ) (content : Content) (first c : Kept) (before : Holds) : Type 0 where
  pub gives : GivesOne next content root_place first c before
  pub epoch : (c.mind.label next).epoch ≡ suc first.high
  pub content_leads : LeadsAs content (first.mind.memory root)
  pub active : first.active ≡ super_top ∷ []
  pub leads : (first.mind.memory 1).slot 0 ≡ to_block root
  pub only : (i b : ℕ) → target ((first.mind.memory 1).slot i) ≡ Local b → i ≡ 0
  pub low : first.mind.low ≤ first.high
  pub begun : (b : ℕ) → IsCovered first.queue b → (first.mind.label b).epoch ≤ first.high

abbrev pub GiveRootKeeps : Type 0
GiveRootKeeps = (root next : ℕ) (content : Content) (first c : Kept) (f : Format) (x : Used) (unsure : List Bool) (before : Holds) → GivesRoot root next content first c before → Beside first c f x before → HoldsWhole first f none_made no_origins unsure before → AddsThis next content first c before × HoldsBetween root next first before c f unsure before

-- ---- its super block is tried

-- A super block of the next epoch that leads to the new root, and nowhere else.
pub record NamesRoot (s : Content) (next high : ℕ) (f : Format) : Type 0 where
  pub leads : s.slot 0 ≡ to_block next
  pub only : (i b : ℕ) → target (s.slot i) ≡ Local b → i ≡ 0
  pub high_is : f.high_of s ≡ suc high

-- It is written, or tried; the label of the new root is set. (`write_kept` gives the trial itself, and what holds beside.)
pub record TriesRoot (s : Content) (next : ℕ) (c d : Kept) (f : Format) (later : List Bool) (holds after : Holds) : Type 0 where
  pub tries : TriesSuper s (known c.mind holds) (known d.mind after)
  pub names : NamesRoot s next c.high f
  pub set : IsLabelSet (known c.mind holds) next
  pub same : SameTrees c d
  pub doubts : d.doubts ≡ s ∷ []
  pub beside : HoldsBeside d f later after

abbrev pub TryRootKeeps : Type 0
TryRootKeeps = (s : Content) (root next : ℕ) (first c d : Kept) (f : Format) (unsure later : List Bool) (before holds after : Holds) → TriesRoot s next c d f later holds after → HoldsBetween root next first before c f unsure holds → AddsSuper c.mind.memory (λ image. SameContent (image 1) s) (images c holds) (images d after) × HoldsBetween root next first before d f later after

-- ---- the end of it

-- What stays, and that there is room for one removal more.
pub record RestStays (c d : Kept) : Type 0 where
  pub buffering : d.buffering ≡ c.buffering
  pub times : d.times ≡ c.times
  pub region : d.region ≡ c.region
  pub room : HasRoom c.mind.low c.region d.promises d.space

-- No block but block 1 has a flag, none is newborn, and no slot waits to be cleared.
pub record IsSettledBeside (c : Kept) : Type 0 where
  pub unmarked : (b : ℕ) → b ≢ 1 → IsUnmarked c.flags b
  pub settled : (b : ℕ) → c.mind.newborn b ≡ false
  pub unclear : (k : Clearing) → Contains c.mind.clears k → ⊥

-- THE SNAPSHOT COUNTS: its super block is alone on the device, and all else is settled. It is memory's now, in the next epoch; the old root is
-- kept, and waits after block 1; the removals of the epoch that ended are of an earlier one.
pub record CountsRoot (s : Content) (root next : ℕ) (first c d : Kept) (f : Format) (holds : Holds) : Type 0 where
  pub names : NamesRoot s next first.high f
  pub some : Contains ((known c.mind holds).versions 1) s
  pub alone : (v : Content) → Contains ((known c.mind holds).versions 1) v → v ≡ s
  pub settled : IsSettledBeside c
  -- block 1 is no data block and no block of labels, and has a buffer
  pub super : f.is_data 1 ≡ false
  pub labels : (b : ℕ) → c.mind.label_block b ≢ 1
  pub held : c.buffering.held 1 ≡ true
  pub mind : d.mind ≡ record c.mind { memory = d.mind.memory; tops = super_top ∷ map root_top (kept_root root first.high ∷ first.roots) }
  pub here : d.mind.memory 1 ≡ s
  pub others : (b : ℕ) → b ≢ 1 → d.mind.memory b ≡ c.mind.memory b
  pub dirty : (b : ℕ) → b ≢ 1 → d.flags.dirty b ≡ c.flags.dirty b
  pub dirty_one : d.flags.dirty 1 ≡ true → c.flags.dirty 1 ≡ true
  pub wrote : (b : ℕ) → d.flags.wrote b ≡ c.flags.wrote b
  pub failed : (b : ℕ) → d.flags.failed b ≡ c.flags.failed b
  pub rest : RestStays c d
  pub high : d.high ≡ suc first.high
  pub doubts : d.doubts ≡ []
  pub active : d.active ≡ super_top ∷ []
  pub roots : d.roots ≡ kept_root root first.high ∷ first.roots
  pub past : d.past ≡ first.past ++ ended first.high first.queue
  pub queue : d.queue ≡ old_root root

abbrev pub CountRootKeeps : Type 0
CountRootKeeps = (s : Content) (root next : ℕ) (first c d : Kept) (f : Format) (unsure : List Bool) (before holds : Holds) → CountsRoot s root next first c d f holds → HoldsBetween root next first before c f unsure holds → AddsNothing (images c holds) (images d holds) × HoldsWhole d f none_made no_origins unsure holds

-- THE SNAPSHOT IS GIVEN UP, before a super block is tried, or once it is overruled: block 1 has on the device what memory has. The new root
-- waits after block 1.
pub record DropsRoot (next : ℕ) (first c d : Kept) (holds : Holds) : Type 0 where
  pub alone : (v : Content) → Contains ((known c.mind holds).versions 1) v → SameContent v (c.mind.memory 1)
  pub mind : d.mind ≡ record c.mind { tops = super_top ∷ map root_top first.roots }
  pub flags : d.flags ≡ c.flags
  pub rest : RestStays c d
  pub high : d.high ≡ first.high
  pub doubts : d.doubts ≡ []
  pub active : d.active ≡ super_top ∷ []
  pub roots : d.roots ≡ first.roots
  pub past : d.past ≡ first.past
  pub queue : d.queue ≡ first.queue ++ record { blocks = next ∷ []; after = 1 } ∷ []

abbrev pub DropRootKeeps : Type 0
DropRootKeeps = (root next : ℕ) (first c d : Kept) (f : Format) (unsure : List Bool) (before holds : Holds) → DropsRoot next first c d holds → HoldsBetween root next first before c f unsure holds → AddsNothing (images c holds) (images d holds) × HoldsWhole d f none_made no_origins unsure holds

-- No block is lost by it.
abbrev pub DropRootLoses : Type 0
DropRootLoses = (root next : ℕ) (first c d : Kept) (f : Format) (unsure : List Bool) (before holds : Holds) → DropsRoot next first c d holds → HoldsBetween root next first before c f unsure holds → (b : ℕ) → IsLost (known d.mind holds) (division d none_made) d.roots b → IsLost (known first.mind before) (division first none_made) first.roots b
