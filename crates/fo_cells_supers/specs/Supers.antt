-- Super blocks of one epoch are tried, count, and are overruled; and the low epoch rises.
use Rattle.std.specs.Prelude.{◌≡◌, ◌≢◌, ◌≤◌, ℕ, true, false, Bool, List, [], ◌∷◌, ◌++◌, map}
use Rattle.std.specs.List.{Contains}
use Rattle.fo_disk.specs.Disk.{Content as Holds}
use Rattle.fo_image.specs.declared.types.Pointer.TheVariants.{Local}
use Rattle.fo_crash.specs.Images.{Content, SameContent, target}
use Rattle.fo_crash.specs.Steps.{AddsNothing, AddsSuper}
use Rattle.fo_cells.specs.Calls.{TriesSuper, CountsSuper}
use Rattle.fo_cells.specs.Device.{known}
use Rattle.fo_cells_out.specs.Origins.{Origins}
use Rattle.fo_cells_epochs.specs.Epochs.{Root, root_top, IsRead, IsLabelSet, RaisesLow}
use Rattle.fo_cells_all.specs.All.{Kept, Format, HoldsBeside}
use Rattle.fo_cells_steps.specs.Division.{HoldsMade}
use Rattle.fo_cells_steps.specs.Calls.{images}

-- All but block 1 and the doubt stays.
pub record SameTrees (c d : Kept) : Type 0 where
  pub high : d.high ≡ c.high
  pub active : d.active ≡ c.active
  pub roots : d.roots ≡ c.roots
  pub past : d.past ≡ c.past
  pub queue : d.queue ≡ c.queue

-- A super block is written, or tried, which leads where memory's leads, in the same epoch, as with a new limit of file numbers. What it leads
-- to has a label that is set. (`write_kept` gives the trial itself, and what holds beside.)
pub record TriesOne (s : Content) (c d : Kept) (f : Format) (later : List Bool) (holds after : Holds) : Type 0 where
  pub tries : TriesSuper s (known c.mind holds) (known d.mind after)
  pub slots : (i : ℕ) → s.slot i ≡ (c.mind.memory 1).slot i
  pub high_is : f.high_of s ≡ c.high
  pub set : (i b : ℕ) → target (s.slot i) ≡ Local b → IsLabelSet (known c.mind holds) b
  pub same : SameTrees c d
  pub doubts : d.doubts ≡ s ∷ []
  pub beside : HoldsBeside d f later after
  pub read : IsRead f.high_of

abbrev pub TryKeeps : (ℕ → Type 0) → Origins → Type 0
TryKeeps Made h = (s : Content) (c d : Kept) (f : Format) (unsure later : List Bool) (holds after : Holds) → TriesOne s c d f later holds after → HoldsMade c f Made h unsure holds → AddsSuper c.mind.memory (λ image. SameContent (image 1) s) (images c holds) (images d after) × HoldsMade d f Made h later after

-- What counts is alone on the device, so block 1 may be clean then; nothing else changes.
pub record CountsBeside (s : Content) (c d : Kept) (f : Format) (holds : Holds) : Type 0 where
  pub mind : d.mind ≡ record c.mind { memory = d.mind.memory }
  pub others : (b : ℕ) → b ≢ 1 → d.mind.memory b ≡ c.mind.memory b
  pub dirty : (b : ℕ) → b ≢ 1 → d.flags.dirty b ≡ c.flags.dirty b
  pub dirty_one : d.flags.dirty 1 ≡ true → c.flags.dirty 1 ≡ true
  pub wrote : (b : ℕ) → d.flags.wrote b ≡ c.flags.wrote b
  pub failed : (b : ℕ) → d.flags.failed b ≡ c.flags.failed b
  pub buffering : d.buffering ≡ c.buffering
  pub held : c.buffering.held 1 ≡ true
  pub times : d.times ≡ c.times
  pub region : d.region ≡ c.region
  pub promises : d.promises ≡ c.promises
  pub space : d.space ≡ c.space
  pub super : f.is_data 1 ≡ false
  pub labels : (b : ℕ) → c.mind.label_block b ≢ 1

pub record CountsOne (s : Content) (c d : Kept) (f : Format) (holds : Holds) : Type 0 where
  pub counts : CountsSuper s (known c.mind holds) (known d.mind holds)
  pub slots : (i : ℕ) → s.slot i ≡ (c.mind.memory 1).slot i
  pub high_is : f.high_of s ≡ c.high
  pub same : SameTrees c d
  pub doubts : d.doubts ≡ []
  pub beside : CountsBeside s c d f holds

abbrev pub CountKeeps : (ℕ → Type 0) → Origins → Type 0
CountKeeps Made h = (s : Content) (c d : Kept) (f : Format) (unsure : List Bool) (holds : Holds) → CountsOne s c d f holds → HoldsMade c f Made h unsure holds → AddsNothing (images c holds) (images d holds) × HoldsMade d f Made h unsure holds

-- A doubt is overruled: block 1 was written anew with what memory has, and settled.
abbrev pub OverruleKeeps : (ℕ → Type 0) → Origins → Type 0
OverruleKeeps Made h = (c : Kept) (f : Format) (unsure : List Bool) (holds : Holds) → ((s : Content) → Contains ((known c.mind holds).versions 1) s → SameContent s (c.mind.memory 1)) → HoldsMade c f Made h unsure holds → HoldsMade (record c { doubts = [] }) f Made h unsure holds

-- The low epoch rises: these roots are kept.
abbrev pub raised : Kept → ℕ → List Root → Kept
raised c low kept = record c { mind = record c.mind { tops = c.active ++ map root_top kept; low = low }; roots = kept }

abbrev pub RaiseKeeps : (ℕ → Type 0) → Origins → Type 0
RaiseKeeps Made h = (low : ℕ) (kept : List Root) (c : Kept) (f : Format) (unsure : List Bool) (holds : Holds) → c.mind.low ≤ low → RaisesLow low c.roots kept → HoldsMade c f Made h unsure holds → AddsNothing (images c holds) (images (raised c low kept) holds) × HoldsMade (raised c low kept) f Made h unsure holds
