-- Laws of what a cache keeps beside what it knows of each block.
use Rattle.std.specs.Prelude.{◌≡◌, ◌<◌, ◌≤◌, ℕ, Bool, false, List, length}
use Rattle.std.specs.List.{Contains}
use Rattle.fo_disk.specs.Disk.{Block, versions_of, latest_of, IsSettled}
use Rattle.fo_disk.specs.Disk.{Content as Holds}
use Rattle.fo_image.specs.declared.types.Label.{Label}
use Rattle.fo_cells.specs.Device.{Mind, known}
use Rattle.fo_cells.specs.Flags.{Flags, FlagsFit}
use Rattle.fo_cells.specs.Safe.{IsSet}
use Rattle.fo_cells_held.specs.Held.{Buffering, HasBuffers, ChangesMemory, Releases, Times, LabelsAreTimed, ChangesLabels, OnlyLiveDirty, Dirties, ClosesFlag}

-- A call in memory keeps what flags say and what has a buffer.
abbrev pub ChangeIsHeld : Type 0
ChangeIsHeld = (m n : Mind) (f g : Flags) (h j : Buffering) (unsure : List Bool) (holds : Holds) → ChangesMemory m n f g h j → FlagsFit m f unsure holds → HasBuffers m f h → FlagsFit n g unsure holds × HasBuffers n g j

abbrev pub ReleaseIsHeld : Type 0
ReleaseIsHeld = (at : ℕ) (m : Mind) (f : Flags) (h j : Buffering) → Releases at m f h j → HasBuffers m f h → HasBuffers m f j

-- What has no buffer has one version, which is what memory has, and nothing of it waits; clean bytes are those of memory.
abbrev pub UnheldIsKnown : Type 0
UnheldIsKnown = (m : Mind) (f : Flags) (h : Buffering) (unsure : List Bool) (holds : Holds) (b : ℕ) → FlagsFit m f unsure holds → HasBuffers m f h → b < length holds → h.held b ≡ false → IsSettled holds b × (m.read b (latest_of (versions_of holds b)) ≡ m.memory b) × IsSet (known m holds) b

abbrev pub CleanIsKnown : Type 0
CleanIsKnown = (m : Mind) (f : Flags) (h : Buffering) (b : ℕ) (bytes : Block) → HasBuffers m f h → Contains h.clean (b, bytes) → m.read b bytes ≡ m.memory b

-- Labels that change now are set no more; those that changed before the write that was settled last are.
abbrev pub LabelsStayTimed : Type 0
LabelsStayTimed = (m n : Mind) (f g : Flags) (t u : Times) (holds : Holds) → ChangesLabels m n t u → ((b : ℕ) → g.wrote b ≡ f.wrote b) → LabelsAreTimed m f t holds → LabelsAreTimed n g u holds

abbrev pub TimedIsSet : Type 0
TimedIsSet = (m : Mind) (f : Flags) (t : Times) (holds : Holds) (b : ℕ) → LabelsAreTimed m f t holds → t.changed b < t.settled (m.label_block b) → (l : Label) → Contains ((known m holds).labels b) l → l ≡ m.label b

-- Only live blocks become dirty; where nothing is dirty, a new epoch may begin.
abbrev pub DirtyStaysLive : Type 0
DirtyStaysLive = (m n : Mind) (f g : Flags) (is_data : ℕ → Bool) (high : ℕ) → Dirties m n f g is_data high → OnlyLiveDirty m f is_data high → OnlyLiveDirty n g is_data high

abbrev pub ClosedIsClean : Type 0
ClosedIsClean = (at epoch high : ℕ) (m n : Mind) (f g : Flags) (is_data : ℕ → Bool) → ClosesFlag at epoch m n f g → epoch ≤ high → OnlyLiveDirty m f is_data high → OnlyLiveDirty n g is_data high

abbrev pub CleanBegins : Type 0
CleanBegins = (m : Mind) (f : Flags) (is_data : ℕ → Bool) (high : ℕ) → ((b : ℕ) → f.dirty b ≡ false) → OnlyLiveDirty m f is_data high
