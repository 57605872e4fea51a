-- Laws of the steps: what each adds to the images, and that it keeps the invariant.
use Rattle.std.specs.Prelude.{◌≡◌, ◌≢◌, ◌⊎◌, ◌<◌, ◌≤◌, ℕ, Bool, false, List}
use Rattle.std.specs.List.{Contains}
use Rattle.fo_disk.specs.Disk.{Block, IsImage, latest}
use Rattle.fo_disk.specs.Disk.{Content as Holds}
use Rattle.fo_image.specs.declared.types.Label.{Label}
use Rattle.fo_image.specs.declared.types.Pointer.TheVariants.{Local}
use Rattle.fo_crash.specs.declared.slot.Slot.{Slot}
use Rattle.fo_crash.specs.declared.place.Place.{Place}
use Rattle.fo_crash.specs.Images.{Content, Image, SameContent, Reaches, target, to_block}
use Rattle.fo_crash.specs.Steps.{AddsNothing, AddsSlot, AddsBytes, AddsBlock, AddsSuper, Brings, Fills, HasBytes, HasSuper, IsSure, IsOneOf, AllAre, cleared}
use Rattle.fo_crash.specs.Names.{SameUse}
use Rattle.fo_crash.specs.Places.{IsPlaced, OnePlace, RanksFall}
use Rattle.fo_cells.specs.Known.{Known, IsWait, IsClear, IsLeft, Remains, Stands, IsKept, MayName}
use Rattle.fo_cells.specs.Writes.{Writes, WritesLabels, Syncs, Ends, Puts, Gives, Relabels, Fires}
use Rattle.fo_cells.specs.Calls.{PutsInto, Awaits, WaitsMore, IsSetLeaf, TriesSuper, CountsSuper, Indexes}
use Rattle.fo_cells.specs.Safe.{super_top, IsLive, IsSafe, IsCurrent, MayWait, MayClear}
use Rattle.fo_cells.specs.Device.{Mind, known, read_image, read_labels}
use Rattle.fo_cells.specs.Flags.{Flags, FlagsFit, LabelsFit, IsUnmarked}

-- the doubt, where there is one
abbrev pub Safe : Known → ℕ → List Content → Type 0
Safe k high doubts = IsSafe k high (λ c. Contains doubts c)

-- No wait is new.
abbrev pub NoWait : Known → Known → Type 0
NoWait old new = (leaf on j : ℕ) → IsWait new.waits leaf on j → IsWait old.waits leaf on j

-- Block 1 stays a top.
abbrev pub KeepsTop : Known → Known → Type 0
KeepsTop old new = Contains old.tops super_top → Contains new.tops super_top

-- A step of the device adds no image, and keeps the invariant.
abbrev pub IsQuiet : Known → Known → Type 0
IsQuiet old new = AddsNothing (Remains old) (Remains new) × ((high : ℕ) (doubts : List Content) → Safe old high doubts → Safe new high doubts)

abbrev pub WriteIsSafe : Type 0
WriteIsSafe = (at : ℕ) (f : Content) (old new : Known) → Writes at f old new → ((high : ℕ) → IsCurrent old high at) → (at ≡ 1 → SameContent f (old.memory 1)) → NoWait old new → IsQuiet old new

abbrev pub LabelIsSafe : Type 0
LabelIsSafe = (old new : Known) → WritesLabels old new → IsQuiet old new

abbrev pub SyncIsSafe : Type 0
SyncIsSafe = (old new : Known) → Syncs old new → NoWait old new → IsQuiet old new

abbrev pub EndIsSafe : Type 0
EndIsSafe = (old new : Known) → Ends old new → NoWait old new → IsQuiet old new

abbrev pub SlotIsSafe : Type 0
SlotIsSafe = (at i high : ℕ) (s : Slot) (doubts : List Content) (old new : Known) → Puts at i s old new → KeepsTop old new → IsCurrent old high at → at ≢ 1 → (old.label at).epoch ≡ high → Brings old.memory s (λ b. IsLive high (old.label b)) → Safe old high doubts → AddsSlot old.memory at i s (λ image. Unit {0}) (Remains old) (Remains new) × Safe new high doubts

abbrev pub BytesAreSafe : Type 0
BytesAreSafe = (at high : ℕ) (bytes : List ℕ) (doubts : List Content) (old new : Known) → PutsInto at bytes old new → IsCurrent old high at → at ≢ 1 → Safe old high doubts → AddsBytes old.memory at ((new.memory at).bytes) (λ image. (on j : ℕ) → IsWait old.waits at on j → ((leaf : ℕ) → IsClear old.clears on j leaf → ⊥) → SameUse ((image on).slot j) ((old.memory on).slot j)) (Remains old) (Remains new) × Safe new high doubts

abbrev pub AwaitIsSafe : Type 0
AwaitIsSafe = (at i leaf high : ℕ) (doubts : List Content) (old new : Known) → Awaits at i leaf old new → MayClear old high at leaf → Safe old high doubts → AddsSlot old.memory at i (cleared ((old.memory at).slot i)) (λ image. (image leaf).bytes ≡ (old.memory leaf).bytes) (Remains old) (Remains new) × Safe new high doubts

-- A slot is cleared at once, where the leaf is set: so is every image's.
abbrev pub RemovalIsSafe : Type 0
RemovalIsSafe = (at i leaf high : ℕ) (doubts : List Content) (old new : Known) → Puts at i (cleared ((old.memory at).slot i)) old new → IsSetLeaf new leaf → KeepsTop old new → IsCurrent old high at → at ≢ 1 → (old.label at).epoch ≡ high → Safe old high doubts → AddsSlot old.memory at i (cleared ((old.memory at).slot i)) (λ image. (image leaf).bytes ≡ (old.memory leaf).bytes) (Remains old) (Remains new) × HasBytes old.memory leaf (Remains new) × Safe new high doubts

abbrev pub WaitIsSafe : Type 0
WaitIsSafe = (high : ℕ) (doubts : List Content) (old new : Known) → WaitsMore old new → ((leaf on j : ℕ) → IsWait new.waits leaf on j → IsWait old.waits leaf on j ⊎ MayWait old leaf on) → Safe old high doubts → AddsNothing (Remains old) (Remains new) × Safe new high doubts

-- A slot that waited is cleared: no image is added, and each that is left would, with the slot cleared, be one of before.
abbrev pub ClearingIsSafe : Type 0
ClearingIsSafe = (at i leaf : ℕ) (old new : Known) → Fires at i leaf old new → at ≢ 1 → NoWait old new → IsQuiet old new × Fills (λ b j. (b ≡ at) × (j ≡ i)) old.memory (Remains old) (Remains new)

abbrev pub GivingIsSafe : Type 0
GivingIsSafe = (at high : ℕ) (c : Content) (p : Place) (tops : List ℕ) (doubts : List Content) (old new : Known) → Gives at c p old new → at ≢ 1 → (new.label at).epoch ≡ high → ((i t : ℕ) → target (c.slot i) ≡ Local t → (old.label t).epoch ≤ high) → KeepsTop old new → ((t : ℕ) → Contains tops t → (r : Place) × Stands old t r) → NoWait old new → Safe old high doubts → AddsBlock (λ t. Contains tops t) at c (Remains old) (Remains new) × Safe new high doubts

-- A block that was made gets its place.
abbrev pub IndexingIsSafe : Type 0
IndexingIsSafe = (at high : ℕ) (q : Place) (doubts : List Content) (old new : Known) → Indexes at q old new → KeepsTop old new → (old.label at).epoch ≡ high → ((leaf on j : ℕ) → IsWait old.waits leaf on j → (leaf ≢ at) × (on ≢ at)) → Safe old high doubts → AddsNothing (Remains old) (Remains new) × Safe new high doubts

-- A block is closed that isn't in the tree of memory.
abbrev pub ClosingIsSafe : Type 0
ClosingIsSafe = (b : ℕ) (l : Label) (old new : Known) → Relabels b l old new → (Reaches old.memory (to_block 1) b → ⊥) → ((i leaf : ℕ) → IsClear old.clears b i leaf → ⊥) → IsQuiet old new

abbrev pub SuperIsSafe : Type 0
SuperIsSafe = (d : Content) (high : ℕ) (doubts : List Content) (old new : Known) → TriesSuper d old new → Safe old high doubts → AddsSuper old.memory (λ image. SameContent (image 1) d) (Remains old) (Remains new) × IsSafe new high (λ c. SameContent c d)

-- A super block that was tried, and is alone on the device, counts.
abbrev pub CountingIsSafe : Type 0
CountingIsSafe = (d : Content) (high : ℕ) (old new : Known) → CountsSuper d old new → ((b : ℕ) → b ≢ 1 → Reaches new.memory (to_block 1) b → IsLive high (old.label b)) → IsSafe old high (λ c. SameContent c d) → AddsNothing (Remains old) (Remains new) × IsSafe new high (λ c. ⊥)

-- A doubt is overruled: block 1 was written anew with what memory has, and settled.
abbrev pub OverrulingIsSafe : Type 0
OverrulingIsSafe = (high : ℕ) (doubts : List Content) (k : Known) → ((c : Content) → Contains (k.versions 1) c → SameContent c (k.memory 1)) → Safe k high doubts → IsSafe k high (λ c. ⊥)

-- WHAT THE INVARIANT GIVES
-- Every image of the device is one of these, as far as paths from tops lead that were settled whole.
abbrev pub ImagesAreShown : Type 0
ImagesAreShown = (high : ℕ) (doubts : List Content) (k : Known) (image : Image) (labels : ℕ → Label) (tops : List ℕ) → Safe k high doubts → IsLeft k image labels → ((t : ℕ) → Contains tops t → (p : Place) × Stands k t p × (k.newborn t ≡ false)) → IsOneOf (λ t. Contains tops t) (Remains k) image

-- Each image of the device is left, as the format reads it; and where each block has a version there is one, of the last versions.
abbrev pub DeviceIsLeft : Type 0
DeviceIsLeft = (m : Mind) (holds : Holds) (device : List Block) → IsImage holds device → IsLeft (known m holds) (read_image m device) (read_labels m device)

abbrev pub DeviceHasImage : Type 0
DeviceHasImage = (m : Mind) (f : Flags) (unsure : List Bool) (holds : Holds) → FlagsFit m f unsure holds → IsImage holds (latest holds)

abbrev pub MemoryIsLeft : Type 0
MemoryIsLeft = (k : Known) → Remains k k.memory

abbrev pub PlacesHold : Type 0
PlacesHold = (high : ℕ) (doubts : List Content) (k : Known) (image : Image) → Safe k high doubts → Remains k image → OnePlace (Stands k) × IsPlaced (Stands k) image × RanksFall (Stands k) image

abbrev pub OlderIsSure : Type 0
OlderIsSure = (high b : ℕ) (p : Place) (doubts : List Content) (k : Known) → Safe k high doubts → b ≢ 1 → Stands k b p → (k.label b).epoch < high → IsSure k.memory b (Remains k)

abbrev pub SuperIsKnown : Type 0
SuperIsKnown = (high : ℕ) (doubts : List Content) (k : Known) → Safe k high doubts → HasSuper k.memory (λ c. Contains doubts c) (Remains k)

-- Where no block has a flag, none is newborn, and no slot waits, memory is the only image.
abbrev pub AllIsSettled : Type 0
AllIsSettled = (m : Mind) (f : Flags) (unsure : List Bool) (holds : Holds) → FlagsFit m f unsure holds → ((b : ℕ) → IsUnmarked f b) → ((b : ℕ) → m.newborn b ≡ false) → ((b i leaf : ℕ) → IsClear (known m holds).clears b i leaf → ⊥) → AllAre m.memory (Remains (known m holds))

-- A block that stands somewhere and was settled whole since it was given out may be named, where its block of labels has no flag.
abbrev pub LabelIsNamed : Type 0
LabelIsNamed = (m : Mind) (f : Flags) (unsure : List Bool) (holds : Holds) (t : ℕ) (p : Place) → FlagsFit m f unsure holds → LabelsFit m f holds → IsKept (known m holds) → t ≢ 1 → Stands (known m holds) t p → m.newborn t ≡ false → IsUnmarked f (m.label_block t) → MayName (known m holds) t

-- Blocks stand where they stood, where bytes are put and where leaves wait for more.
abbrev pub PlacesStay : Type 0
PlacesStay = (at : ℕ) (bytes : List ℕ) (old new : Known) → PutsInto at bytes old new ⊎ WaitsMore old new → (b : ℕ) (q : Place) → Stands old b q → Stands new b q

-- After slots that waited were cleared (`slots`), one more is; with each of them cleared, an image that is left would be one of the first.
abbrev pub ClearingsJoin : Type 0
ClearingsJoin = (at i leaf : ℕ) (cleared_before : List (ℕ × ℕ)) (first old new : Known) → Fires at i leaf old new → at ≢ 1 → NoWait old new → (first.memory at).slot i ≡ (old.memory at).slot i → Fills (λ b j. Contains cleared_before (b, j)) first.memory (Remains first) (Remains old) → Fills (λ b j. Contains cleared_before (b, j) ⊎ ((b ≡ at) × (j ≡ i))) first.memory (Remains first) (Remains new)
