-- THE WHOLE INVARIANT, with what closed labels say of kept trees; and each step keeps it.
use Rattle.std.specs.Prelude.{◌≡◌, ◌⊎◌, ◌≤◌, ◌||◌, ◌+◌, ◌*◌, cond, ℕ, Bool, List, [], ◌∷◌, ◌≢◌, Result}
use Rattle.std.specs.List.{Contains}
use Rattle.fo_disk.specs.Disk.{Content as Holds}
use Rattle.fo_crash.specs.Steps.{cleared}
use Rattle.fo_crash.specs.Names.{IsInUse}
use Rattle.fo_cells.specs.Known.{Stands, IsWait}
use Rattle.fo_cells.specs.Device.{known}
use Rattle.fo_cells.specs.Flags.{Flags, IsUnmarked, after_sync_flags}
use Rattle.fo_cells_out.specs.Removals.{Pending}
use Rattle.fo_cells_out.specs.Origins.{Origins, given, PutsMade, LosesMany, Fills, filled, copied_tree, lost_tree}
use Rattle.fo_cells_held.specs.Room.{Used}
use Rattle.fo_cells_epochs.specs.Epochs.{IsRead, Root}
use Rattle.fo_cells_queue.specs.Queue.{Queued, first_past}
use Rattle.fo_cells_all.specs.All.{Kept, Format, kept_sync}
use Rattle.fo_cells_steps.specs.Division.{HoldsMade, division}
use Rattle.fo_cells_steps.specs.Calls.{Beside, SameRest}
use Rattle.fo_cells_gaps.specs.of_cells_blocks.Closing.{ClosesBeside, ClosesNext}
use Rattle.fo_image.specs.declared.types.Pointer.TheVariants.{Local}
use Rattle.fo_crash.specs.declared.place.Place.{Place}
use Rattle.fo_crash.specs.Images.{Content, Reaches, target, to_block, SameContent}
use Rattle.fo_cells.specs.Writes.{Puts, Ends, Fires}
use Rattle.fo_cells.specs.Laws.{NoWait}
use Rattle.fo_cells_gaps.specs.of_cells_blocks.Giving.{GivesOne, made_with, CopiesThis}
use Rattle.fo_cells.specs.Calls.{PutsInto, Awaits, WaitsMore}
use Rattle.fo_cells_puts.specs.Putting.{put_after, PutsOne, seen_from, made_after, ComesNew, QueuesAll}
use Rattle.fo_cells_gaps.specs.of_cells_blocks.Indexing.{IndexesOne, SetsAside}
use Rattle.fo_crash.specs.declared.slot.Slot.{Slot}
use Rattle.fo_cells.specs.Safe.{MayWait, MayClear}
use Rattle.fo_cells_shown.specs.of_cells_turns.Opening.{none_made, no_origins, Opens}
use Rattle.fo_cells_gaps.specs.of_cells_snapshot.Abandon.{Abandons}
use Rattle.fo_cells_gaps.specs.of_cells_snapshot.Snapshot.{Snapshots}
use Rattle.fo_cells_steps.specs.Taking.{LeavesWith, InTree}
use Rattle.fo_cells_supers.specs.Supers.{TriesOne, CountsOne, raised}
use Rattle.fo_cells_shown.specs.Closed.{ClosedAreKept, KeepsFrom}
use Rattle.fo_cells_shown.specs.Opening.{ClosedHang, OlderHang}
use Rattle.fo_cells_shown.specs.Shown.{IsWithin}
use Rattle.fo_cells_lost.specs.Lost.{AreShared}
use Rattle.fo_cells_whole.specs.Awaited.{InPairs, WaitsUsed, AwaitsPairs, NoneAwaits}

-- ALL THAT HOLDS AT EVERY MOMENT, in one record: what holds of all that a cache keeps, with what was made; what was closed and may not be
-- given out yet is in the kept tree of the epoch before; that tree has each older block that hangs or waits; no super block is in doubt where
-- block 1 has no flag, and so is settled with what memory has; and what leaves wait for is in use in memory. (That all which stands is of
-- the device is in `made`; `IsWithin` of fo_cells_shown follows.)
pub record HoldsWhole (c : Kept) (f : Format) (Made : ℕ → Type 0) (h : Origins) (unsure : List Bool) (holds : Holds) : Type 0 where
  pub made : HoldsMade c f Made h unsure holds
  pub closed : ClosedAreKept (known c.mind holds) c.roots
  pub shared : AreShared (known c.mind holds) (division c Made) c.high c.roots c.past c.queue
  pub certain : IsUnmarked c.flags 1 → c.doubts ≡ []
  pub awaited : WaitsUsed c.mind.waits c.mind.memory

-- what is in doubt where block 1 has these flags
abbrev pub doubts_left : Flags → List Content → List Content
doubts_left f doubts = cond (f.dirty 1 || (f.wrote 1 || f.failed 1)) doubts []

-- A sync was answered: where block 1 has no flag then, what was in doubt is overruled.
abbrev pub whole_sync : {E : Type 0} → Result Unit E → Kept → Kept
whole_sync result c = record (kept_sync result c) { doubts = doubts_left (after_sync_flags result c.flags) c.doubts }

-- a cache opens over a settled device, with nothing in doubt and no leaf that waits
abbrev pub OpeningWhole : Type 0
OpeningWhole = (c : Kept) (f : Format) (unsure : List Bool) (holds : Holds) → Opens c f unsure holds → c.doubts ≡ [] → c.mind.waits ≡ [] → ClosedHang c → OlderHang c → HoldsWhole c f none_made no_origins unsure holds

-- all that stands is of the device, and so is each leaf that waits
abbrev pub WholeIsWithin : (ℕ → Type 0) → Origins → Type 0
WholeIsWithin Made h = (c : Kept) (f : Format) (unsure : List Bool) (holds : Holds) → HoldsWhole c f Made h unsure holds → IsWithin c.mind holds

-- Each entry that a leaf waits for is in use, or is the second of a pair whose first is: so it is a wait of `Blocks` (`state_of` of
-- fo_cells_calls).
abbrev pub WaitsAreUsed : (ℕ → Type 0) → Origins → Type 0
WaitsAreUsed Made h = (c : Kept) (f : Format) (unsure : List Bool) (holds : Holds) → HoldsWhole c f Made h unsure holds → (leaf on j : ℕ) → IsWait c.mind.waits leaf on j → ((g : ℕ) × IsInUse ((c.mind.memory on).slot j) g) ⊎ ((k : ℕ) × (j ≡ 2 * k + 1) × ((g : ℕ) × IsInUse ((c.mind.memory on).slot (2 * k)) g))

-- `put_bytes`; `wait_for`, of pairs whose first is in use; `remove_slot` that waits; the end of waits, of whole pairs
abbrev pub BytesWhole : (ℕ → Type 0) → Origins → Type 0
BytesWhole Made h = (at : ℕ) (bytes : List ℕ) (c d : Kept) (f : Format) (x : Used) (unsure : List Bool) (holds : Holds) → PutsInto at bytes (known c.mind holds) (known d.mind holds) → at ≢ 1 → (c.mind.label at).epoch ≡ c.high → SameRest c d → Beside c d f x holds → HoldsWhole c f Made h unsure holds → HoldsWhole d f Made h unsure holds

abbrev pub WaitWhole : (ℕ → Type 0) → Origins → Type 0
WaitWhole Made h = (c d : Kept) (f : Format) (x : Used) (unsure : List Bool) (holds : Holds) → WaitsMore (known c.mind holds) (known d.mind holds) → ((leaf on j : ℕ) → IsWait d.mind.waits leaf on j → IsWait c.mind.waits leaf on j ⊎ MayWait (known c.mind holds) leaf on) → AwaitsPairs c.mind.waits d.mind.waits c.mind.memory → SameRest c d → Beside c d f x holds → HoldsWhole c f Made h unsure holds → HoldsWhole d f Made h unsure holds

abbrev pub LaterWhole : (ℕ → Type 0) → Origins → Type 0
LaterWhole Made h = (at i leaf : ℕ) (c d : Kept) (f : Format) (x : Used) (unsure : List Bool) (holds : Holds) → Awaits at i leaf (known c.mind holds) (known d.mind holds) → MayClear (known c.mind holds) c.high at leaf → SameRest c d → Beside c d f x holds → HoldsWhole c f Made h unsure holds → HoldsWhole d f Made h unsure holds

abbrev pub EndWhole : (ℕ → Type 0) → Origins → Type 0
EndWhole Made h = (c d : Kept) (f : Format) (x : Used) (unsure : List Bool) (holds : Holds) → Ends (known c.mind holds) (known d.mind holds) → NoWait (known c.mind holds) (known d.mind holds) → InPairs d.mind.waits → SameRest c d → Beside c d f x holds → HoldsWhole c f Made h unsure holds → HoldsWhole d f Made h unsure holds

-- a slot is cleared, at once or after it waited; the waits for its pair ended before
abbrev pub RemoveWhole : (ℕ → Type 0) → Origins → Type 0
RemoveWhole Made h = (at i : ℕ) (rs : List Pending) (c d : Kept) (f : Format) (x : Used) (unsure : List Bool) (holds : Holds) → Puts at i (cleared ((c.mind.memory at).slot i)) (known c.mind holds) (known d.mind holds) → LeavesWith at i c h rs → InTree at c d rs → Beside c d f x holds → HoldsWhole c f Made h unsure holds → HoldsWhole d f Made h unsure holds

abbrev pub ClearingWhole : (ℕ → Type 0) → Origins → Type 0
ClearingWhole Made h = (at i leaf : ℕ) (rs : List Pending) (c d : Kept) (f : Format) (x : Used) (unsure : List Bool) (holds : Holds) → Fires at i leaf (known c.mind holds) (known d.mind holds) → NoWait (known c.mind holds) (known d.mind holds) → NoneAwaits d.mind.waits at i → LeavesWith at i c h rs → InTree at c d rs → Beside c d f x holds → HoldsWhole c f Made h unsure holds → HoldsWhole d f Made h unsure holds

-- each kind of put
abbrev pub SameWhole : (ℕ → Type 0) → Origins → Type 0
SameWhole Made h = (at i : ℕ) (s : Slot) (c d : Kept) (f : Format) (x : Used) (unsure : List Bool) (holds : Holds) → PutsOne at i s c d Made h.Apart [] holds → Reaches c.mind.memory (to_block 1) at ⊎ Made at → ((b : ℕ) → target s ≡ Local b → target ((c.mind.memory at).slot i) ≡ Local b) → ((b : ℕ) → target ((c.mind.memory at).slot i) ≡ Local b → target s ≡ Local b) → Beside c d f x holds → HoldsWhole c f Made h unsure holds → HoldsWhole d f Made h unsure holds

abbrev pub FillWhole : (ℕ → Type 0) → Origins → (ℕ → Type 0) → Type 0
FillWhole Made h Raises = (at i : ℕ) (s : Slot) (c d : Kept) (f : Format) (x : Used) (unsure : List Bool) (holds : Holds) → PutsOne at i s c d Made (filled h at s Raises).Apart [] holds → Fills at i s (seen_from c holds) (division c Made) h Raises → Beside c d f x holds → HoldsWhole c f Made h unsure holds → HoldsWhole d f Made (filled h at s Raises) unsure holds

abbrev pub LinkWhole : (ℕ → Type 0) → Origins → Type 0
LinkWhole Made h = (at i y : ℕ) (s : Slot) (c d : Kept) (f : Format) (x : Used) (unsure : List Bool) (holds : Holds) → PutsOne at i s c d (made_after c Made holds y) (put_after h y).Apart [] holds → ComesNew at i s y c Made h holds → Beside c d f x holds → HoldsWhole c f Made h unsure holds → HoldsWhole d f (made_after c Made holds y) (put_after h y) unsure holds

abbrev pub ComesWhole : (ℕ → Type 0) → Origins → (ℕ → Type 0) → Type 0
ComesWhole Made h Lost = (at i top x y : ℕ) (s : Slot) (rs : List Pending) (c d : Kept) (f : Format) (used : Used) (unsure : List Bool) (holds : Holds) → PutsOne at i s c d (made_after c Made holds y) (put_after h y).Apart rs holds → PutsMade at i s (seen_from c holds) (seen_from d holds) (division c Made) h top x y Lost → QueuesAll s c d (division c Made) (copied_tree (seen_from c holds) (division c Made) h top y Lost) rs holds → Beside c d f used holds → HoldsWhole c f Made h unsure holds → HoldsWhole d f (made_after c Made holds y) (put_after h y) unsure holds

abbrev pub LevelsWhole : (ℕ → Type 0) → Origins → (ℕ → Type 0) → Type 0
LevelsWhole Made h Lost = (at i x b : ℕ) (s : Slot) (rs : List Pending) (c d : Kept) (f : Format) (used : Used) (unsure : List Bool) (holds : Holds) → PutsOne at i s c d Made h.Apart rs holds → LosesMany at i s (seen_from c holds) (seen_from d holds) (division c Made) h x b Lost → QueuesAll s c d (division c Made) (lost_tree (seen_from c holds) (division c Made) x b Lost) rs holds → Beside c d f used holds → HoldsWhole c f Made h unsure holds → HoldsWhole d f Made h unsure holds

-- a block is given out, empty or as a copy
abbrev pub NewBlockWhole : (ℕ → Type 0) → Origins → Type 0
NewBlockWhole Made h = (at : ℕ) (content : Content) (p : Place) (c d : Kept) (f : Format) (x : Used) (unsure : List Bool) (holds : Holds) → GivesOne at content p c d holds → ((i t : ℕ) → target (content.slot i) ≡ Local t → ⊥) → Beside c d f x holds → HoldsWhole c f Made h unsure holds → HoldsWhole d f (made_with Made at) (given h at (λ z. ⊥)) unsure holds

abbrev pub CopyWhole : (ℕ → Type 0) → Origins → Type 0
CopyWhole Made h = (at from : ℕ) (p : Place) (c d : Kept) (f : Format) (x : Used) (unsure : List Bool) (holds : Holds) → GivesOne at (c.mind.memory from) p c d holds → CopiesThis from at p c d holds → Beside c d f x holds → HoldsWhole c f Made h unsure holds → HoldsWhole d f (made_with Made at) (given h at (λ z. z ≡ from)) unsure holds

-- a made block gets its index, or is queued alone
abbrev pub IndexWhole : (ℕ → Type 0) → Origins → Type 0
IndexWhole Made h = (at : ℕ) (q : Place) (c d : Kept) (f : Format) (x : Used) (unsure : List Bool) (holds : Holds) → IndexesOne at q c d h.Apart holds → Beside c d f x holds → HoldsWhole c f Made h unsure holds → HoldsWhole d f Made h unsure holds

abbrev pub AsideWhole : (ℕ → Type 0) → Origins → Type 0
AsideWhole Made h = (b after : ℕ) (c d : Kept) (f : Format) (x : Used) (unsure : List Bool) (holds : Holds) → SetsAside b after c d Made h.Apart → Beside c d f x holds → HoldsWhole c f Made h unsure holds → HoldsWhole d f (λ a. Made a × (a ≢ b)) (put_after h b) unsure holds

-- what waits is closed, and a removal with nothing left is gone
abbrev pub CloseEarlierWhole : (ℕ → Type 0) → Origins → Type 0
CloseEarlierWhole Made h = (b epoch after : ℕ) (bs : List ℕ) (rs : List Queued) (c d : Kept) (f : Format) (x : Used) (unsure : List Bool) (holds : Holds) → ClosesNext b epoch after c d holds → c.past ≡ first_past epoch (b ∷ bs) after ∷ rs → d.past ≡ first_past epoch bs after ∷ rs → d.queue ≡ c.queue → ClosesBeside b epoch c d f x → IsRead f.high_of → HoldsWhole c f Made h unsure holds → HoldsWhole d f Made h unsure holds

abbrev pub CloseNowWhole : (ℕ → Type 0) → Origins → Type 0
CloseNowWhole Made h = (b epoch after : ℕ) (bs : List ℕ) (rs : List Pending) (c d : Kept) (f : Format) (x : Used) (unsure : List Bool) (holds : Holds) → ClosesNext b epoch after c d holds → c.high ≤ epoch → (epoch ≤ c.high) ⊎ (epoch ≡ (c.mind.label b).epoch) → c.past ≡ [] → d.past ≡ [] → c.queue ≡ record { blocks = b ∷ bs; after = after } ∷ rs → d.queue ≡ record { blocks = bs; after = after } ∷ rs → ClosesBeside b epoch c d f x → IsRead f.high_of → HoldsWhole c f Made h unsure holds → HoldsWhole d f Made h unsure holds

abbrev pub PastDoneWhole : (ℕ → Type 0) → Origins → Type 0
PastDoneWhole Made h = (epoch after : ℕ) (rs : List Queued) (c : Kept) (f : Format) (unsure : List Bool) (holds : Holds) → c.past ≡ first_past epoch [] after ∷ rs → HoldsWhole c f Made h unsure holds → HoldsWhole (record c { past = rs }) f Made h unsure holds

abbrev pub DoneWhole : (ℕ → Type 0) → Origins → Type 0
DoneWhole Made h = (after : ℕ) (rs : List Pending) (c : Kept) (f : Format) (unsure : List Bool) (holds : Holds) → c.past ≡ [] → c.queue ≡ record { blocks = []; after = after } ∷ rs → HoldsWhole c f Made h unsure holds → HoldsWhole (record c { queue = rs }) f Made h unsure holds

-- a super block of the same epoch is tried, which leaves block 1 with a flag; counts; is overruled
abbrev pub TryWhole : (ℕ → Type 0) → Origins → Type 0
TryWhole Made h = (s : Content) (c d : Kept) (f : Format) (unsure later : List Bool) (holds after : Holds) → TriesOne s c d f later holds after → (IsUnmarked d.flags 1 → ⊥) → HoldsWhole c f Made h unsure holds → HoldsWhole d f Made h later after

abbrev pub CountWhole : (ℕ → Type 0) → Origins → Type 0
CountWhole Made h = (s : Content) (c d : Kept) (f : Format) (unsure : List Bool) (holds : Holds) → CountsOne s c d f holds → HoldsWhole c f Made h unsure holds → HoldsWhole d f Made h unsure holds

abbrev pub OverruleWhole : (ℕ → Type 0) → Origins → Type 0
OverruleWhole Made h = (c : Kept) (f : Format) (unsure : List Bool) (holds : Holds) → ((s : Content) → Contains ((known c.mind holds).versions 1) s → SameContent s (c.mind.memory 1)) → HoldsWhole c f Made h unsure holds → HoldsWhole (record c { doubts = [] }) f Made h unsure holds

-- the low epoch rises: just the roots from it on are kept
abbrev pub RaiseWhole : (ℕ → Type 0) → Origins → Type 0
RaiseWhole Made h = (low : ℕ) (kept : List Root) (c : Kept) (f : Format) (unsure : List Bool) (holds : Holds) → c.mind.low ≤ low → KeepsFrom low c.roots kept → HoldsWhole c f Made h unsure holds → HoldsWhole (raised c low kept) f Made h unsure holds

-- a snapshot begins, or is given up, and nothing is in doubt
abbrev pub SnapshotWhole : Type 0
SnapshotWhole = (s : Content) (root next : ℕ) (first c d : Kept) (f : Format) (unsure later : List Bool) (before holds : Holds) → Snapshots s root next first c d f later before holds → ((q : Place) → Stands (known first.mind before) next q → ⊥) → d.mind.low ≡ first.mind.low → WaitsUsed d.mind.waits d.mind.memory → HoldsWhole first f none_made no_origins unsure before → HoldsWhole d f none_made no_origins later holds

abbrev pub AbandonWhole : Type 0
AbandonWhole = (next : ℕ) (first c d : Kept) (f : Format) (unsure later : List Bool) (before holds : Holds) → Abandons next first c d f later before holds → ((q : Place) → Stands (known first.mind before) next q → ⊥) → d.mind.low ≡ first.mind.low → first.high ≤ (d.mind.label next).epoch → WaitsUsed d.mind.waits d.mind.memory → d.doubts ≡ [] → HoldsWhole first f none_made no_origins unsure before → HoldsWhole d f none_made no_origins later holds
