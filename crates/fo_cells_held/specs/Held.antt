-- What a cache keeps beside what it knows of each block: buffers, when labels changed, and what may be dirty.
use Rattle.std.specs.Prelude.{◌≡◌, ◌≢◌, ◌⊎◌, ◌<◌, ◌≤◌, ℕ, suc, Bool, true, false, cond, ◌&&◌, nat_eq, List, map, Result, is_err}
use Rattle.std.specs.List.{Contains}
use Rattle.fo_disk.specs.Disk.{Block, versions_of, latest_of}
use Rattle.fo_disk.specs.Disk.{Content as Holds}
use Rattle.fo_image.specs.declared.types.Label.{Label}
use Rattle.fo_image.specs.declared.types.State.TheVariants.{Live, Closed}
use Rattle.fo_cells.specs.Known.{IsWait}
use Rattle.fo_cells.specs.Device.{Clearing, Mind}
use Rattle.fo_cells.specs.Flags.{Flags, IsUnmarked}

-- ---- buffers

-- which blocks have a buffer; and clean blocks that nobody holds, which may be forgotten
pub record Buffering : Type 0 where
  pub held : ℕ → Bool
  pub clean : List (ℕ × Block)

-- A block without a buffer has no flag, and was settled whole since it was given out; whatever waits, or is waited for, has one. What
-- counts as written whole was written since the last sync. Clean bytes are what memory has.
pub record HasBuffers (m : Mind) (f : Flags) (h : Buffering) : Type 0 where
  pub unheld : (b : ℕ) → h.held b ≡ false → IsUnmarked f b × (m.newborn b ≡ false)
  pub complete : (b : ℕ) → m.complete b ≡ true → f.wrote b ≡ true
  pub waits : (leaf on j : ℕ) → IsWait m.waits leaf on j → (h.held leaf ≡ true) × (h.held on ≡ true)
  pub clears : (c : Clearing) → Contains m.clears c → (h.held c.at ≡ true) × (h.held c.leaf ≡ true)
  pub clean : (b : ℕ) (bytes : Block) → Contains h.clean (b, bytes) → (h.held b ≡ false) × (m.read b bytes ≡ m.memory b)

-- A call in memory: what is not dirty now was not, and stays as it was; what has no buffer had none. A put, a block that is given out,
-- a slot or a leaf that begins to wait, a block that is loaded.
pub record ChangesMemory (m n : Mind) (f g : Flags) (h j : Buffering) : Type 0 where
  pub still : (b : ℕ) → g.dirty b ≡ false → (f.dirty b ≡ false) × (n.memory b ≡ m.memory b)
  pub wrote : (b : ℕ) → g.wrote b ≡ f.wrote b
  pub failed : (b : ℕ) → g.failed b ≡ f.failed b
  pub read : n.read ≡ m.read
  pub held : (b : ℕ) → j.held b ≡ false → (h.held b ≡ false) × (g.dirty b ≡ false) × (n.newborn b ≡ m.newborn b)
  pub complete : (b : ℕ) → n.complete b ≡ true → m.complete b ≡ true
  pub waits : (leaf on k : ℕ) → IsWait n.waits leaf on k → ((j.held leaf ≡ true) × (j.held on ≡ true))
  pub clears : (c : Clearing) → Contains n.clears c → ((j.held c.at ≡ true) × (j.held c.leaf ≡ true))
  pub clean : (b : ℕ) (bytes : Block) → Contains j.clean (b, bytes) → Contains h.clean (b, bytes) × (j.held b ≡ false)

-- A buffer is given up: of a block with no flag that nothing waits for. Its bytes may stay as clean ones.
pub record Releases (at : ℕ) (m : Mind) (f : Flags) (h j : Buffering) : Type 0 where
  pub unmarked : IsUnmarked f at
  pub settled : m.newborn at ≡ false
  pub unwaited : (leaf on k : ℕ) → IsWait m.waits leaf on k → (leaf ≢ at) × (on ≢ at)
  pub uncleared : (c : Clearing) → Contains m.clears c → (c.at ≢ at) × (c.leaf ≢ at)
  pub here : j.held at ≡ false
  pub others : (b : ℕ) → b ≢ at → j.held b ≡ h.held b
  pub clean : (b : ℕ) (bytes : Block) → Contains j.clean (b, bytes) → Contains h.clean (b, bytes) ⊎ ((b ≡ at) × (m.read at bytes ≡ m.memory at))

-- ---- labels

-- When each block's label changed last; when each block of labels was written last by a write that answered Ok, and when the write was made
-- that was settled last. Times go up with each write.
pub record Times : Type 0 where
  pub now : ℕ
  pub changed : ℕ → ℕ
  pub wrote : ℕ → ℕ
  pub settled : ℕ → ℕ

-- A LABEL IS SET, known by label and not by block of labels: where it changed before the write that was settled last, every version has it.
pub record LabelsAreTimed (m : Mind) (f : Flags) (t : Times) (holds : Holds) : Type 0 where
  pub set : (b : ℕ) → t.changed b < t.settled (m.label_block b) → (l : Label) → Contains (map (m.label_in b) (versions_of holds (m.label_block b))) l → l ≡ m.label b
  pub latest : (b : ℕ) → f.wrote (m.label_block b) ≡ true → t.changed b < t.wrote (m.label_block b) → m.label_in b (latest_of (versions_of holds (m.label_block b))) ≡ m.label b
  pub past : (at : ℕ) → (t.wrote at ≤ t.now) × (t.settled at ≤ t.now)

-- a block was written
abbrev pub timed : ℕ → Bool → Times → Times
timed at ok t = record t { now = suc t.now; wrote = λ b. cond (nat_eq b at && ok) (suc t.now) (t.wrote b) }

-- a sync answered Ok
abbrev pub timed_settled : Flags → Times → Times
timed_settled f t = record t { settled = λ b. cond (f.wrote b) (t.wrote b) (t.settled b) }

abbrev pub after_sync_times : {E : Type 0} → Result Unit E → Flags → Times → Times
after_sync_times result f t = cond (is_err result) t (timed_settled f t)

-- Labels of memory change, each at a time that is now.
pub record ChangesLabels (m n : Mind) (t u : Times) : Type 0 where
  pub label_in : n.label_in ≡ m.label_in
  pub label_block : n.label_block ≡ m.label_block
  pub now : u.now ≡ t.now
  pub wrote : u.wrote ≡ t.wrote
  pub settled : u.settled ≡ t.settled
  pub each : (b : ℕ) → ((n.label b ≡ m.label b) × (u.changed b ≡ t.changed b)) ⊎ (u.changed b ≡ t.now)

-- ---- what may get a new version

-- A data block that may be written: live, of the high epoch or, a snapshot's new root, of the next; or closed in the epoch in which it was
-- given out, while a failed write left it with several versions.
pub record MayGetVersion (m : Mind) (f : Flags) (high b : ℕ) : Type 0 where
  pub epoch : high ≤ (m.label b).epoch
  pub state : ((m.label b).state ≡ Live) ⊎ (((m.label b).state ≡ Closed) × ((m.label b).closing ≡ (m.label b).epoch) × (f.failed b ≡ true))

-- Only such data blocks are dirty.
pub record OnlyLiveDirty (m : Mind) (f : Flags) (is_data : ℕ → Bool) (high : ℕ) : Type 0 where
  pub dirty : (b : ℕ) → is_data b ≡ true → f.dirty b ≡ true → MayGetVersion m f high b

-- A call in memory makes blocks dirty that are live and current, and changes no other label.
pub record Dirties (m n : Mind) (f g : Flags) (is_data : ℕ → Bool) (high : ℕ) : Type 0 where
  pub each : (b : ℕ) → is_data b ≡ true → g.dirty b ≡ true → ((f.dirty b ≡ true) × (n.label b ≡ m.label b) × (g.failed b ≡ f.failed b)) ⊎ ((high ≤ (n.label b).epoch) × ((n.label b).state ≡ Live))

-- A block is closed at an epoch that is not below its own: it is dirty only where its last write failed.
pub record ClosesFlag (at epoch : ℕ) (m n : Mind) (f g : Flags) : Type 0 where
  pub label : n.label at ≡ record (m.label at) { state = Closed; closing = epoch }
  pub begun : (m.label at).epoch ≤ epoch
  pub others : (b : ℕ) → b ≢ at → n.label b ≡ m.label b
  pub dirty : (b : ℕ) → g.dirty b ≡ true → f.dirty b ≡ true
  pub dirty_here : g.dirty at ≡ true → f.failed at ≡ true
  pub failed : (b : ℕ) → g.failed b ≡ f.failed b
