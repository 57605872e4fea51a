-- What a flushing turn does.
use Rattle.std.specs.Prelude.{◌≡◌, ◌≢◌, ◌⊎◌, ◌<◌, ◌≤◌, ℕ, true, false, List, length, map, None, Ok}
use Rattle.std.specs.List.{Contains}
use Rattle.fo_disk.specs.Disk.{DiskState, IsSettled, IsSync, latest_of, versions_of}
use Rattle.fo_disk.specs.Disk.{Content as Holds}
use Rattle.fo_disk.specs.declared.disk.Failed.{Failed}
use Rattle.fo_buffers.specs.Held.{held_at}
use Rattle.fo_order.specs.declared.marks.Mark.{Mark}
use Rattle.fo_order.specs.declared.marks.Tried.TheVariants.{Settled, Written}
use Rattle.fo_order.specs.Marks.{mark_at}
use Rattle.fo_order.specs.Turns.{IsDue, IsNext, IsQuiet, flag_at}
use Rattle.fo_waits.specs.Listed.{Clears}
use Rattle.fo_mind.specs.Parts.{Parts, bytes_at, label_at}
use Rattle.fo_mind.specs.Sound.{IsCurrent}
use Rattle.fo_mind.specs.Turning.{KeepsTurn, Synced, may_release}
use Rattle.fo_cache.specs.Supers.{Overruled}
use Rattle.fo_cache.specs.Written.{IsWritten}
use Rattle.fo_turning.specs.declared.flush.Flushed.{Flushed}
use Rattle.fo_turning.specs.declared.flush.Flushed.TheVariants.{Wrote, Synced as SyncedIs, Cleared, Idle}

-- Nothing has a turn and all is settled, nothing is in doubt, and no slot waits.
pub record AtIdle (p : Parts) : Type 0 where
  pub quiet : IsQuiet p.turns
  pub certain : p.doubt ≡ None
  pub none : (b j : ℕ) → Clears p.clears b j → ⊥

-- A write of one block answered Ok, and no other was written.
abbrev pub Lands : ℕ → DiskState → DiskState → Parts → Parts → Type 0
Lands at s t p q = IsWritten {E = Failed} at (Ok tt) s t p q

-- The block was written that was next: one of least rank of those that are dirty. A data block's label is live, and of the high epoch. What
-- memory has of the block is the last that the device has, and no other block was written. Room for its next turn may have been made.
pub record Writes (at : ℕ) (s t : DiskState) (p q : Parts) : Type 0 where
  pub next : IsNext p.turns at
  pub current : p.region.first ≤ at → IsCurrent p.one.high (label_at p.region at)
  pub roomy : Parts
  pub kept : KeepsTurn p roomy
  pub lands : Lands at s t roomy q
  pub others : (k : ℕ) → k ≢ at → versions_of t.holds k ≡ versions_of s.holds k
  pub last : q.region.first ≤ at → at < length s.holds → latest_of (versions_of t.holds at) ≡ bytes_at q.held t.holds at

-- a write of this block answered Ok
abbrev pub IsMarked : List Mark → ℕ → Type 0
IsMarked marks b = Contains (map mark_at marks) b

-- Some of these blocks are given up, each of which may be: they aren't held any more. What memory has of blocks stays, as far as the device
-- tells, and all else stays.
pub record LetsGo (is : ℕ → Type 0) (disk : Holds) (p q : Parts) : Type 0 where
  pub held : (b : ℕ) → (held_at q.held b ≡ held_at p.held b) ⊎ (is b × (may_release p b ≡ true) × (held_at q.held b ≡ None))
  pub bytes : (b : ℕ) → p.region.first ≤ b → b < length disk → bytes_at q.held disk b ≡ bytes_at p.held disk b
  pub room : q.held.room ≡ p.held.room
  pub rest : q ≡ record p { held = q.held }

-- Each block that was written, and may be given up, is.
pub record Releases (marks : List Mark) (disk : Holds) (p q : Parts) : Type 0 where
  pub lets : LetsGo (IsMarked marks) disk p q
  pub gone : (b : ℕ) → IsMarked marks b → may_release q b ≡ false

-- What was written was settled, and then given up where it may be.
pub record Syncs (s t : DiskState) (p q : Parts) : Type 0 where
  pub due : IsDue p.turns
  pub device : IsSync {E = Failed} (Ok tt) s t
  pub settled : Parts
  pub synced : Synced p settled
  pub each : (b : ℕ) → p.region.first ≤ b → b < length t.holds → (flag_at p.turns b).tried ≡ Written → IsSettled t.holds b
  pub releases : Releases p.turns.written t.holds settled q

-- Block 1 was settled as memory has it, with all that was written, which was then given up where it may be.
pub record Overrules (s t : DiskState) (p q : Parts) : Type 0 where
  pub settled : Parts
  pub overruled : Overruled s t p settled
  pub releases : Releases p.turns.written t.holds settled q

-- A slot that waited for a leaf that is settled was cleared, where nothing else was to be done.
pub record ClearsOne (s t : DiskState) (p q : Parts) : Type 0 where
  pub quiet : IsQuiet p.turns
  pub certain : p.doubt ≡ None
  pub same : t ≡ s
  pub fewer : length q.clears < length p.clears

-- What was answered was done: block 1 comes first, where it is in doubt.
abbrev pub Does : Flushed → DiskState → DiskState → Parts → Parts → Type 0
Does (Wrote b) s t p q = ((b ≡ 1) × (p.doubt ≢ None) × Overrules s t p q) ⊎ ((p.doubt ≡ None) × Writes b s t p q)
Does SyncedIs s t p q = (p.doubt ≡ None) × Syncs s t p q
Does Cleared s t p q = ClearsOne s t p q
Does Idle s t p q = (t ≡ s) × (q ≡ p) × AtIdle p

-- A turn failed: what was to be written is so, what wasn't settled isn't, and what was in doubt is.
pub record Misses (p q : Parts) : Type 0 where
  pub dirty : (b : ℕ) → (flag_at p.turns b).dirty ≡ true → (flag_at q.turns b).dirty ≡ true
  pub unsettled : (b : ℕ) → (flag_at q.turns b).tried ≡ Settled → (flag_at p.turns b).tried ≡ Settled
  pub doubt : p.doubt ≢ None → q.doubt ≡ p.doubt
