-- How much room is left for what was promised.
use Rattle.std.specs.Prelude.{◌≡◌, ℕ, ◌+◌, ◌*◌, ◌≤◌, false}
use Rattle.fo_image.specs.declared.types.Label.{Label}
use Rattle.fo_image.specs.Usable.{is_usable}
use Rattle.fo_labels.specs.Region.{Region, IsDataBlock, label_of, relabeled, usable_count}

-- What a request may still ask for: blocks to be given out, blocks to be pinned, removals. `copies` were given out as copies, and are not
-- linked yet: each queues what it replaces. `waiting` slots wait to be cleared: each queues a removal then.
pub record Promises : Type 0 where
  pub spare : ℕ
  pub pins : ℕ
  pub removals : ℕ
  pub copies : ℕ
  pub waiting : ℕ

-- the room that lists have left
pub record Space : Type 0 where
  pub buffers : ℕ
  pub queue : ℕ
  pub waits : ℕ
  pub clears : ℕ

-- THERE IS ROOM for all that was promised: usable blocks, buffers, removals, waits (one for each pair of a leaf of entries), waiting slots.
pub record HasRoom (low : ℕ) (r : Region) (p : Promises) (s : Space) : Type 0 where
  pub usable : p.spare ≤ usable_count low r
  pub buffers : p.spare + p.pins ≤ s.buffers
  pub queue : p.spare + p.copies + p.removals + p.waiting ≤ s.queue
  pub waits : 102 * p.removals ≤ s.waits
  pub clears : p.removals ≤ s.clears

-- what one call uses
pub record Used : Type 0 where
  pub blocks : ℕ
  pub pins : ℕ
  pub removals : ℕ
  -- of the blocks, how many are copies; how many copies are linked
  pub copied : ℕ
  pub linked : ℕ
  -- of the removals, how many slots begin to wait; how many waiting slots are cleared
  pub began : ℕ
  pub cleared : ℕ

-- A call uses no more room than it uses of what was promised.
pub record Spends (x : Used) (p q : Promises) (s u : Space) : Type 0 where
  pub spare : p.spare ≡ q.spare + x.blocks
  pub pins : p.pins ≡ q.pins + x.pins
  pub removals : p.removals ≡ q.removals + x.removals
  pub copies : q.copies + x.linked ≡ p.copies + x.copied
  pub waiting : q.waiting + x.cleared ≡ p.waiting + x.began
  pub few : (x.copied ≤ x.blocks) × (x.began ≤ x.removals)
  pub buffers : s.buffers ≤ u.buffers + (x.blocks + x.pins)
  pub queue : s.queue + x.began ≤ u.queue + (x.linked + (x.removals + x.cleared))
  pub waits : s.waits ≤ u.waits + 102 * x.removals
  pub clears : s.clears ≤ u.clears + x.began

-- so many fewer blocks are usable at most
abbrev pub UsesLabels : ℕ → ℕ → ℕ → Region → Region → Type 0
UsesLabels blocks low after r t = usable_count low r ≤ usable_count after t + blocks

-- LAWS
-- There is room after a call that spends what was promised.
abbrev pub RoomStays : Type 0
RoomStays = (low after : ℕ) (r t : Region) (x : Used) (p q : Promises) (s u : Space) → Spends x p q s u → UsesLabels x.blocks low after r t → HasRoom low r p s → HasRoom after t q u

-- A block that is given out is one usable block less; one that is closed is none less; nor are blocks where the low epoch rises.
abbrev pub GivenIsOne : Type 0
GivenIsOne = (low at : ℕ) (r : Region) (l : Label) → IsDataBlock r at → UsesLabels 1 low low r (relabeled r at l)

abbrev pub ClosedIsNone : Type 0
ClosedIsNone = (low at : ℕ) (r : Region) (l : Label) → IsDataBlock r at → is_usable low (label_of r at) ≡ false → UsesLabels 0 low low r (relabeled r at l)

abbrev pub RaisedIsNone : Type 0
RaisedIsNone = (low after : ℕ) (r : Region) → low ≤ after → UsesLabels 0 low after r r
