-- Which calls turns make of the device, and how many.
use Rattle.std.specs.Prelude.{◌≡◌, ◌+◌, ◌≤◌, ℕ, cond, nat_eq, List, [], ◌∷◌, length, Option, None, Some, Result}
use Rattle.fo_disk.specs.Disk.{Block, DiskState, IsSync, IsWrite}
use Rattle.fo_disk.specs.declared.disk.Failed.{Failed}
use Rattle.fo_order.specs.Keeps.{Turns}
use Rattle.fo_order.specs.Turns.{flag_at}

-- a write of this block, or a sync
abbrev pub Call : Type 0
Call = Option ℕ

-- It was made, whatever it answered.
abbrev pub Calls : Call → DiskState → DiskState → Type 0
Calls (Some at) s t = (bytes : Block) × (r : Result Unit Failed) × IsWrite at bytes r s t
Calls None s t = (r : Result Unit Failed) × IsSync r s t

-- These calls were made, one after the other.
abbrev pub Called : List Call → DiskState → DiskState → Type 0
Called [] s t = t ≡ s
Called (c ∷ cs) s t = (m : DiskState) × Calls c s m × Called cs m t

-- how often a block is written
abbrev pub writes : Call → ℕ → ℕ
writes (Some at) b = cond (nat_eq at b) 1 0
writes None b = 0

abbrev pub writes_of : List Call → ℕ → ℕ
writes_of [] b = 0
writes_of (c ∷ cs) b = writes c b + writes_of cs b

-- Writes and syncs were made, and no other calls. With the `left` that may come they are at most `most`; and no block is written more often
-- than `limit` says, with what may come, which is `rest`.
pub record Makes (s t : DiskState) (before now most left : ℕ) (limit rest : ℕ → ℕ) : Type 0 where
  pub calls : List Call
  pub called : Called calls s t
  pub all : now ≤ before + length calls
  pub few : length calls + left ≤ most
  pub often : (b : ℕ) → writes_of calls b + rest b ≤ limit b

-- one, where a block has a turn
abbrev pub turns_of : Turns → ℕ → ℕ
turns_of t b = cond (flag_at t b).dirty 1 0

-- so often, and no other block
abbrev pub at_only : ℕ → ℕ → ℕ → ℕ
at_only at n b = cond (nat_eq at b) n 0

abbrev pub no_more : ℕ → ℕ
no_more b = 0
