-- What steps of closing leave, at an end.
use Rattle.std.specs.Prelude.{◌≡◌, ◌+◌, ◌<◌, ℕ, zero, suc, Bool, true, false, cond, length, is_some, Result, Ok, Err}
use Rattle.fo_disk.specs.Disk.{versions_of}
use Rattle.fo_image.specs.declared.types.State.{State}
use Rattle.fo_image.specs.declared.types.State.TheVariants.{Free, Live, Closed as Shut}
use Rattle.fo_buffers.specs.Held.{held_at}
use Rattle.fo_order.specs.Turns.{IsQuiet}
use Rattle.fo_ports.specs.declared.error.BlockError.{BlockError}
use Rattle.fo_ports.specs.declared.error.BlockError.TheVariants.{Full, Damaged, Fault, Arena, Memory}
use Rattle.fo_labels.specs.Region.{Region}
use Rattle.fo_mind.specs.Parts.{IsNewborn, Parts, count_of, label_at}
use Rattle.fo_closing.specs.declared.turn.Closing.{Closing}
use Rattle.fo_closing.specs.declared.turn.Closing.TheVariants.{Closed as ClosedIs, Reads, Stays, GivenUp, Empty}
use Rattle.fo_closing.specs.Leaves.{Shuts}
use Rattle.fo_closing.specs.Rest.{AtRest}
use Rattle.fo_reserving.specs.Steps.{Reserves}
use Rattle.fo_ending.specs.Ended.{SameBytes}

-- a turn that closed a block, or found that no removal is left
abbrev pub ends : Closing → Bool
ends (ClosedIs b) = true
ends (Stays b) = false
ends (Reads b) = false
ends GivenUp = false
ends Empty = true

-- what closing answered that stops where memory is wanting: whether no removal is left
abbrev pub left_of : Result Unit BlockError → Result Bool BlockError
left_of (Ok u) = Ok true
left_of (Err Full) = Err Full
left_of (Err (Damaged at)) = Err (Damaged at)
left_of (Err (Fault which)) = Err (Fault which)
left_of (Err (Arena which)) = Err (Arena which)
left_of (Err Memory) = Ok false

-- A live block is closed now.
abbrev pub ShutsOne : Region → Region → Type 0
ShutsOne r s = (b : ℕ) × (b < count_of r) × Shuts (label_at r b) (label_at s b)

-- ---- how many blocks are live

abbrev pub is_live : State → Bool
is_live Free = false
is_live Live = true
is_live Shut = false

abbrev pub live_below : Region → ℕ → ℕ
live_below r zero = 0
live_below r (suc n) = live_below r n + cond (is_live (label_at r n).state) 1 0

abbrev pub live_count : Region → ℕ
live_count r = live_below r (count_of r)

-- ---- what they ask and leave

-- All is at rest, and nothing is held but what is newborn.
pub record IsCalm (p : Parts) : Type 0 where
  pub rest : AtRest p
  pub held : (b : ℕ) → is_some (held_at p.held b) ≡ true → IsNewborn p.facts b

-- A removal is queued, all is settled, and at rest.
pub record MayDrain (p : Parts) : Type 0 where
  pub some : 0 < length p.removals
  pub quiet : IsQuiet p.turns
  pub calm : IsCalm p

-- The super block stays, and so do the slots that wait, memory's bytes, and block 0 of the device.
pub record Steps (p q : Parts) : Type 0 where
  pub one : q.one ≡ p.one
  pub clears : q.clears ≡ p.clears
  pub bytes : SameBytes p q
  pub header : versions_of q.disk 0 ≡ versions_of p.disk 0
  pub count : length q.disk ≡ length p.disk
  pub leaves : Reserves p q
