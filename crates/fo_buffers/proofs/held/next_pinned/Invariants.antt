use Rattle.std.proofs.Common.{◌≡◌, ◌≤◌, vec_len, vec_capacity}
use Rattle.std.specs.HashMap.{spare, IsUnchanged}
use Rattle.fo_buffers.specs.Tables.{Listed}
use Rattle.fo_buffers.proofs.held.next_pinned.Given as goal

abbrev pub invariant-loop-at : goal.invariant-loop-at
invariant-loop-at l =
    IsUnchanged l.initial.held l.held × Listed l.held l.pins.items × (spare l.held ≡ spare l.initial.held) × (vec_len l.pins ≤ vec_len l.initial.pins)
    × (vec_capacity l.pins ≡ vec_capacity l.initial.pins)

abbrev pub decreases-loop-at : goal.decreases-loop-at
decreases-loop-at l = vec_len l.pins
