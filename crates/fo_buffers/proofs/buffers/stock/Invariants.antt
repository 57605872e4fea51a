use Rattle.std.proofs.Common.{◌≤◌, ◌-◌, vec_len}
use Rattle.fo_buffers.proofs.buffers.stock.Given as goal

abbrev pub invariant-loop-alloc : goal.invariant-loop-alloc
invariant-loop-alloc l = vec_len l.initial.spare ≤ vec_len l.spare

abbrev pub decreases-loop-alloc : goal.decreases-loop-alloc
decreases-loop-alloc l = l.count - vec_len l.spare
