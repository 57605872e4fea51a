use Rattle.std.proofs.Common.{◌≡◌, ◌≤◌, vec_len, vec_capacity}
use Rattle.fo_order.proofs.Falling.{StaleGone}
use Rattle.fo_order.proofs.marks.drop_stale.Given as goal

abbrev pub invariant-loop-mark : goal.invariant-loop-mark
invariant-loop-mark l =
    StaleGone l.flags l.marks.items × (vec_len l.marks ≤ vec_len l.initial.marks) × (vec_capacity l.marks ≡ vec_capacity l.initial.marks)

abbrev pub decreases-loop-mark : goal.decreases-loop-mark
decreases-loop-mark l = vec_len l.marks
