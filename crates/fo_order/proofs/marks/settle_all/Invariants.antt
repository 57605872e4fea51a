use Rattle.std.proofs.Common.{◌≡◌, vec_len, vec_capacity}
use Rattle.fo_order.proofs.Keeping.{Settling}
use Rattle.fo_order.proofs.marks.settle_all.Given as goal

abbrev pub invariant-loop-mark : goal.invariant-loop-mark
invariant-loop-mark l = Settling l.initial.flags l.flags l.written.items × (vec_capacity l.written ≡ vec_capacity l.initial.written)

abbrev pub decreases-loop-mark : goal.decreases-loop-mark
decreases-loop-mark l = vec_len l.written
