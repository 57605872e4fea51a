use Rattle.std.proofs.Common.{◌≡◌, ◌+◌, length}
use Rattle.nine_stat.specs.Cut.{records}
use Rattle.nine_stat.proofs.cut.fitting.Given as goal

abbrev pub invariant-loop-taken : goal.invariant-loop-taken
invariant-loop-taken l = l.left + length (records l.list l.taken) ≡ l.count
