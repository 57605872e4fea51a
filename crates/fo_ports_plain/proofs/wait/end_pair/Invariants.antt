use Rattle.std.proofs.Common.{◌≡◌}
use Rattle.std.specs.Vec.{vec_len, vec_capacity}
use Rattle.fo_ports_plain.proofs.Waits.{EndsUpTo}
use Rattle.fo_ports_plain.proofs.wait.end_pair.Given as goal

-- the waits so far are over
abbrev pub invariant-loop-n : goal.invariant-loop-n
invariant-loop-n l = EndsUpTo l.n l.on l.pair l.initial.waits.items l.waits.items × (vec_len l.waits ≡ vec_len l.initial.waits) × (vec_capacity l.waits ≡ vec_capacity l.initial.waits)
