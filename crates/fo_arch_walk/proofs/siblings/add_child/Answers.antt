use Rattle.std.proofs.Common.{arith}
use Rattle.fo_arch_walk.proofs.Beside.{child_open}
use Rattle.fo_arch_walk.proofs.siblings.add_child.Goals as goal

pub add_ready-requires-clause-open : goal.add_ready-requires-clause-open
add_ready-requires-clause-open g c = child_open c.requires.got c.requires.count c.in-Some.ensures (omega (arith, c.if-above-child.false)) (c.is_wanted.ensures.fresh c.if-not-is_wanted.false)
