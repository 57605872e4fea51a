use Rattle.std.proofs.Common.{◌≡◌}
use Rattle.test_arch_walk.proofs.disks.put_all.Given as goal

abbrev pub invariant-loop-at : goal.invariant-loop-at
invariant-loop-at g l = g.D.Disk.size l.disk ≡ 64
