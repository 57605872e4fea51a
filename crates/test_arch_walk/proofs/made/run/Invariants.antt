use Rattle.std.proofs.Common.{◌≡◌}
use Rattle.test_arch_walk.proofs.made.run.Given as goal

abbrev pub invariant-loop : goal.invariant-loop
invariant-loop g l = l.archive.root ≡ 3
