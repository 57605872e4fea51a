use Rattle.std.proofs.Common.{◌≡◌}
use Rattle.test_dir.proofs.thirds.are_right.Given as goal

abbrev pub invariant-loop-k : goal.invariant-loop-k
invariant-loop-k g l = g.S.Bytes.is_over l.records l.on × (g.S.Bytes.form l.records ≡ g.S.Bytes.form l.initial.records)
