use Rattle.test_names.specs.Root.{NoneComes}
use Rattle.compare_names.proofs.compare.calls.Given as goal

abbrev pub invariant-calls : goal.invariant-calls
invariant-calls g l = NoneComes (g.B.Blocks.state l.on) × g.B.Blocks.keeps l.initial.on l.on
