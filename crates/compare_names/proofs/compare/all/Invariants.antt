use Rattle.test_names.specs.Root.{NoneComes}
use Rattle.compare_names.proofs.compare.all.Given as goal

abbrev pub invariant-names : goal.invariant-names
invariant-names g l = NoneComes (g.B.Blocks.state l.on) × g.B.Blocks.keeps l.initial.on l.on
