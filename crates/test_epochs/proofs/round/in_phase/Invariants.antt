use Rattle.test_names.specs.Root.{NoneComes}
use Rattle.test_epochs.proofs.round.in_phase.Given as goal

abbrev pub invariant-numbers : goal.invariant-numbers
invariant-numbers g l = NoneComes (g.B.Blocks.state l.on) × g.B.Blocks.keeps l.initial.on l.on
