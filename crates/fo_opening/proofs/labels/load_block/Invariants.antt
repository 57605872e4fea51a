use Rattle.fo_opening.specs.Loads.{LoadsPart}
use Rattle.fo_opening.proofs.labels.load_block.Given as goal

abbrev pub invariant-loop-place : goal.invariant-loop-place
invariant-loop-place l = LoadsPart l.n l.place l.block l.fn.labels l.labels
