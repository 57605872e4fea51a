use Rattle.fo_dir_read.specs.Pairs.{TakenBelow}
use Rattle.fo_dir_read.proofs.entries.free_in.Given as goal

abbrev pub invariant-loop-p : goal.invariant-loop-p
invariant-loop-p g l = TakenBelow (g.B.Blocks.state l.on) l.at l.p
