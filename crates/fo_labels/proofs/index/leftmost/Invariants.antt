use Rattle.fo_labels.proofs.Trees.{Descent}
use Rattle.fo_labels.proofs.index.leftmost.Given as goal

abbrev pub invariant-loop-level : goal.invariant-loop-level
invariant-loop-level l = record { down : Descent l.levels l.tree l.bound l.node l.level }

abbrev pub decreases-loop-level : goal.decreases-loop-level
decreases-loop-level l = l.level
