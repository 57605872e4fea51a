use Rattle.std.proofs.Common.{◌≡◌, ◌*◌, ◌/◌, ◌<◌, drop}
use Rattle.fo_labels.specs.Mins.{HasMinsBut}
use Rattle.fo_labels.proofs.index.raise.Given as goal

abbrev pub invariant-loop-node : goal.invariant-loop-node
invariant-loop-node l = record {
  inside : l.node < 2 * l.leaves;
  mins : HasMinsBut l.leaves (l.node / 2) l.tree;
  kept : drop l.leaves l.tree ≡ drop l.leaves l.initial.tree;
}

abbrev pub decreases-loop-node : goal.decreases-loop-node
decreases-loop-node l = l.node
