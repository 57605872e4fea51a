use Rattle.std.proofs.Common.{◌≡◌, drop}
use Rattle.fo_world.specs.Tree.{along}
use Rattle.fo_world.proofs.tree.follow.Given as goal

abbrev pub invariant-loop-number : goal.invariant-loop-number
invariant-loop-number l = along (drop l.number-index l.trail) (l.name, l.node) ≡ along l.trail (l.fn.name, l.fn.root)
