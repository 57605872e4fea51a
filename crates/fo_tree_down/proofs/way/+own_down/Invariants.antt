use Rattle.fo_tree_down.proofs.way.+own_down.Given as goal

abbrev pub decreases-own_down : goal.decreases-own_down
decreases-own_down g l = l.down
