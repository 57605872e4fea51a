use Rattle.fo_tree_trim.proofs.clear.+is_clear_to.Given as goal

abbrev pub decreases-is_clear_to : goal.decreases-is_clear_to
decreases-is_clear_to g l = l.down
