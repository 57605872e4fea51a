use Rattle.fo_tree_raise.proofs.climb.+raise_levels.Given as goal

abbrev pub decreases-raise_levels : goal.decreases-raise_levels
decreases-raise_levels g l = l.levels
