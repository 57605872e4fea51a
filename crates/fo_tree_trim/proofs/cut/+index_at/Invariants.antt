use Rattle.fo_tree_trim.proofs.cut.+index_at.Given as goal

abbrev pub decreases-index_at : goal.decreases-index_at
decreases-index_at l = l.n
