use Rattle.fo_tree_trim.proofs.here.+pointer_here.Given as goal

abbrev pub decreases-pointer_here : goal.decreases-pointer_here
decreases-pointer_here g l = l.down
