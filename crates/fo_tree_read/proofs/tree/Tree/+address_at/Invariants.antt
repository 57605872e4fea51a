use Rattle.fo_tree_read.proofs.tree.Tree.+address_at.Given as goal

abbrev pub decreases-address_at : goal.decreases-address_at
decreases-address_at g l = l.down
