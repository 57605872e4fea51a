use Rattle.fo_tree_look.proofs.pins.+look_down.Given as goal

abbrev pub decreases-look_down : goal.decreases-look_down
decreases-look_down g l = l.down
