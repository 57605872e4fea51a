use Rattle.fo_vac_walk.proofs.source.Source.+pointer_at.Given as goal

abbrev pub decreases-pointer_at : goal.decreases-pointer_at
decreases-pointer_at g l = l.down
