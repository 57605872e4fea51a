use Rattle.fo_image.specs.Field.{zeros}
use Rattle.fo_vac_walk.proofs.leaf.clear.Goals as goal

pub returns : goal.returns
unfolding zeros
returns c = c.fill.ensures.after (λ y e. e)
