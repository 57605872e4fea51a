use Rattle.fo_alike.proofs.Likes.{nothing_same}
use Rattle.fo_alike.proofs.laws.nothing_added.Goals as goal

pub returns : goal.returns
returns g c = nothing_same c.requires.images
