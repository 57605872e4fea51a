use Rattle.fo_alike.proofs.Likes.{settled_same}
use Rattle.fo_alike.proofs.laws.all_settled.Goals as goal

pub returns : goal.returns
returns g c = settled_same c.requires.settled
