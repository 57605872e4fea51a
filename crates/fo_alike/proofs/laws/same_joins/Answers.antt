use Rattle.fo_alike.proofs.Likes.{shows_same_joins}
use Rattle.fo_alike.proofs.laws.same_joins.Goals as goal

pub returns : goal.returns
returns g c = shows_same_joins c.requires.first c.requires.second
