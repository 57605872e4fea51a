use Rattle.fo_alike.proofs.Likes.{same_shows}
use Rattle.fo_alike.proofs.laws.shows_no_more.Goals as goal

pub returns : goal.returns
returns g c = same_shows c.requires.same
