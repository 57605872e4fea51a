use Rattle.fo_shown.proofs.Showing.{nothing_shows}
use Rattle.fo_shown.proofs.laws.nothing_added.Goals as goal

pub returns : goal.returns
returns g c = nothing_shows c.requires.images
