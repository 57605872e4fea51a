use Rattle.fo_dir_put.proofs.Once.{shows_once}
use Rattle.fo_dir_put.proofs.laws.stands_once.Goals as goal

pub returns : goal.returns
returns g c = shows_once c.requires.shown c.requires.once
