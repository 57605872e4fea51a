use Rattle.fo_good.proofs.Keeps.{shows_all}
use Rattle.fo_good_laws.proofs.laws.good_images_show_all.Goals as goal

pub returns : goal.returns
returns c = λ device vault w good. shows_all good
