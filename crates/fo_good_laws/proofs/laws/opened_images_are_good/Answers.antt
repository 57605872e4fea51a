use Rattle.fo_good.proofs.Fits.{world_fits}
use Rattle.fo_good.proofs.Built.{names_end}
use Rattle.fo_good.proofs.Opening.{opens_good}
use Rattle.fo_good_laws.proofs.laws.opened_images_are_good.Goals as goal

pub returns-clause-good : goal.returns-clause-good
returns-clause-good c = λ device vault w opens. opens_good opens

pub returns-clause-fit : goal.returns-clause-fit
returns-clause-fit c = λ device vault w opens. world_fits opens

pub returns-clause-ends : goal.returns-clause-ends
returns-clause-ends c = λ arena device image numbers active k trail entries meta sound dir. names_end sound trail entries meta dir
