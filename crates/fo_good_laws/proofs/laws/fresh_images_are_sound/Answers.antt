use Rattle.fo_crash.specs.Images.{nothing}
use Rattle.fo_good.proofs.Fresh.{fresh_opens}
use Rattle.fo_good_laws.proofs.Empty.{only_empty}
use Rattle.fo_good_laws.proofs.Lost.{none_lost}
use Rattle.fo_good_laws.proofs.laws.fresh_images_are_sound.Goals as goal

pub returns-clause-sound : goal.returns-clause-sound
returns-clause-sound c = λ device vault time sizes arena fresh. fresh_opens (λ kind score. nothing) sizes arena fresh

pub returns-clause-empty : goal.returns-clause-empty
returns-clause-empty c = λ device vault time w fresh opens. only_empty fresh opens

pub returns-clause-lost : goal.returns-clause-lost
returns-clause-lost c = λ arena device image time at fresh lost. none_lost fresh lost
