use Rattle.fo_crash.specs.Images.{nothing}
use Rattle.fo_good.proofs.Fresh.{built_opens}
use Rattle.fo_good.proofs.Built.{sound_built}
use Rattle.fo_good_laws.proofs.laws.empty_images_are_sound.Goals as goal

pub returns-clause-built : goal.returns-clause-built
returns-clause-built c = λ device vault s root sizes arena is sound. built_opens (λ kind score. nothing) sizes arena is sound

pub returns-clause-back : goal.returns-clause-back
returns-clause-back c = λ arena device vault s active older image sound is. sound_built sound is
