use Rattle.fo_check_images.proofs.Making.{made}
use Rattle.fo_check_images.proofs.laws.images_are_there.Goals as goal

pub returns : goal.returns
returns c = λ device s root whole active. made device s root whole active
