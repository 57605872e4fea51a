use Rattle.fo_dir_images.proofs.Same.{reads_dirs}
use Rattle.fo_dir_images.proofs.laws.names_lead_along_trails.Goals as goal

pub returns : goal.returns
returns c = λ arena image root. reads_dirs arena image root
