use Rattle.fo_dir_fit.proofs.Rules.{sound_root}
use Rattle.fo_dir_fit.proofs.laws.root_is_a_directory.Goals as goal

pub returns : goal.returns
returns c = λ arena image root r. sound_root arena image root r
