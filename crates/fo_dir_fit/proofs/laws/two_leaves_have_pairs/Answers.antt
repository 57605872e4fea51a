use Rattle.fo_dir_fit.proofs.Example.{stand, apart}
use Rattle.fo_dir_fit.proofs.laws.two_leaves_have_pairs.Goals as goal

pub returns-clause-stand : goal.returns-clause-stand
returns-clause-stand c = stand

pub returns-clause-beside : goal.returns-clause-beside
returns-clause-beside c = λ arena. apart arena
