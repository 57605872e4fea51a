use Rattle.std.proofs.Common.{inr, refl}
use Rattle.fo_dir_pairs.proofs.Example.{pairs_stand, first_shown}
use Rattle.fo_dir_pairs.proofs.laws.a_pair_stands.Goals as goal

pub returns-clause-stand : goal.returns-clause-stand
returns-clause-stand c = pairs_stand

pub returns-clause-shown : goal.returns-clause-shown
returns-clause-shown c = (inr refl, first_shown)
