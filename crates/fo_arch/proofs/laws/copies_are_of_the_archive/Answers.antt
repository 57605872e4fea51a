use Rattle.fo_arch.proofs.Sames.{of_same}
use Rattle.fo_arch.proofs.laws.copies_are_of_the_archive.Goals as goal

pub returns : goal.returns
returns c = λ a b d same is. of_same a b d same is
