use Rattle.fo_arch.proofs.Sames.{forms_other}
use Rattle.fo_arch.proofs.laws.forms_are_of_stored_blocks.Goals as goal

pub returns : goal.returns
returns c = λ done image other lines stored same f. forms_other done image other lines stored same f
