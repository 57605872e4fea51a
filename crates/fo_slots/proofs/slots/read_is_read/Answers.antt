use Rattle.fo_slots.proofs.Putting.{reads_as, formed_blanked}
use Rattle.fo_slots.proofs.slots.read_is_read.Goals as goal

pub returns : goal.returns
returns c = λ kind bytes len. (reads_as kind bytes len, λ rank. formed_blanked kind rank bytes len)
