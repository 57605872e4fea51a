use Rattle.fo_arch.proofs.Sames.{pieces_told}
use Rattle.fo_arch.proofs.laws.pieces_are_of_memory.Goals as goal

pub returns : goal.returns
returns g c = λ done root pieces told all. pieces_told done (g.B.Blocks.state c.args.on.now) root pieces told all
