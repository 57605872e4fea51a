use Rattle.fo_vacput.proofs.Tails.{zeros_cut}
use Rattle.fo_vacput.proofs.truncation.without_zeros.Goals as goal

pub returns : goal.returns
returns c = zeros_cut c.args.bytes.now c.without.result.now c.without.ensures
