use Rattle.std.proofs.Common.{length, subst}
use Rattle.fo_vacput.specs.Cut.{IsCut}
use Rattle.fo_vacput.proofs.Tails.{all_cut}
use Rattle.fo_vacput.proofs.truncation.cut.Goals as goal

pub returns-in-Nothing : goal.returns-in-Nothing
returns-in-Nothing c = subst (λ tail. IsCut tail c.args.block.now (length c.args.block.now)) c.in-Nothing.ensures (all_cut c.args.block.now)
