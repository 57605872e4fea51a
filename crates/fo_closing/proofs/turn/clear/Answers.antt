use Rattle.std.proofs.Common.{length, sym, subst}
use Rattle.fo_ports.specs.Blocks.{AreZeros}
use Rattle.fo_closing.proofs.Looking.{zeros}
use Rattle.fo_closing.proofs.turn.clear.Goals as goal

pub returns-clause-zeros : goal.returns-clause-zeros
returns-clause-zeros c = subst AreZeros (sym (c.fill.ensures.after (λ y e. e))) (zeros (length c.args.into.now))
