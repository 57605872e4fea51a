use Rattle.fo_waits.proofs.Taking.{takes_out}
use Rattle.fo_waits.proofs.clears.take_out.Goals as goal

pub returns-clause-out : goal.returns-clause-out
returns-clause-out c = takes_out c.args.at c.args.i c.args.clears.now.items c.drop_clearing.new.clears.items c.drop_clearing.ensures.items
