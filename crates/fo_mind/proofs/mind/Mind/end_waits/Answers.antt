use Rattle.std.proofs.Common.{refl}
use Rattle.fo_mind.proofs.Ending.{waiting_fewer}
use Rattle.fo_mind.proofs.mind.Mind.end_waits.Goals as goal

pub invariant_of-self-clause-waiting : goal.invariant_of-self-clause-waiting
invariant_of-self-clause-waiting c = waiting_fewer c.end_first.ensures.ends c.args.self.now.waiting

pub returns : goal.returns
returns c = λ disk faults. record { ends = c.end_first.ensures.ends; rest = refl }
