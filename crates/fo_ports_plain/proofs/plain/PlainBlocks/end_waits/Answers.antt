use Rattle.fo_ports_plain.proofs.Waiting.{ended_waiting}
use Rattle.fo_ports_plain.proofs.plain.PlainBlocks.end_waits.Goals as goal

pub invariant_of-self-clause-waiting : goal.invariant_of-self-clause-waiting
invariant_of-self-clause-waiting c = ended_waiting c.end_pair.ensures.ends c.args.self.now.waiting
