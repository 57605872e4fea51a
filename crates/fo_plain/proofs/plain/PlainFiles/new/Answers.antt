use Rattle.fo_plain.proofs.Empty.{empty-fits}
use Rattle.fo_plain.proofs.plain.PlainFiles.new.Goals as goal

pub invariant_of-result : goal.invariant_of-result
invariant_of-result c = record { fits = rw c.in_ok-world.ensures (empty-fits c.args.now) }
