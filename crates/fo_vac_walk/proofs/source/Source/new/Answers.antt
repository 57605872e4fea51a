use Rattle.std.proofs.Common.{arith}
use Rattle.fo_vac_open.proofs.Entries.{shallow_entry}
use Rattle.fo_vac_walk.proofs.source.Source.new.Goals as goal

pub invariant_of-result : goal.invariant_of-result
invariant_of-result c = let few = shallow_entry c.args.entry c.requires in record { shallow = omega (arith, few) }
