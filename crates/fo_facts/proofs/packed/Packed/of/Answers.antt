use Rattle.fo_facts.proofs.Packing.{unpacked-packed}
use Rattle.fo_facts.proofs.packed.Packed.of.Goals as goal

pub returns : goal.returns
returns c = rw c.flags_of.ensures (unpacked-packed c.args.fact c.unwrap_or.result c.unwrap_or.ensures)
