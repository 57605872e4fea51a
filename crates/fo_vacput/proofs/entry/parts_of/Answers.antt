use Rattle.std.proofs.Common.{arith}
use Rattle.fo_vacput.proofs.Entries.{shallow_entry}
use Rattle.fo_vacput.proofs.entry.parts_of.Goals as goal

pub flags_of-requires : goal.flags_of-requires
flags_of-requires c = omega (arith, shallow_entry c.args.entry c.requires)
