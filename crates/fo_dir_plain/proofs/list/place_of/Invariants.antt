use Rattle.std.proofs.Common.{take}
use Rattle.fo_dir_plain.specs.Calls.{LacksName}
use Rattle.fo_dir_plain.proofs.list.place_of.Given as goal

abbrev pub invariant-loop-i : goal.invariant-loop-i
invariant-loop-i l = LacksName l.name (take l.i l.records)
