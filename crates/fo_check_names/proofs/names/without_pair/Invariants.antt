use Rattle.std.proofs.Common.{take}
use Rattle.std.specs.List.{All}
use Rattle.fo_check_names.specs.Names.{IsPaired}
use Rattle.fo_check_names.proofs.names.without_pair.Given as goal

abbrev pub invariant-loop-n : goal.invariant-loop-n
invariant-loop-n l = All (IsPaired l.size) (take l.n-index l.named)
