use Rattle.std.proofs.Common.{take}
use Rattle.std.specs.List.{All}
use Rattle.fo_check_names.specs.Names.{IsFileNumber}
use Rattle.fo_check_names.proofs.names.no_file.Given as goal

abbrev pub invariant-loop-n : goal.invariant-loop-n
invariant-loop-n l = All (IsFileNumber l.limit) (take l.n-index l.found)
