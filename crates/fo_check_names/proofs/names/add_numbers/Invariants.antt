use Rattle.std.proofs.Common.{◌≡◌, ◌++◌, map, take}
use Rattle.fo_check_names.specs.Names.{number_in}
use Rattle.fo_check_names.proofs.names.add_numbers.Given as goal

abbrev pub invariant-loop-n : goal.invariant-loop-n
invariant-loop-n l = l.numbers.items ≡ l.fn.numbers.items ++ map number_in (take l.n-index l.named)
