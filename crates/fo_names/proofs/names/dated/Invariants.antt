use Rattle.std.proofs.Common.{◌≡◌, map, take}
use Rattle.fo_names.specs.Names.{taken, named}
use Rattle.fo_names.proofs.names.dated.Given as goal

abbrev pub invariant-loop-epoch : goal.invariant-loop-epoch
invariant-loop-epoch l =
    l.names.items ≡ map (λ p. (p.0, named (map taken l.list) (taken p))) (take l.epoch-index l.list)
