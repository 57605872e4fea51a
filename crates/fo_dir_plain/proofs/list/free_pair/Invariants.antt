use Rattle.fo_dir_plain.specs.Pairs.{TakenBelow}
use Rattle.fo_dir_plain.proofs.list.free_pair.Given as goal

abbrev pub invariant-loop-k : goal.invariant-loop-k
invariant-loop-k l = TakenBelow l.records l.k
