use Rattle.fo_meta.specs.Leaf.{IsLeaf}
use Rattle.test_dir.proofs.thirds.put_letters.Given as goal

abbrev pub invariant-loop-k : goal.invariant-loop-k
invariant-loop-k l = IsLeaf l.leaf
