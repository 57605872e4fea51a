use Rattle.std.proofs.Common.{◌≡◌, ◌-◌, arith}
use Rattle.fo_labels.proofs.Trees.{done, inner, goes_left, goes_right}
use Rattle.fo_labels.proofs.index.leftmost.Goals as goal

pub bounds-tree-node : goal.bounds-tree-node
bounds-tree-node c =
    let inside = inner _ _ _ _ _ (c.loop-level.level - 1) (omega arith) c.loop-level.invariant.down in
    omega arith

pub loop-level-preserved-then-tree-node : goal.loop-level-preserved-then-tree-node
loop-level-preserved-then-tree-node c = record {
  down = goes_right _ _ _ _ _ _ c.requires.mins (omega arith) c.loop-level.invariant.down c.if-tree-node.true;
}

pub loop-level-preserved : goal.loop-level-preserved
loop-level-preserved c = record {
  down = goes_left _ _ _ _ _ _ (omega arith) c.loop-level.invariant.down c.if-tree-node.false;
}

pub returns : goal.returns
returns c =
    let end : c.loop-level.level ≡ 0 = omega arith in
    done _ _ _ _ _ end c.loop-level.invariant.down
