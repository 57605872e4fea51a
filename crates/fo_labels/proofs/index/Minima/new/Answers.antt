use Rattle.std.proofs.Common.{arith}
use Rattle.fo_labels.proofs.Leaves.{leaves-replicate, power_fits}
use Rattle.fo_labels.proofs.index.Minima.new.Goals as goal

pub returns : goal.returns
returns c =
    let fits = power_fits c.levels_for-levels.result c.levels_for-levels.ensures.within in
    leaves-replicate _ _ c.args.len _ (c.in_ok-tree.ensures.items_if_clones_equal (λ y e. e)) (omega arith) (rw fits c.levels_for-levels.ensures.enough)
