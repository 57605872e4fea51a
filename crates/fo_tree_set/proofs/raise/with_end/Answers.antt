use Rattle.std.proofs.Common.{sym, ap}
use Rattle.fo_ports.specs.Sources.{depth_for}
use Rattle.fo_tree_append.proofs.of_tree_grow.Empty.{least_for}
use Rattle.fo_tree_set.proofs.raise.with_end.Goals as goal

pub returns : goal.returns
returns c = ap (λ d. record c.args.tree.now { depth = d; size = c.args.size; top = c.args.top }) (sym (c.least_depth.ensures.only (depth_for c.args.size) (least_for c.args.size c.requires.low)))
