use Rattle.std.proofs.Common.{sym}
use Rattle.fo_ports.specs.Sources.{depth_for}
use Rattle.fo_tree_append.proofs.of_tree_grow.Empty.{least_for}
use Rattle.fo_tree.proofs.source.depth_of.Goals as goal

pub returns : goal.returns
returns c = sym (c.least_depth.ensures.only (depth_for c.args.size) (least_for c.args.size c.requires.low))
