use Rattle.std.proofs.Common.{◌≤◌, sym, subst, arith}
use Rattle.fo_ports.specs.Sources.{depth_for}
use Rattle.fo_tree_trim.proofs.Least.{few_for, least_for}
use Rattle.test_tree.proofs.linked.least.Goals as goal

pub returns-clause-is : goal.returns-clause-is
returns-clause-is c = let few = c.requires in sym (c.least_depth.ensures.only (depth_for c.args.len) (least_for c.args.len (omega (arith, few))))

pub returns-clause-few : goal.returns-clause-few
returns-clause-few c = let few = c.requires in subst (λ d. d ≤ 4) (c.least_depth.ensures.only (depth_for c.args.len) (least_for c.args.len (omega (arith, few)))) (few_for c.args.len)
