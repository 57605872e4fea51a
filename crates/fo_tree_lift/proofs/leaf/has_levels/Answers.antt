use Rattle.std.proofs.Common.{◌+◌, ◌*◌, sym, ◌∙◌, subst}
use Rattle.std.proofs.lemmas.Bool.{eqb-true, eqb-false}
use Rattle.fo_image.specs.Format.{IsDepth}
use Rattle.fo_ports.specs.Sources.{depth_for}
use Rattle.fo_tree_grow.proofs.Empty.{least_for}
use Rattle.fo_tree_lift.proofs.leaf.has_levels.Goals as goal

pub returns-clause-yes : goal.returns-clause-yes
returns-clause-yes c = λ yes.
    let same = c.least_depth.ensures.only (depth_for (8192 * (c.args.i + 1))) (subst (λ z. IsDepth z (depth_for (8192 * (c.args.i + 1)))) (sym c.end_of.ensures) (least_for (8192 * (c.args.i + 1)) c.requires.small)) in
    sym (same ∙ eqb-true c.least_depth.result c.args.tree.now.depth yes)

pub returns-clause-not : goal.returns-clause-not
returns-clause-not c = λ not is.
    let same = c.least_depth.ensures.only (depth_for (8192 * (c.args.i + 1))) (subst (λ z. IsDepth z (depth_for (8192 * (c.args.i + 1)))) (sym c.end_of.ensures) (least_for (8192 * (c.args.i + 1)) c.requires.small)) in
    eqb-false c.least_depth.result c.args.tree.now.depth not (sym (is ∙ same))
