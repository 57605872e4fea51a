use Rattle.std.proofs.Common.{◌<◌, ◌-◌, ◌+◌, sym, ◌∙◌, subst, arith}
use Rattle.fo_looks.specs.of_image.declared.types.Kind.{Kind}
use Rattle.fo_looks.specs.of_ports.Blocks.{IsInner}
use Rattle.fo_tree_read.specs.Tree.{StandsAs}
use Rattle.fo_tree_read.proofs.Walk.{tree_stands, told_same, hangs_looks, inner_kind}
use Rattle.fo_tree_read.proofs.tree.Tree.step.Goals as goal

pub pointer_below-requires-clause-inner : goal.pointer_below-requires-clause-inner
pointer_below-requires-clause-inner g c = subst (λ (k : Kind). IsInner k) (sym c.kind_at.ensures) (inner_kind c.args.self.now.dir (c.args.self.now.depth - c.args.down) (omega arith))

pub pointer_below-requires-clause-told : goal.pointer_below-requires-clause-told
pointer_below-requires-clause-told g c = λ b keeps looks told.
    let s = g.B.Blocks.state b in
    let tree = c.args.self.now in
    let all = g.met.B.Blocks.keeps_all c.args.on.now b keeps in
    let before = all.still_tells.0 told in
    let here = c.requires.there before in
    let down : c.args.down < tree.depth = c.requires.down in
    subst (λ (k : Kind). StandsAs s k (tree.rank + (tree.depth - c.args.down)) c.args.at) (sym c.kind_at.ensures)
    (tree_stands s tree (g.met.B.Blocks.placed b s.now (g.met.B.Blocks.present b told)) (hangs_looks all looks c.requires.hangs) told c.args.down here.0 c.args.at (omega (arith, down)) (told_same all looks before tree c.args.down here.0 ∙ here.1))
