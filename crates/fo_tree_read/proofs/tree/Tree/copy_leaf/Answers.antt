use Rattle.std.proofs.Common.{sym, ◌∙◌, subst}
use Rattle.fo_looks.specs.of_image.declared.types.Kind.{Kind}
use Rattle.fo_tree_read.specs.Tree.{StandsAs}
use Rattle.fo_tree_read.proofs.Exits.{looks_none}
use Rattle.fo_tree_read.proofs.Copies.{leaf_stands}
use Rattle.fo_tree_read.proofs.Walk.{told_same, hangs_looks}
use Rattle.fo_tree_read.proofs.tree.Tree.copy_leaf.Goals as goal

pub copy_local-requires-clause-told : goal.copy_local-requires-clause-told
copy_local-requires-clause-told g c = λ b keeps looks told.
    let s = g.B.Blocks.state b in
    let tree = c.args.self.now in
    let all = g.met.B.Blocks.keeps_all c.args.on.now b keeps in
    let before = all.still_tells.0 told in
    let here = c.requires.there before in
    subst (λ (k : Kind). StandsAs s k tree.rank c.in-Local.at) (sym c.kind_at.ensures)
    (leaf_stands s tree (g.met.B.Blocks.placed b s.now (g.met.B.Blocks.present b told)) (hangs_looks all looks c.requires.hangs) told here.0 c.in-Local.at (told_same all looks before tree tree.depth here.0 ∙ sym here.1 ∙ c.in-Local.is))

pub returns-in-Nil-clause-looks : goal.returns-in-Nil-clause-looks
returns-in-Nil-clause-looks g c = looks_none (g.B.Blocks.state c.args.on.now)
