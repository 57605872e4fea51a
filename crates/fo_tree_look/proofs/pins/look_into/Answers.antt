use Rattle.std.proofs.Common.{◌+◌, ◌-◌, sym, ◌∙◌, subst}
use Rattle.fo_image.specs.declared.types.Kind.{Kind}
use Rattle.fo_tree_read.specs.Tree.{StandsAs}
use Rattle.fo_tree_read.proofs.Walk.{tree_stands}
use Rattle.fo_tree_look.proofs.Shown.{extends_none}
use Rattle.fo_tree_look.proofs.Down.{has_label}
use Rattle.fo_tree_look.proofs.pins.look_into.Goals as goal

pub look_local-requires-clause-place : goal.look_local-requires-clause-place
look_local-requires-clause-place g c = λ told.
    let s = g.B.Blocks.state c.args.on.now in
    let t = c.args.tree.now in
    let here = c.requires.there told in
    subst (λ (k : Kind). StandsAs s k (t.rank + (t.depth - c.args.down)) c.in-Local.at) (sym c.kind_at-kind.ensures)
    (tree_stands s t (g.met.B.Blocks.placed c.args.on.now s.now (g.met.B.Blocks.present c.args.on.now told)) c.requires.over.1.hangs told c.args.down here.0 c.in-Local.at c.requires.down (sym here.1 ∙ c.in-Local.is))

pub look_local-requires-clause-told : goal.look_local-requires-clause-told
look_local-requires-clause-told g c = λ told.
    let s = g.B.Blocks.state c.args.on.now in
    let t = c.args.tree.now in
    let here = c.requires.there told in
    has_label s t c.args.kept.now.items c.requires.over.0 (g.met.B.Blocks.placed c.args.on.now s.now (g.met.B.Blocks.present c.args.on.now told)) (λ at p is other stands. g.met.B.Blocks.labelled c.args.on.now at p is other stands) (g.met.B.Blocks.active c.args.on.now).1 c.requires.over.1 told c.args.down here.0 c.in-Local.at c.requires.down (c.requires.block c.in-Local.at c.in-Local.is) (sym here.1 ∙ c.in-Local.is)

pub returns-in_err-look_local-in-Local-clause-more : goal.returns-in_err-look_local-in-Local-clause-more
returns-in_err-look_local-in-Local-clause-more g c = extends_none (g.met.B.Blocks.keeps_all c.args.on.now c.look_local.new.on c.look_local.ensures.keeps) c.args.kept.now.items c.requires.over.1.held

pub returns-in_ok-look_local-in-Local-clause-more : goal.returns-in_ok-look_local-in-Local-clause-more
returns-in_ok-look_local-in-Local-clause-more g c = extends_none (g.met.B.Blocks.keeps_all c.args.on.now c.look_local.new.on c.look_local.ensures.keeps) c.args.kept.now.items c.requires.over.1.held
