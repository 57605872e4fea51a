use Rattle.std.proofs.Common.{◌≡◌, ℕ, List, true, false, refl, sym, ap, ◌∙◌, subst, arith}
use Rattle.fo_tree_look.specs.declared.ways.Kept.{Kept}
use Rattle.fo_tree_look.specs.Source.{Over}
use Rattle.fo_ports.specs.Sources.{Form}
use Rattle.fo_tree_link.specs.Link.{CanLink}
use Rattle.fo_tree.proofs.Relinking.{same_source, only_any}
use Rattle.fo_tree.proofs.laws.may_link_changed.Goals as goal

not_both : true ≡ false → ⊥
not_both e = cc

pub may_link-requires-clause-over : goal.may_link-requires-clause-over
may_link-requires-clause-over g c =
    let s = g.B.Blocks.state c.args.before.now in
    let w = c.args.source.now.ways in
    (w.limit, subst (λ (k : List Kept). Over s w.tree k w.limit) (sym c.deref.ensures.value) c.requires.over)

pub may_link-requires-clause-same : goal.may_link-requires-clause-same
may_link-requires-clause-same g c =
    let w = c.args.source.now.ways in
    let n = c.args.new.now.ways in
    let within = c.requires.now.within in
    let low = c.requires.now.low in
    same_source w.tree n.tree w.generation w.limit n.generation n.limit c.requires.form c.requires.over.least c.requires.now.least c.requires.longer (omega (arith, within, low))

pub may_link-requires-clause-only : goal.may_link-requires-clause-only
may_link-requires-clause-only g c = λ told.
    let s = g.B.Blocks.state c.args.before.now in
    let u = g.B.Blocks.state c.args.after.now in
    let t = c.args.source.now.ways.tree in
    let new = c.args.new.now.ways.tree in
    only_any s u t new new.top refl (λ b made. (c.requires.grows.owns told b).1 made) (c.requires.linked told).none c.requires.adds (c.requires.only told)

pub may_link-requires-clause-leaves : goal.may_link-requires-clause-leaves
may_link-requires-clause-leaves g c = λ told. record { each = λ dir k a is. absurd (not_both (sym dir ∙ c.requires.data)) }

pub returns : goal.returns
returns g c =
    let u = g.B.Blocks.state c.args.after.now in
    let new = c.args.new.now.ways.tree in
    subst (λ (generation : ℕ). u.tells → CanLink u new generation c.args.at c.args.i) (sym (ap (λ (f : Form). f.generation) c.requires.form)) c.may_link.ensures
