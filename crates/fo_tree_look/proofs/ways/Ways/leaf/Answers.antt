use Rattle.std.proofs.Common.{◌*◌, ◌<◌, sym, ◌∙◌, arith}
use Rattle.fo_tree_look.proofs.Shown.{over_looks, same_leaves, extends_none, leaf_found, address_below}
use Rattle.fo_tree_look.proofs.ways.Ways.leaf.Goals as goal

pub returns-in_err-found-clause-over : goal.returns-in_err-found-clause-over
returns-in_err-found-clause-over g c = over_looks (g.met.B.Blocks.keeps_all c.args.on.now c.leaf.new.on c.leaf.ensures.keeps) c.leaf.ensures.looks c.requires.over

pub returns-in_err-found-clause-same : goal.returns-in_err-found-clause-same
returns-in_err-found-clause-same g c =
    let a = g.B.Blocks.state c.args.on.now in
    let b = g.B.Blocks.state c.leaf.new.on in
    let s = c.args.self.now in
    let all = g.met.B.Blocks.keeps_all c.args.on.now c.leaf.new.on c.leaf.ensures.keeps in
    same_leaves a b s.tree s.kept.items s.kept.items all c.leaf.ensures.looks (extends_none all s.kept.items c.requires.over.held) c.requires.over.held s.limit

pub returns-clause-at : goal.returns-clause-at
returns-clause-at g c = λ finds.
    let a = g.B.Blocks.state c.args.on.now in
    let b = g.B.Blocks.state c.leaf.new.on in
    let s = c.args.self.now in
    let inside : 8192 * c.args.i < s.tree.size = omega (arith, c.if-self-i.false) in
    c.in_ok-found.ensures.found (leaf_found a s.tree s.kept.items s.limit c.args.i c.requires.over.least inside finds) ∙ sym (address_below b s.tree c.args.i inside)

pub returns-clause-over : goal.returns-clause-over
returns-clause-over g c = over_looks (g.met.B.Blocks.keeps_all c.args.on.now c.leaf.new.on c.leaf.ensures.keeps) c.leaf.ensures.looks c.requires.over

pub returns-clause-same : goal.returns-clause-same
returns-clause-same g c =
    let a = g.B.Blocks.state c.args.on.now in
    let b = g.B.Blocks.state c.leaf.new.on in
    let s = c.args.self.now in
    let all = g.met.B.Blocks.keeps_all c.args.on.now c.leaf.new.on c.leaf.ensures.keeps in
    same_leaves a b s.tree s.kept.items s.kept.items all c.leaf.ensures.looks (extends_none all s.kept.items c.requires.over.held) c.requires.over.held s.limit
