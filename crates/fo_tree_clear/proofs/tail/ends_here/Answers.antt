use Rattle.std.proofs.Common.{◌≡◌, ◌-◌, ◌/◌, subst, arith}
use Rattle.fo_tree_leaf.specs.of_tree_look.Source.{WayReady}
use Rattle.fo_tree_clear.proofs.tail.ends_here.Goals as goal

pub pointer_here-last-requires-clause-down : goal.pointer_here-last-requires-clause-down
pointer_here-last-requires-clause-down g c = (omega arith, c.requires.over.1.hangs.few)

pub pointer_here-last-requires-clause-ready : goal.pointer_here-last-requires-clause-ready
pointer_here-last-requires-clause-ready g c =
    let some = (c.ends_within.ensures.yes c.if-not-ends_within.false).1 in
    let same : (c.args.tree.now.size - 1) / 8192 ≡ c.args.tree.now.size / 8192 = omega (arith, some) in
    subst (λ k. WayReady (g.B.Blocks.state c.args.on.now) c.args.tree.now c.args.kept.now c.args.tree.now.depth k) same (c.requires.ready (omega (arith, some)))
