use Rattle.std.proofs.Common.{◌+◌, ⊎_elim, arith}
use Rattle.fo_tree_down.proofs.Sparing.{but_whole, but_more}
use Rattle.fo_tree_down.proofs.way.own_way.Goals as goal

pub own_near-requires-clause-spare : goal.own_near-requires-clause-spare
own_near-requires-clause-spare g c =
    let s = g.B.Blocks.state c.args.on.now in
    let t = c.args.tree.now in
    ⊎_elim
    (λ top. (c.args.down, but_whole s t c.args.down c.args.k top.0, top.1))
    (λ some. (c.args.down + 1, but_more s t c.args.down c.args.k, omega (arith, some)))
    c.requires.spare
