use Rattle.fo_ports_clients.proofs.Refusing.{once, raised, first, closed, tree, made, copies, cut}
use Rattle.fo_ports_clients.proofs.refused.puts_are_refused.Goals as goal

pub returns-clause-once : goal.returns-clause-once
returns-clause-once g c = λ told.
    let on = c.args.on.now in
    once (g.B.Blocks.state on) (λ b apart r. g.met.B.Blocks.apart_hangs on (g.B.Blocks.state on).now 1 b apart (g.met.B.Blocks.present on told) (g.met.B.Blocks.active on).0 r)

pub returns-clause-raised : goal.returns-clause-raised
returns-clause-raised g c = raised (g.B.Blocks.state c.args.on.now)

pub returns-clause-first : goal.returns-clause-first
returns-clause-first g c = first (g.B.Blocks.state c.args.on.now)

pub returns-clause-closed : goal.returns-clause-closed
returns-clause-closed g c = closed (g.B.Blocks.state c.args.on.now)

pub returns-clause-tree : goal.returns-clause-tree
returns-clause-tree g c = tree (g.B.Blocks.state c.args.on.now)

pub returns-clause-made : goal.returns-clause-made
returns-clause-made g c = made (g.B.Blocks.state c.args.on.now)

pub returns-clause-copies : goal.returns-clause-copies
returns-clause-copies g c = copies (g.B.Blocks.state c.args.on.now)

pub returns-clause-cut : goal.returns-clause-cut
returns-clause-cut g c = cut (g.B.Blocks.state c.args.on.now)
