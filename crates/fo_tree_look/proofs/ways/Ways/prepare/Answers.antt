use Rattle.fo_tree_look.proofs.Shown.{over_looks, over_extends, same_leaves}
use Rattle.fo_tree_look.proofs.ways.Ways.prepare.Goals as goal

pub returns-in_err-prepare_ways-clause-over : goal.returns-in_err-prepare_ways-clause-over
returns-in_err-prepare_ways-clause-over g c = over_extends (over_looks (g.met.B.Blocks.keeps_all c.args.on.now c.prepare_ways.new.on c.prepare_ways.ensures.keeps) c.prepare_ways.ensures.looks c.requires.over) c.prepare_ways.ensures.more

pub returns-in_err-prepare_ways-clause-leaves : goal.returns-in_err-prepare_ways-clause-leaves
returns-in_err-prepare_ways-clause-leaves g c =
    same_leaves (g.B.Blocks.state c.args.on.now) (g.B.Blocks.state c.prepare_ways.new.on) c.args.self.now.tree c.args.self.now.kept.items c.prepare_ways.new.kept.items
    (g.met.B.Blocks.keeps_all c.args.on.now c.prepare_ways.new.on c.prepare_ways.ensures.keeps) c.prepare_ways.ensures.looks c.prepare_ways.ensures.more c.requires.over.held c.args.self.now.limit

pub returns-clause-over : goal.returns-clause-over
returns-clause-over g c = over_extends (over_looks (g.met.B.Blocks.keeps_all c.args.on.now c.prepare_ways.new.on c.prepare_ways.ensures.keeps) c.prepare_ways.ensures.looks c.requires.over) c.prepare_ways.ensures.more

pub returns-clause-leaves : goal.returns-clause-leaves
returns-clause-leaves g c =
    same_leaves (g.B.Blocks.state c.args.on.now) (g.B.Blocks.state c.prepare_ways.new.on) c.args.self.now.tree c.args.self.now.kept.items c.prepare_ways.new.kept.items
    (g.met.B.Blocks.keeps_all c.args.on.now c.prepare_ways.new.on c.prepare_ways.ensures.keeps) c.prepare_ways.ensures.looks c.prepare_ways.ensures.more c.requires.over.held c.args.self.now.limit
