use Rattle.fo_files_way.proofs.of_looks.Looks.{looks_joins}
use Rattle.fo_files_way.proofs.of_files_at.Ways.{way_stays}
use Rattle.fo_files_plan.proofs.Trails.{along_trail, refused_since}
use Rattle.fo_files_plan.proofs.along.plan_along.Goals as goal

pub returns-in-Ok-clause-trail : goal.returns-in-Ok-clause-trail
returns-in-Ok-clause-trail g c = along_trail (g.B.Blocks.state c.args.on.now) (g.B.Blocks.state c.add_steps.new.on) c.args.way.now c.add_steps.result c.add_steps.ensures.along

pub add_steps-requires-clause-way : goal.add_steps-requires-clause-way
add_steps-requires-clause-way g c =
    let way = c.requires.way in (
      way.0,
      (way.1.0, way_stays (g.B.Blocks.state c.args.on.now) (g.B.Blocks.state c.at_root.new.on) way.0 way.1.0 c.args.way.now (g.met.B.Blocks.keeps_all c.args.on.now c.at_root.new.on c.at_root.ensures.looks.1) way.1.1),
    )

pub returns-in-Ok-clause-looks : goal.returns-in-Ok-clause-looks
returns-in-Ok-clause-looks g c =
    let first = c.at_root.ensures.looks in (
      looks_joins (g.met.B.Blocks.keeps_all c.args.on.now c.at_root.new.on first.1) first.0 c.add_steps.ensures.looks.0,
      g.met.B.Blocks.keeps_joins c.args.on.now c.at_root.new.on c.add_steps.new.on first.1 c.add_steps.ensures.looks.1,
    )

pub returns-in-Ok-clause-cause : goal.returns-in-Ok-clause-cause
returns-in-Ok-clause-cause g c =
    let all = g.met.B.Blocks.keeps_all c.args.on.now c.at_root.new.on c.at_root.ensures.looks.1 in
    refused_since (g.B.Blocks.state c.args.on.now) (g.B.Blocks.state c.at_root.new.on) (g.B.Blocks.state c.add_steps.new.on) all c.add_steps.result c.add_steps.ensures.cause
