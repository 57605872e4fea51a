use Rattle.fo_files_plan.proofs.Trails.{along_with}
use Rattle.fo_files_plan.proofs.along.add_step.Goals as goal

pub returns-clause-along : goal.returns-clause-along
returns-clause-along g c = along_with (g.B.Blocks.state c.args.on.now) (g.B.Blocks.state c.add_entries.new.on) c.args.step.now c.args.next.now c.args.plan c.add_entries.result c.add_entries.ensures.plan c.add_entries.ensures.more c.add_entries.ensures.level c.add_entries.ensures.most
