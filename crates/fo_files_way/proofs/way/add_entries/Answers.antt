use Rattle.fo_files_way.proofs.Adding.{planned_with, more_with}
use Rattle.fo_files_way.proofs.way.add_entries.Goals as goal

pub returns-in-Some-clause-plan : goal.returns-in-Some-clause-plan
returns-in-Some-clause-plan g c = planned_with (g.B.Blocks.state c.args.on.now) (g.B.Blocks.state c.add.new.on) c.args.plan c.in-Some.wanted.is_dir c.add.result c.add.ensures.looks.0 c.requires.plan c.in-Some.ensures.is.kind c.add.ensures.may c.add.ensures.blocks c.add.ensures.adds

pub returns-in-Some-clause-more : goal.returns-in-Some-clause-more
returns-in-Some-clause-more g c = more_with (g.B.Blocks.state c.args.on.now) (g.B.Blocks.state c.add.new.on) c.args.plan c.in-Some.wanted.is_dir c.add.result c.requires.plan c.add.ensures.adds
