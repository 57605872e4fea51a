use Rattle.fo_files_way.proofs.Prepared.{leaf_ready, top_prepared}
use Rattle.fo_files_way.proofs.laws.prepared_blocks.Goals as goal

pub returns-clause-top : goal.returns-clause-top
returns-clause-top g c = λ b is. let w = c.args.source.now.ways in top_prepared (g.B.Blocks.state c.args.on.now) w.tree w.kept.items w.limit c.args.i b c.requires.over c.requires.prepared is

pub returns-clause-leaf : goal.returns-clause-leaf
returns-clause-leaf g c = λ b is. let w = c.args.source.now.ways in leaf_ready (g.B.Blocks.state c.args.on.now) w.tree w.kept.items w.limit c.args.i b c.requires.prepared is
