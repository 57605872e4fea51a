use Rattle.fo_files_at.proofs.Ways.{end_holds, end_rank, end_number}
use Rattle.fo_files_at.proofs.laws.way_ends.Goals as goal

pub returns-clause-holds : goal.returns-clause-holds
returns-clause-holds g c = λ trail way. end_holds (g.B.Blocks.state c.args.on.now) 2120 c.args.way.now.steps.items c.args.way.now.file trail way.follows

pub returns-clause-rank : goal.returns-clause-rank
returns-clause-rank g c = λ trail way. end_rank (g.B.Blocks.state c.args.on.now) 2120 c.args.way.now.steps.items c.args.way.now.file trail way.follows

pub returns-clause-number : goal.returns-clause-number
returns-clause-number g c = λ trail way some. end_number (g.B.Blocks.state c.args.on.now) 2120 c.args.way.now.steps.items c.args.way.now.file trail way.follows some
