use Rattle.fo_dir_pairs.proofs.Settled.{settled_stand}
use Rattle.fo_dir_pairs.proofs.laws.settled_pairs.Goals as goal

pub returns-clause-all : goal.returns-clause-all
returns-clause-all g c = λ all paired. settled_stand (g.B.Blocks.state c.args.on.now) all paired

pub returns-clause-memory : goal.returns-clause-memory
returns-clause-memory g c = λ tells stand. stand.each (g.B.Blocks.state c.args.on.now).now (g.met.B.Blocks.present c.args.on.now tells)
