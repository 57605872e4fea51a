use Rattle.fo_dir_names.proofs.Settled.{settled, present}
use Rattle.fo_dir_names.proofs.laws.settled_once.Goals as goal

pub returns-clause-all : goal.returns-clause-all
returns-clause-all g c = λ all once. settled (g.B.Blocks.state c.args.on.now) all once

pub returns-clause-memory : goal.returns-clause-memory
returns-clause-memory g c = λ tells once. present (g.B.Blocks.state c.args.on.now) (g.met.B.Blocks.present c.args.on.now tells) once
