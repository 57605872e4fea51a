use Rattle.fo_mind.proofs.Getting.{nothing_brought}
use Rattle.fo_mind.proofs.Coming.{comes_at_once}
use Rattle.fo_mind.proofs.mind.Mind.pin_while_left.Goals as goal

pub returns-then-not-may_get-clause-brings : goal.returns-then-not-may_get-clause-brings
returns-then-not-may_get-clause-brings g c = nothing_brought _ c.args.at

pub returns-then-not-may_get-clause-comes : goal.returns-then-not-may_get-clause-comes
returns-then-not-may_get-clause-comes g c = comes_at_once (g.D.Disk.state c.args.main.now).holds c.args.at c.args.self.now.buffers
