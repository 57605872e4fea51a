use Rattle.test_closing.proofs.Resting.{rest_small}
use Rattle.test_closing.proofs.minds.small.Goals as goal

pub returns-clause-rest : goal.returns-clause-rest
returns-clause-rest c = rest_small c.new.result _ _ _ c.new.ensures
