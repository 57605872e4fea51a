use Rattle.fo_reserving.proofs.Joining.{reserves_on}
use Rattle.fo_reserving.proofs.Rooming.{caused_result}
use Rattle.fo_reserving.proofs.needs.make_whole.Goals as goal

pub returns-in-Err-Memory-clause-leaves : goal.returns-in-Err-Memory-clause-leaves
returns-in-Err-Memory-clause-leaves g c = reserves_on c.make_now.ensures.leaves c.make_again.ensures.leaves

pub returns-in-Err-Memory-clause-cause : goal.returns-in-Err-Memory-clause-cause
returns-in-Err-Memory-clause-cause g c = let a = c.make_now.ensures.later in caused_result _ _ _ _ c.make_again.result a c.make_again.ensures.cause
