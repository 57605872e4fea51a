use Rattle.fo_reserving.proofs.Joining.{reserves_on}
use Rattle.fo_reserving.proofs.Letting.{lets_on}
use Rattle.fo_reserving.proofs.pins.give_up_all.Goals as goal

pub returns-clause-all : goal.returns-clause-all
returns-clause-all g c = record { free = λ b h. c.unpin_all.ensures.none b (c.release_all.ensures.lets.pinned b h); none = c.release_all.ensures.none }

pub returns-clause-lets : goal.returns-clause-lets
returns-clause-lets g c = lets_on c.unpin_all.ensures.lets c.release_all.ensures.lets

pub returns-clause-leaves : goal.returns-clause-leaves
returns-clause-leaves g c = reserves_on c.unpin_all.ensures.leaves c.release_all.ensures.leaves
