use Rattle.std.proofs.Common.{[]}
use Rattle.fo_closing.specs.of_mind.MindParts.{parts}
use Rattle.fo_reserving.proofs.Calming.{quiet_let, rest_let, waits_let}
use Rattle.fo_reserving.proofs.Joining.{reserves_on}
use Rattle.fo_reserving.proofs.rest.settle_down.Goals as goal

pub returns-clause-quiet : goal.returns-clause-quiet
returns-clause-quiet g c = quiet_let (parts c.settle_whole.new.cache.mind [] 0) (parts c.unpin_all.new.cache.mind [] 0) c.unpin_all.ensures.lets c.in_ok-settle_whole.ensures.quiet

pub returns-clause-rest : goal.returns-clause-rest
returns-clause-rest g c =
    let e = c.in_ok-settle_whole.ensures in
    rest_let (parts c.settle_whole.new.cache.mind [] 0) (parts c.unpin_all.new.cache.mind [] 0) c.unpin_all.ensures.lets e.quiet e.calm.0 e.calm.2 c.unpin_all.ensures.none

pub returns-clause-no_wait : goal.returns-clause-no_wait
returns-clause-no_wait g c = waits_let (parts c.settle_whole.new.cache.mind [] 0) (parts c.unpin_all.new.cache.mind [] 0) c.unpin_all.ensures.lets c.in_ok-settle_whole.ensures.calm.1

pub returns-clause-leaves : goal.returns-clause-leaves
returns-clause-leaves g c = reserves_on c.settle_whole.ensures.leaves c.unpin_all.ensures.leaves
