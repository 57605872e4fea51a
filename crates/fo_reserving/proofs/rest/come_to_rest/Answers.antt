use Rattle.std.proofs.Common.{[]}
use Rattle.fo_closing.specs.of_mind.MindParts.{parts}
use Rattle.fo_reserving.proofs.Calming.{quiet_let, rest_let, waits_let}
use Rattle.fo_reserving.proofs.Ending.{held_newborn}
use Rattle.fo_reserving.proofs.Joining.{reserves_on}
use Rattle.fo_reserving.proofs.rest.come_to_rest.Goals as goal

pub returns-clause-quiet : goal.returns-clause-quiet
returns-clause-quiet g c = quiet_let (parts c.settle_down.new.cache.mind [] 0) (parts c.release_all.new.cache.mind [] 0) c.release_all.ensures.lets c.in_ok-settle_down.ensures.quiet

pub returns-clause-rest : goal.returns-clause-rest
returns-clause-rest g c =
    let e = c.in_ok-settle_down.ensures in
    let l = c.release_all.ensures.lets in
    rest_let (parts c.settle_down.new.cache.mind [] 0) (parts c.release_all.new.cache.mind [] 0) l e.quiet e.rest.none e.rest.sure (λ b h. e.rest.free b (l.pinned b h))

pub returns-clause-held : goal.returns-clause-held
returns-clause-held g c =
    let e = c.in_ok-settle_down.ensures in
    let l = c.release_all.ensures.lets in
    let p = parts c.settle_down.new.cache.mind [] 0 in
    let mind = c.release_all.new.cache.mind in
    let q = parts mind [] 0 in
    let rest = rest_let p q l e.quiet e.rest.none e.rest.sure (λ b h. e.rest.free b (l.pinned b h)) in
    held_newborn q mind.placed mind.holding mind.turning (quiet_let p q l e.quiet) rest.free (waits_let p q l e.no_wait) rest.none c.release_all.ensures.none

pub returns-clause-leaves : goal.returns-clause-leaves
returns-clause-leaves g c = reserves_on c.settle_down.ensures.leaves c.release_all.ensures.leaves
