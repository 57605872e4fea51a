use Rattle.std.proofs.Common.{ap, arith}
use Rattle.fo_reserving.proofs.Joining.{reserves_on}
use Rattle.fo_reserving.proofs.Rooming.{caused_result}
use Rattle.fo_reserving.proofs.needs.make_rested.Goals as goal

pub returns-in-Err-clause-leaves : goal.returns-in-Err-clause-leaves
returns-in-Err-clause-leaves g c = reserves_on c.give_up_all.ensures.leaves c.come_to_rest.ensures.leaves

pub returns-clause-leaves : goal.returns-clause-leaves
returns-clause-leaves g c = reserves_on (reserves_on c.give_up_all.ensures.leaves c.come_to_rest.ensures.leaves) c.make_now.ensures.leaves

pub returns-clause-cause : goal.returns-clause-cause
returns-clause-cause g c =
    let d = ap (λ m. g.D.Disk.faults m) c.give_up_all.ensures.device in
    let a = c.come_to_rest.ensures.later in
    caused_result _ _ _ _ c.make_now.result (omega (arith, d, a)) c.make_now.ensures.cause
