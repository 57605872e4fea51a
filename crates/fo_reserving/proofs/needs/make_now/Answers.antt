use Rattle.std.proofs.Common.{ap, arith}
use Rattle.fo_reserving.proofs.Joining.{reserves_on}
use Rattle.fo_reserving.proofs.Rooming.{caused_result}
use Rattle.fo_reserving.proofs.needs.make_now.Goals as goal

pub returns-in_default-make-clause-leaves : goal.returns-in_default-make-clause-leaves
returns-in_default-make-clause-leaves g c = reserves_on (reserves_on c.unpin_all.ensures.leaves c.settle_many.ensures.leaves) c.make.ensures.leaves

pub returns-then-made-clause-leaves : goal.returns-then-made-clause-leaves
returns-then-made-clause-leaves g c = reserves_on (reserves_on c.unpin_all.ensures.leaves c.settle_many.ensures.leaves) c.make.ensures.leaves

pub returns-clause-leaves : goal.returns-clause-leaves
returns-clause-leaves g c = reserves_on (reserves_on (reserves_on c.unpin_all.ensures.leaves c.settle_many.ensures.leaves) c.make.ensures.leaves) c.make_more.ensures.leaves

pub returns-in-Err-clause-leaves : goal.returns-in-Err-clause-leaves
returns-in-Err-clause-leaves g c = reserves_on c.unpin_all.ensures.leaves c.settle_many.ensures.leaves

pub returns-clause-cause : goal.returns-clause-cause
returns-clause-cause g c =
    let d = ap (λ m. g.D.Disk.faults m) c.unpin_all.ensures.device in
    let a = c.settle_many.ensures.later in
    let e = ap (λ m. g.D.Disk.faults m) c.make.ensures.device in
    caused_result _ _ _ _ c.make_more.result (omega (arith, d, a, e)) c.make_more.ensures.cause

pub returns-then-made-clause-few : goal.returns-then-made-clause-few
returns-then-made-clause-few g c = c.make.ensures.few_stay c.in_default.ensures.few

pub returns-then-made-clause-room : goal.returns-then-made-clause-room
returns-then-made-clause-room g c = c.in-Ok.ensures.made c.if-made.true
