use Rattle.std.proofs.Common.{◌≡◌, ◌*◌, ◌/◌, arith}
use Rattle.fo_waits.proofs.Ending.{ends_even}
use Rattle.fo_waits.proofs.pairs.end_first.Goals as goal

pub returns-clause-ends : goal.returns-clause-ends
returns-clause-ends c =
    let even = c.if-i-ne0.false in
    let i = c.args.i in
    let is : i ≡ 2 * (i / 2) = omega (arith, even) in
    ends_even c.args.on i c.args.waits.now.items c.drop_pair.new.waits.items is c.drop_pair.ensures.items
