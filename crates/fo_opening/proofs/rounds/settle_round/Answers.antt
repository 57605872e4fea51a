use Rattle.std.proofs.Common.{length, sym, ap, subst, arith}
use Rattle.fo_mind.specs.Parts.{Parts}
use Rattle.fo_reserving.proofs.of_settling.Clearing.{clearings_of, clearings_on}
use Rattle.fo_reserving.proofs.of_settling.Waiting.{none_waits}
use Rattle.fo_opening.specs.Finished.{Settled}
use Rattle.fo_opening.proofs.Stepping.{ending_on}
use Rattle.fo_opening.proofs.rounds.settle_round.Goals as goal

pub returns-in_err-settle_sure-clause-clears : goal.returns-in_err-settle_sure-clause-clears
returns-in_err-settle_sure-clause-clears g c = clearings_of c.settle_sure.ensures.lasts

pub returns-then-clear_next-clause-settled : goal.returns-then-clear_next-clause-settled
returns-then-clear_next-clause-settled g c = λ _.
    let mind = c.settle_sure.new.cache.mind in
    let e = c.in_ok-settle_sure.ensures in
    let over = c.if-clear_next.true in
    subst (λ (z : Parts). Settled z) (sym (c.clear_next.ensures.same over)) (record { quiet = e.quiet; none = none_waits mind.order mind.clears.items e.quiet (c.clear_next.ensures.none over); certain = e.certain })

pub returns-then-clear_next-clause-clears : goal.returns-then-clear_next-clause-clears
returns-then-clear_next-clause-clears g c = clearings_on (clearings_of c.settle_sure.ensures.lasts) c.clear_next.ensures.clears

pub returns-then-clear_next-clause-ending : goal.returns-then-clear_next-clause-ending
returns-then-clear_next-clause-ending g c = ending_on c.settle_sure.ensures.ending c.clear_next.ensures.ending

pub returns-then-clear_next-clause-calls : goal.returns-then-clear_next-clause-calls
returns-then-clear_next-clause-calls g c =
    let x = c.settle_sure.ensures.calls in
    let same = ap g.D.Disk.calls c.clear_next.ensures.device in
    omega (arith, x, same)

pub returns-then-clear_next-clause-spent : goal.returns-then-clear_next-clause-spent
returns-then-clear_next-clause-spent g c =
    let x = c.in_ok-settle_sure.ensures.spent in
    let y = c.clear_next.ensures.left in
    let same = ap g.D.Disk.calls c.clear_next.ensures.device in
    omega (arith, x, y, same)

pub returns-clause-less : goal.returns-clause-less
returns-clause-less g c = λ _.
    let was = ap length c.settle_sure.ensures.clears in
    let lt = c.clear_next.ensures.less c.if-clear_next.false in
    let le = c.clear_all.ensures.fewer in
    omega (arith, was, lt, le)

pub returns-clause-clears : goal.returns-clause-clears
returns-clause-clears g c = clearings_on (clearings_on (clearings_of c.settle_sure.ensures.lasts) c.clear_next.ensures.clears) c.clear_all.ensures.clears

pub returns-clause-ending : goal.returns-clause-ending
returns-clause-ending g c = ending_on (ending_on c.settle_sure.ensures.ending c.clear_next.ensures.ending) c.clear_all.ensures.ending

pub returns-clause-calls : goal.returns-clause-calls
returns-clause-calls g c =
    let x = c.settle_sure.ensures.calls in
    let next = ap g.D.Disk.calls c.clear_next.ensures.device in
    let same = ap g.D.Disk.calls c.clear_all.ensures.device in
    omega (arith, x, next, same)

pub returns-clause-spent : goal.returns-clause-spent
returns-clause-spent g c =
    let x = c.in_ok-settle_sure.ensures.spent in
    let y = c.clear_next.ensures.left in
    let z = c.clear_all.ensures.left in
    let next = ap g.D.Disk.calls c.clear_next.ensures.device in
    let same = ap g.D.Disk.calls c.clear_all.ensures.device in
    omega (arith, x, y, z, next, same)
