use Rattle.std.proofs.Common.{◌≡◌, length, ap, arith}
use Rattle.nine_stat.specs.declared.stat.Stat.{Stat}
use Rattle.nine_stat.specs.Stat.{spelling}
use Rattle.nine_stat.specs.Cut.{records}
use Rattle.nine_stat.proofs.Cutting.{records_more, longest_here}
use Rattle.nine_stat.proofs.cut.fitting.Goals as goal

pub loop-taken-init : goal.loop-taken-init
unfolding records
loop-taken-init c = omega arith

pub returns-then-left-size : goal.returns-then-left-size
returns-then-left-size c =
    let stat = c.index-list-taken.result in
    let more = records_more c.args.list.now c.loop-taken.taken stat c.loop-taken-test.true in
    let same = ap (λ (s : Stat). length (spelling s)) c.index-list-taken.is in
    longest_here c.args.list.now c.args.count c.loop-taken.taken c.loop-taken-test.true (omega (arith, c.loop-taken.invariant)) (omega (arith, more, same, c.stat_len-size.ensures, c.if-left-size.true, c.loop-taken.invariant))

pub loop-taken-preserved : goal.loop-taken-preserved
loop-taken-preserved c =
    let stat = c.index-list-taken.result in
    let more = records_more c.args.list.now c.loop-taken.taken stat c.loop-taken-test.true in
    let same = ap (λ (s : Stat). length (spelling s)) c.index-list-taken.is in
    omega (arith, more, same, c.stat_len-size.ensures, c.if-left-size.false, c.loop-taken.invariant)
