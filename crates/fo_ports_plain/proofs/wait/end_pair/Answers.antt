use Rattle.std.proofs.Common.{◌<◌, length, refl, arith}
use Rattle.fo_ports_plain.proofs.Waits.{none_ended, one_ended, ended_by, wait_is, all_ended}
use Rattle.fo_ports_plain.proofs.wait.end_pair.Goals as goal

pub loop-n-init : goal.loop-n-init
loop-n-init c = (none_ended c.args.on c.args.pair c.args.waits.now.items, refl, refl)

pub loop-n-preserved : goal.loop-n-preserved
loop-n-preserved c =
    let so = c.loop-n.invariant.0 in
    let ok = c.loop-n.waits.ok in
    let lens = c.loop-n.invariant.1 in
    let test = c.loop-n-test.true in
    let end = c.len-n-end.ensures in
    let lt : c.loop-n.n < length c.loop-n.waits.items = omega (arith, ok, lens, test, end) in
    (one_ended so lt (wait_is c.loop-n.waits.items c.loop-n.n c.index.result.now lt c.index.ensures) (ended_by c.args.on c.args.pair c.index.result.now c.ended.result c.ended.ensures.here c.ended.ensures.other), c.loop-n.invariant.1, c.loop-n.invariant.2)

pub returns-clause-ends : goal.returns-clause-ends
returns-clause-ends c =
    let ok = c.args.waits.now.ok in
    let test = c.loop-n-test.false in
    let end = c.len-n-end.ensures in
    all_ended c.loop-n.invariant.0 (omega (arith, ok, test, end))
