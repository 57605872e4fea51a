use Rattle.std.proofs.Common.{◌+◌, ◌≤◌, length, arith}
use Rattle.std.proofs.lemmas.List.{take_rest}
use Rattle.fo_links.proofs.Known.{appends_more}
use Rattle.fo_links.proofs.system.write_whole.Goals as goal

pub loop-at-preserved : goal.loop-at-preserved
loop-at-preserved g c =
    let within : c.loop-at.at + c.in_ok-at.field-0 ≤ length c.args.bytes.now = omega (arith, c.in_ok-at.ensures.bound) in
    (within, appends_more _ _ _ c.args.bytes.now c.loop-at.at c.in_ok-at.field-0 within c.loop-at.invariant.1 (rw take_rest at c.in_ok-at.ensures.writes))
