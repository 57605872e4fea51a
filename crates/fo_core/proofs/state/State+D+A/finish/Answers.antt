use Rattle.fo_ending.specs.of_mind.MindParts.{parts}
use Rattle.fo_core.proofs.Ending.{gives, over}
use Rattle.fo_core.proofs.state.State+D+A.finish.Goals as goal

pub returns-clause-gives : goal.returns-clause-gives
returns-clause-gives g c =
    let e = c.end.ensures in
    let cache = c.end.new.cache in
    let main = g.D.Disk.state cache.main in
    let faults = g.D.Disk.faults cache.main in
    let last = parts cache.mind main.holds faults in
    rw (c.failure-failed.ensures, c.close-main.ensures.main, c.close-main.ensures.arena)
    (rw (← c.into_blocks-devices.ensures)
    (gives _ main last c.end.result e.ended e.closes e.bytes _ faults e.finished e.quiet e.cause e.failed (over cache.mind main.holds faults) e.size e.count e.header e.later))

pub returns-clause-calls : goal.returns-clause-calls
returns-clause-calls g c = rw c.close-main.ensures.main (rw (← c.into_blocks-devices.ensures) c.end.ensures.calls)
