use Rattle.std.proofs.Common.{◌≡◌, [], refl, arith}
use Rattle.fo_base.specs.Cause.{Rose}
use Rattle.fo_mind.specs.MindParts.{parts}
use Rattle.fo_ending.proofs.Draining.{none_left}
use Rattle.fo_ending.proofs.Stepping.{calm_closed, left_caused, left_failed, left_over, live_left, steps_closed}
use Rattle.fo_ending.proofs.drain.close_on.Goals as goal

pub close_queued-closed-requires : goal.close_queued-closed-requires
close_queued-closed-requires g c = let may = c.requires.may in record { some = may.some; quiet = may.quiet; rest = may.calm.rest; held = may.calm.held }

pub returns-clause-over : goal.returns-clause-over
returns-clause-over g c =
    let mind = c.close_queued-closed.new.cache.mind in
    rw c.left_of.ensures (left_over ((parts mind [] 0).removals ≡ []) c.close_queued-closed.result (none_left c.close_queued-closed.result (parts mind [] 0) mind.queue mind.placed refl c.close_queued-closed.ensures.over))

pub returns-clause-calm : goal.returns-clause-calm
returns-clause-calm g c =
    let old = c.args.cache.now in
    let new = c.close_queued-closed.new.cache in
    calm_closed (parts old.mind [] 0) (parts new.mind [] 0) (g.D.Disk.state old.main).holds (g.D.Disk.state new.main).holds (g.D.Disk.faults old.main) (g.D.Disk.faults new.main) c.close_queued-closed.ensures.shuts c.requires.may.calm.held c.close_queued-closed.ensures.rest

pub returns-clause-fewer : goal.returns-clause-fewer
returns-clause-fewer g c =
    let old = c.args.cache.now in
    let new = c.close_queued-closed.new.cache in
    let first = c.close_queued-closed.ensures.leaves.keeps.first in
    let count = c.close_queued-closed.ensures.leaves.keeps.count in
    live_left (parts old.mind [] 0) (parts new.mind [] 0) (g.D.Disk.state old.main).holds (g.D.Disk.state new.main).holds (g.D.Disk.faults old.main) (g.D.Disk.faults new.main) c.close_queued-closed.ensures.shuts (omega (arith, first, count))

pub returns-clause-steps : goal.returns-clause-steps
returns-clause-steps g c =
    let old = c.args.cache.now in
    let new = c.close_queued-closed.new.cache in
    let e = c.close_queued-closed.ensures in
    steps_closed (parts old.mind [] 0) (parts new.mind [] 0) (g.D.Disk.state old.main) (g.D.Disk.state new.main) e.state (g.D.Disk.faults old.main) (g.D.Disk.faults new.main) e.shuts c.requires.may.calm.held new.mind.standing old.fits new.fits e.leaves

pub returns-clause-cause : goal.returns-clause-cause
returns-clause-cause g c = rw c.left_of.ensures (left_caused (Rose (g.D.Disk.faults c.args.cache.now.main) (g.D.Disk.faults c.close_queued-closed.new.cache.main)) c.close_queued-closed.result c.close_queued-closed.ensures.cause)

pub returns-clause-failed : goal.returns-clause-failed
returns-clause-failed g c = rw c.left_of.ensures (left_failed (Rose (g.D.Disk.faults c.args.cache.now.main) (g.D.Disk.faults c.close_queued-closed.new.cache.main)) c.close_queued-closed.result c.close_queued-closed.ensures.cause)
