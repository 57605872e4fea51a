use Rattle.std.proofs.Common.{[], ap}
use Rattle.fo_mind.specs.MindParts.{parts}
use Rattle.fo_mind.specs.Parts.{Parts}
use Rattle.fo_ending.proofs.Joining.{on_ok}
use Rattle.fo_ending.proofs.Stepping.{calm_turned, steps_turned}
use Rattle.fo_ending.proofs.drain.settle_closed.Goals as goal

pub take_turns-requires : goal.take_turns-requires
take_turns-requires g c = record { free = c.requires.calm.rest.free }

pub returns-clause-calm : goal.returns-clause-calm
returns-clause-calm g c =
    let old = c.args.cache.now in
    let new = c.take_turns.new.cache in
    on_ok c.take_turns.result c.take_turns.ensures.quiet
    (λ quiet. calm_turned (g.D.Disk.state old.main) (g.D.Disk.state new.main) (parts old.mind [] 0) (parts new.mind [] 0) c.take_turns.ensures.settles quiet c.requires.calm)

pub returns-clause-queue : goal.returns-clause-queue
returns-clause-queue g c = ap (λ (z : Parts). z.removals) c.take_turns.ensures.settles.rest

pub returns-clause-labels : goal.returns-clause-labels
returns-clause-labels g c = ap (λ (z : Parts). z.region) c.take_turns.ensures.settles.rest

pub returns-clause-steps : goal.returns-clause-steps
returns-clause-steps g c =
    let old = c.args.cache.now in
    let new = c.take_turns.new.cache in
    steps_turned (g.D.Disk.state old.main) (g.D.Disk.state new.main) (g.D.Disk.faults old.main) (g.D.Disk.faults new.main) (parts old.mind [] 0) (parts new.mind [] 0) old.mind.turning c.take_turns.ensures.settles c.take_turns.ensures.later old.header
