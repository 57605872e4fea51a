use Rattle.std.proofs.Common.{[], ◌∙◌}
use Rattle.fo_mind.specs.MindParts.{parts}
use Rattle.fo_cache.specs.Supers.{IsFault}
use Rattle.fo_reserving.proofs.Joining.{closes_on}
use Rattle.fo_ending.proofs.Draining.{same_on}
use Rattle.fo_ending.proofs.Joining.{caused_first, closes_finished, failed_first, finished_of, on_both, on_second, still_empty}
use Rattle.fo_ending.proofs.ending.close_and_finish.Goals as goal

pub returns-clause-drained : goal.returns-clause-drained
returns-clause-drained g c =
    let mid = c.drain-closed.new.cache in
    let new = c.finish-ended.new.cache in
    let d = c.drain-closed.ensures in
    let e = c.finish-ended.ensures in
    rw c.first_failure.ensures
    (on_both c.drain-closed.result c.finish-ended.result d.empty e.quiet (λ empty quiet. record {
      closed = parts mid.mind (g.D.Disk.state mid.main).holds (g.D.Disk.faults mid.main);
      closes = d.steps.leaves;
      ends = e.ends;
      empty = still_empty (parts mid.mind (g.D.Disk.state mid.main).holds (g.D.Disk.faults mid.main)) (parts new.mind (g.D.Disk.state new.main).holds (g.D.Disk.faults new.main)) e.ends.rests empty d.clears;
    }))

pub returns-clause-finished : goal.returns-clause-finished
returns-clause-finished g c =
    let mid = c.drain-closed.new.cache in
    let new = c.finish-ended.new.cache in
    rw c.first_failure.ensures
    (on_second c.drain-closed.result c.finish-ended.result c.finish-ended.ensures.finished (λ f. finished_of mid.mind.one c.args.cache.now.mind.one (g.D.Disk.state new.main) (parts new.mind [] 0) c.drain-closed.ensures.steps.one f))

pub returns-clause-quiet : goal.returns-clause-quiet
returns-clause-quiet g c = rw c.first_failure.ensures (on_second c.drain-closed.result c.finish-ended.result c.finish-ended.ensures.quiet (λ q. q))

pub returns-clause-closes : goal.returns-clause-closes
returns-clause-closes g c =
    let mid = c.drain-closed.new.cache in
    let new = c.finish-ended.new.cache in
    closes_on c.drain-closed.ensures.steps.leaves.closes
    (closes_finished (parts mid.mind (g.D.Disk.state mid.main).holds (g.D.Disk.faults mid.main)) (parts new.mind (g.D.Disk.state new.main).holds (g.D.Disk.faults new.main)) c.finish-ended.ensures.ends c.finish-ended.ensures.clears)

pub returns-clause-bytes : goal.returns-clause-bytes
returns-clause-bytes g c =
    let old = c.args.cache.now in
    let mid = c.drain-closed.new.cache in
    let new = c.finish-ended.new.cache in
    let d = c.drain-closed.ensures in
    same_on (parts old.mind (g.D.Disk.state old.main).holds (g.D.Disk.faults old.main)) (parts mid.mind (g.D.Disk.state mid.main).holds (g.D.Disk.faults mid.main)) (parts new.mind (g.D.Disk.state new.main).holds (g.D.Disk.faults new.main)) d.steps.leaves.keeps.first
    d.steps.count d.steps.bytes (c.finish-ended.ensures.bytes d.clears)

pub returns-clause-header : goal.returns-clause-header
returns-clause-header g c = c.finish-ended.ensures.header ∙ c.drain-closed.ensures.steps.header

pub returns-clause-count : goal.returns-clause-count
returns-clause-count g c = c.finish-ended.ensures.count ∙ c.drain-closed.ensures.steps.count

pub returns-clause-cause : goal.returns-clause-cause
returns-clause-cause g c =
    let d = c.drain-closed.ensures in
    let e = c.finish-ended.ensures in
    rw c.first_failure.ensures (caused_first _ _ _ c.drain-closed.result c.finish-ended.result d.later e.later d.cause e.cause)

pub returns-clause-failed : goal.returns-clause-failed
returns-clause-failed g c = rw c.first_failure.ensures (failed_first IsFault c.drain-closed.result c.finish-ended.result c.drain-closed.ensures.failed c.finish-ended.ensures.failed)
