use Rattle.std.proofs.Common.{◌<◌, [], length, sym, ◌∙◌, arith}
use Rattle.fo_mind.specs.MindParts.{parts}
use Rattle.fo_reserving.proofs.Calming.{none_left}
use Rattle.fo_reserving.proofs.Joining.{closes_on}
use Rattle.fo_opening.proofs.Finishing.{caused_later}
use Rattle.fo_ending.proofs.Draining.{same_on}
use Rattle.fo_ending.proofs.Joining.{closes_finished, ended_drained, ended_once, finished_again, on_ok}
use Rattle.fo_ending.proofs.ending.end.Goals as goal

pub returns-then-queued-eq0-clause-ended : goal.returns-then-queued-eq0-clause-ended
returns-then-queued-eq0-clause-ended g c =
    let old = c.args.cache.now in
    let new = c.finish.new.cache in
    ended_once (parts old.mind (g.D.Disk.state old.main).holds (g.D.Disk.faults old.main)) (parts new.mind (g.D.Disk.state new.main).holds (g.D.Disk.faults new.main)) c.finish.ensures.ends
    (none_left new.mind.queue.removals (sym c.queued.ensures ∙ c.if-queued-eq0.true))

pub returns-clause-ended : goal.returns-clause-ended
returns-clause-ended g c =
    let old = c.args.cache.now in
    let mid = c.finish.new.cache in
    let new = c.close_and_finish.new.cache in
    let e = c.queued.ensures in
    let n = c.if-queued-eq0.false in
    let some : 0 < length mid.mind.queue.removals = omega (arith, e, n) in
    on_ok c.close_and_finish.result c.close_and_finish.ensures.drained
    (λ d. ended_drained (parts old.mind (g.D.Disk.state old.main).holds (g.D.Disk.faults old.main)) (parts mid.mind (g.D.Disk.state mid.main).holds (g.D.Disk.faults mid.main)) (parts new.mind (g.D.Disk.state new.main).holds (g.D.Disk.faults new.main)) c.finish.ensures.ends some d)

pub returns-clause-finished : goal.returns-clause-finished
returns-clause-finished g c =
    let mid = c.finish.new.cache in
    let new = c.close_and_finish.new.cache in
    on_ok c.close_and_finish.result c.close_and_finish.ensures.finished (λ f. finished_again c.args.cache.now.mind.one (parts mid.mind [] 0) (parts new.mind [] 0) (g.D.Disk.state new.main) c.in_ok-finish.ensures.finished.says f)

pub returns-in_err-finish-clause-closes : goal.returns-in_err-finish-clause-closes
returns-in_err-finish-clause-closes g c =
    let old = c.args.cache.now in
    let mid = c.finish.new.cache in
    closes_finished (parts old.mind (g.D.Disk.state old.main).holds (g.D.Disk.faults old.main)) (parts mid.mind (g.D.Disk.state mid.main).holds (g.D.Disk.faults mid.main)) c.finish.ensures.ends c.finish.ensures.clears

pub returns-then-queued-eq0-clause-closes : goal.returns-then-queued-eq0-clause-closes
returns-then-queued-eq0-clause-closes g c =
    let old = c.args.cache.now in
    let mid = c.finish.new.cache in
    closes_finished (parts old.mind (g.D.Disk.state old.main).holds (g.D.Disk.faults old.main)) (parts mid.mind (g.D.Disk.state mid.main).holds (g.D.Disk.faults mid.main)) c.finish.ensures.ends c.finish.ensures.clears

pub returns-clause-closes : goal.returns-clause-closes
returns-clause-closes g c =
    let old = c.args.cache.now in
    let mid = c.finish.new.cache in
    closes_on (closes_finished (parts old.mind (g.D.Disk.state old.main).holds (g.D.Disk.faults old.main)) (parts mid.mind (g.D.Disk.state mid.main).holds (g.D.Disk.faults mid.main)) c.finish.ensures.ends c.finish.ensures.clears) c.close_and_finish.ensures.closes

pub returns-clause-bytes : goal.returns-clause-bytes
returns-clause-bytes g c = λ none.
    let old = c.args.cache.now in
    let mid = c.finish.new.cache in
    let new = c.close_and_finish.new.cache in
    let e = c.finish.ensures in
    same_on (parts old.mind (g.D.Disk.state old.main).holds (g.D.Disk.faults old.main)) (parts mid.mind (g.D.Disk.state mid.main).holds (g.D.Disk.faults mid.main)) (parts new.mind (g.D.Disk.state new.main).holds (g.D.Disk.faults new.main)) e.ends.keeps.first e.count
    (e.bytes none) c.close_and_finish.ensures.bytes

pub returns-clause-header : goal.returns-clause-header
returns-clause-header g c = c.close_and_finish.ensures.header ∙ c.finish.ensures.header

pub returns-clause-count : goal.returns-clause-count
returns-clause-count g c = c.close_and_finish.ensures.count ∙ c.finish.ensures.count

pub returns-clause-calls : goal.returns-clause-calls
returns-clause-calls g c = λ none.
    let e = c.queued.ensures in
    let n = c.if-queued-eq0.false in
    let some : 0 < length c.finish.new.cache.mind.queue.removals = omega (arith, e, n) in
    absurd (none (c.finish.ensures.ends.rests.queues some))

pub returns-clause-cause : goal.returns-clause-cause
returns-clause-cause g c =
    caused_later _ _ _ c.close_and_finish.result c.finish.ensures.later c.close_and_finish.ensures.cause
