use Rattle.std.proofs.Common.{arith}
use Rattle.fo_unlink.proofs.Working.{pushed}
use Rattle.fo_unlink.proofs.queue.Queue.push.Goals as goal

pub returns-clause-work : goal.returns-clause-work
returns-clause-work c =
    let s = c.self.inside in
    let ok = s.removals.ok in
    let more = pushed s.removals.items s.asked s.way c.args.r (λ some. omega (arith, ok, c.self.invariant.begun some)) in
    rw (← c.self.view_is) (cc more)
