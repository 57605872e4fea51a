use Rattle.fo_unlink.proofs.Going.{dropped-left}
use Rattle.fo_unlink.proofs.Working.{dropped_work}
use Rattle.fo_unlink.proofs.queue.Queue.drop_first.Goals as goal

pub returns-clause-work : goal.returns-clause-work
returns-clause-work c =
    let s = c.self.inside in
    rw (← c.self.view_is) (dropped_work s.removals.items c.pop_front.new.self.items s.asked s.way c.new-self-inside.result c.pop_front.ensures.rest c.new-self-inside.ensures (rw (← c.self.view_is) at c.requires))

pub returns-clause-left : goal.returns-clause-left
returns-clause-left c = λ tree r is.
    let s = c.self.inside in
    rw (← c.self.view_is) (dropped-left tree s.removals.items c.pop_front.new.self.items s.way c.new-self-inside.result r c.pop_front.ensures.rest c.new-self-inside.ensures (rw (← c.self.view_is) at is))
