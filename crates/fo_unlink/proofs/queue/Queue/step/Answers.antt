use Rattle.fo_unlink.proofs.Going.{empty-exactly, waits-exactly}
use Rattle.fo_unlink.proofs.queue.Queue.step.Goals as goal

pub returns-clause-empty : goal.returns-clause-empty
returns-clause-empty c = empty-exactly _ _ _ _ _ c.advance.ensures.answer

pub returns-clause-waits : goal.returns-clause-waits
returns-clause-waits c = waits-exactly _ _ _ _ _ c.advance.ensures.answer
