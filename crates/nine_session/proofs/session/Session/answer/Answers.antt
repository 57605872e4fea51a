use Rattle.nine_session.proofs.Trying.{serves_refusal, serves_reply}
use Rattle.nine_session.proofs.session.Session.answer.Goals as goal

pub returns-in-Ok-clause-serves : goal.returns-in-Ok-clause-serves
returns-in-Ok-clause-serves g c =
    rw c.put_users.ensures (serves_reply _ _ _ _ _ _ _ _ (rw c.take_users-known_users.ensures at c.in-Ok.ensures.tried))

pub returns-in-Err-clause-serves : goal.returns-in-Err-clause-serves
returns-in-Err-clause-serves g c =
    rw c.put_users.ensures (serves_refusal _ _ _ _ _ _ _ c.in-Err.refusal _ c.reply.ensures (rw c.take_users-known_users.ensures at c.in-Err.ensures.tried))
