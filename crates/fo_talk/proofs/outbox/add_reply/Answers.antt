use Rattle.fo_talk.proofs.Putting.{front_of_more}
use Rattle.fo_talk.proofs.outbox.add_reply.Goals as goal

pub returns-in_default-put_out-clause-adds : goal.returns-in_default-put_out-clause-adds
returns-in_default-put_out-clause-adds g c = front_of_more _ _ _ _ (rw c.in_default.ensures.err at c.in_default-put_out.ensures.puts.1)
