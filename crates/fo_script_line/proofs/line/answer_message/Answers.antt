use Rattle.fo_script_line.proofs.Doing.{sends_of}
use Rattle.fo_script_line.proofs.line.answer_message.Goals as goal

pub returns-clause-sends : goal.returns-clause-sends
returns-clause-sends g c = sends_of _ _ _ _ c.ask-reply.result _ _ c.ask-reply.ensures.asks c.ask-reply.ensures.fits c.agree.ensures.moment (rw c.is_version-asked.ensures at c.agree.ensures.limits)
