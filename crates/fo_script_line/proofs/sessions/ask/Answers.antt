use Rattle.fo_script_line.proofs.Doing.{asks_of}
use Rattle.fo_script_line.proofs.sessions.ask.Goals as goal

pub returns-clause-asks : goal.returns-clause-asks
returns-clause-asks g c = asks_of _ _ _ c.args.request c.answer.result _ _ _ c.clear_before.ensures.clears c.answer.ensures.goes
