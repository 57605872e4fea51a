use Rattle.fo_talk.proofs.Entries.{asks_of}
use Rattle.fo_talk.proofs.Later.{not_fewer_then}
use Rattle.fo_talk.proofs.turns.ask.Goals as goal

pub returns-clause-asks : goal.returns-clause-asks
returns-clause-asks g c = asks_of _ _ _ _ _ _ _ _ c.now.result c.args.tag c.args.request c.answer.result c.clear_before.ensures.clears c.now.ensures c.answer.ensures.goes

pub returns-clause-later : goal.returns-clause-later
returns-clause-later g c = not_fewer_then _ _ _ c.clear_before.ensures.later c.answer.ensures.later
