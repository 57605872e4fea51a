use Rattle.fo_talk.proofs.Going.{ends_of}
use Rattle.fo_talk.proofs.Later.{not_fewer_then}
use Rattle.fo_talk.proofs.service.serve.Goals as goal

pub returns-clause-talk : goal.returns-clause-talk
returns-clause-talk g c = ends_of _ _ _ _ _ _ _ _ _ c.converse-end.ensures.talk c.let_all_go.ensures.gone

pub returns-clause-later : goal.returns-clause-later
returns-clause-later g c = not_fewer_then _ _ _ c.converse-end.ensures.later c.let_all_go.ensures.later
