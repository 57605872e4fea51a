use Rattle.fo_talk.proofs.Later.{not_fewer_then}
use Rattle.fo_service.proofs.Flushing.{rests_of}
use Rattle.fo_service.proofs.turns.rest_through.Goals as goal

pub returns-clause-rests : goal.returns-clause-rests
returns-clause-rests g c = rests_of _ _ _ _ _ c.flush_some.ensures.flushes c.unlink.ensures.goes

pub returns-clause-later : goal.returns-clause-later
returns-clause-later g c = not_fewer_then _ _ _ c.flush_some.ensures.later c.unlink.ensures.later
