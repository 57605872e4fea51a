use Rattle.std.proofs.Common.{◌≡◌}
use Rattle.fo_talk.proofs.Entries.{answered_of, answered_early}
use Rattle.fo_talk.proofs.Later.{not_fewer_then}
use Rattle.fo_talk.specs.Answering.{is_version, next_limit}
use Rattle.fo_talk.proofs.service.answer_one.Goals as goal

pub returns-in-Ok-clause-answered : goal.returns-in-Ok-clause-answered
returns-in-Ok-clause-answered g c =
    let next : c.next_limit.result ≡ next_limit c.args.limit (is_version c.args.request) c.ask-reply.result = rw (← c.is_version-asked.ensures) c.next_limit.ensures in
    answered_of g.M.Machine.goes c.args.limit c.args.tag _ c.args.request c.ask-reply.result _ _ _ _ _ _ c.may_wait-waits.result _ _ _ _ c.ask-reply.ensures.asks c.may_wait-waits.ensures c.in-Ok.ensures.adds next c.rest.ensures.goes

pub returns-clause-answered : goal.returns-clause-answered
returns-clause-answered g c = answered_early g.M.Machine.goes c.args.limit c.args.tag c.args.request c.ask-reply.result _ _ _ _ _ _ _ c.ask-reply.ensures.asks c.in-Err.ensures.adds

pub returns-in-Ok-clause-later : goal.returns-in-Ok-clause-later
returns-in-Ok-clause-later g c = not_fewer_then _ _ _ c.ask-reply.ensures.later c.rest.ensures.later
