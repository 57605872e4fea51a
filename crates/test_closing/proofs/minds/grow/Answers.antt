use Rattle.std.proofs.Common.{◌∙◌, [], arith}
use Rattle.test_closing.proofs.Resting.{by_result, count_grown, rest_grown}
use Rattle.test_closing.proofs.minds.grow.Goals as goal

pub returns-clause-rest : goal.returns-clause-rest
returns-clause-rest c =
    by_result c.make_room.result (c.make_room.ensures.made (omega (arith))) c.make_room.ensures.err
    (λ r. rest_grown (r [] 0).grown c.requires.rest)
    (λ g. rest_grown (g [] 0) c.requires.rest)

pub returns-clause-count : goal.returns-clause-count
returns-clause-count c =
    by_result c.make_room.result (c.make_room.ensures.made (omega (arith))) c.make_room.ensures.err
    (λ r. count_grown (r [] 0).grown ∙ c.requires.count)
    (λ g. count_grown (g [] 0) ∙ c.requires.count)
