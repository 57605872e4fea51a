use Rattle.std.proofs.Common.{sym, ap, ◌∙◌}
use Rattle.std.specs.Result.{IfErr}
use Rattle.fo_mind.proofs.Results.{both}
use Rattle.fo_opening.specs.Refuses.{Refuses}
use Rattle.fo_opening.proofs.opening.learn.Goals as goal

pub returns-clause-refuses : goal.returns-clause-refuses
returns-clause-refuses g c = both
    (λ n h. IfErr c.begin.result (Refuses n h))
    (c.begin.ensures.size ∙ c.read_first.ensures.size ∙ c.look_at_header.ensures.size ∙ c.in-Ok.ensures.found.0)
    (sym (ap (λ s. s.holds) (c.read_first.ensures.state ∙ c.look_at_header.ensures.state ∙ c.count.ensures.state)))
    c.begin.ensures.refuses
