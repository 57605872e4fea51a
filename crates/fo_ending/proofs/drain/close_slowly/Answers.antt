use Rattle.std.proofs.Common.{◌<◌, inl, inr, ⊎_elim, [], subst}
use Rattle.fo_labels.specs.Region.{Region}
use Rattle.fo_mind.specs.MindParts.{parts}
use Rattle.fo_opening.proofs.Finishing.{caused_later}
use Rattle.fo_ending.specs.Steps.{live_count}
use Rattle.fo_ending.proofs.Joining.{on_ok}
use Rattle.fo_ending.proofs.Stepping.{steps_on}
use Rattle.fo_ending.proofs.drain.close_slowly.Goals as goal

pub returns-clause-less : goal.returns-clause-less
returns-clause-less g c = on_ok c.close_settled.result c.close_settled.ensures.less (λ x. ⊎_elim
    (λ none. inl none)
    (λ lt. inr (subst (λ (r : Region). live_count (parts c.close_settled.new.cache.mind [] 0).region < live_count r) c.settle_closed.ensures.labels lt))
    x)

pub returns-clause-steps : goal.returns-clause-steps
returns-clause-steps g c = steps_on c.settle_closed.ensures.steps c.close_settled.ensures.steps

pub returns-clause-cause : goal.returns-clause-cause
returns-clause-cause g c = caused_later _ _ _ c.close_settled.result c.settle_closed.ensures.later c.close_settled.ensures.cause
