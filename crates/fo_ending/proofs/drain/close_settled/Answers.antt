use Rattle.std.proofs.Common.{◌<◌, inl, inr, ⊎_elim, [], sym, ◌∙◌, subst}
use Rattle.fo_labels.specs.Region.{Region}
use Rattle.fo_mind.specs.MindParts.{parts}
use Rattle.fo_reserving.proofs.Calming.{always}
use Rattle.fo_opening.proofs.Finishing.{caused_later}
use Rattle.fo_ending.specs.Steps.{live_count}
use Rattle.fo_ending.proofs.Stepping.{steps_none, steps_on}
use Rattle.fo_ending.proofs.drain.close_settled.Goals as goal

pub returns-then-is_empty-clause-less : goal.returns-then-is_empty-clause-less
returns-then-is_empty-clause-less g c = inl (c.is_empty.ensures.none c.if-is_empty.true)

pub returns-then-is_empty-clause-steps : goal.returns-then-is_empty-clause-steps
returns-then-is_empty-clause-steps g c = let old = c.args.cache.now in steps_none (parts old.mind (g.D.Disk.state old.main).holds (g.D.Disk.faults old.main))

pub close_first-requires : goal.close_first-requires
close_first-requires g c = record { may = record { some = c.is_empty.ensures.some c.if-is_empty.false; quiet = c.requires.quiet; calm = c.requires.calm } }

pub returns-clause-less : goal.returns-clause-less
returns-clause-less g c = always c.settle_closed.result (⊎_elim
    (λ none. inl (c.settle_closed.ensures.queue ∙ none))
    (λ one. inr (subst (λ (r : Region). live_count r < live_count (parts c.args.cache.now.mind [] 0).region) (sym c.settle_closed.ensures.labels) (c.close_first.ensures.fewer one)))
    c.in_ok-close_first.ensures.over)

pub returns-clause-steps : goal.returns-clause-steps
returns-clause-steps g c = steps_on c.close_first.ensures.steps c.settle_closed.ensures.steps

pub returns-clause-cause : goal.returns-clause-cause
returns-clause-cause g c = caused_later _ _ _ c.settle_closed.result c.close_first.ensures.later c.settle_closed.ensures.cause
