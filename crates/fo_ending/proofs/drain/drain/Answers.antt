use Rattle.std.proofs.Common.{◌<◌, length, List, sym, ap, ◌∙◌, subst, arith}
use Rattle.fo_unlink.specs.declared.removal.Removal.{Removal}
use Rattle.fo_reserving.proofs.Calming.{none_clears}
use Rattle.fo_opening.proofs.Finishing.{caused_later}
use Rattle.fo_ending.proofs.Stepping.{steps_on}
use Rattle.fo_ending.proofs.drain.drain.Goals as goal

pub close_all-requires : goal.close_all-requires
close_all-requires g c =
    let e = c.come_to_rest.ensures in
    record { may = record { some = subst (λ (rs : List Removal). 0 < length rs) (sym e.queue) c.requires.some; quiet = e.quiet; calm = e.calm } }

pub returns-clause-clears : goal.returns-clause-clears
returns-clause-clears g c = c.close_all.ensures.steps.clears ∙ c.come_to_rest.ensures.steps.clears ∙ none_clears c.args.cache.now.mind.clears.items c.requires.settled.none

pub returns-clause-steps : goal.returns-clause-steps
returns-clause-steps g c = steps_on c.come_to_rest.ensures.steps c.close_all.ensures.steps

pub returns-clause-cause : goal.returns-clause-cause
returns-clause-cause g c =
    let e = ap g.D.Disk.faults c.come_to_rest.ensures.device in
    caused_later _ _ _ c.close_all.result (omega (arith, e)) c.close_all.ensures.cause
