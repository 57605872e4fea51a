use Rattle.std.proofs.Common.{[], sym, ap, ◌∙◌, subst}
use Rattle.fo_order.specs.Turns.{IsQuiet}
use Rattle.fo_closing.specs.of_mind.MindParts.{parts}
use Rattle.fo_closing.specs.of_mind.Parts.{Parts}
use Rattle.fo_settling.proofs.Clearing.{lasts_waited}
use Rattle.fo_reserving.proofs.Joining.{reserves_eased, reserves_on}
use Rattle.fo_reserving.proofs.rest.settle_whole.Goals as goal

pub returns-clause-leaves : goal.returns-clause-leaves
returns-clause-leaves g c = reserves_on c.settle_turned.ensures.leaves (reserves_eased c.waits_over.ensures.eases
    (let old = c.settle_turned.new.cache in
    let new = c.waits_over.new.self in
    lasts_waited (parts old.mind [] 0) (parts new.mind [] 0) (g.D.Disk.state old.main).holds (g.D.Disk.state new.main).holds (g.D.Disk.faults old.main) (g.D.Disk.faults new.main) (ap (λ m. (g.D.Disk.state m).holds) c.waits_over.ensures.device) c.waits_over.ensures.over))

pub returns-clause-quiet : goal.returns-clause-quiet
returns-clause-quiet g c = subst (λ (z : Parts). IsQuiet z.turns) (sym c.waits_over.ensures.over) c.in_ok-settle_turned.ensures.quiet

pub returns-clause-calm : goal.returns-clause-calm
returns-clause-calm g c =
    let over = c.waits_over.ensures.over in
    let e = c.in_ok-settle_turned.ensures.calm in
    (ap (λ (z : Parts). z.clears) over ∙ e.0, ap (λ (z : Parts). z.waits) over, ap (λ (z : Parts). z.doubt) over ∙ e.1)
