use Rattle.std.proofs.Common.{inr, ◌<◌, List, length, sym, ◌∙◌, subst}
use Rattle.fo_waits.specs.declared.listed.Clearing.{Clearing}
use Rattle.fo_closing.specs.of_mind.MindParts.{parts}
use Rattle.fo_closing.proofs.of_mind.Results.{on_ok}
use Rattle.fo_reserving.proofs.Calming.{none_clears, some_slot}
use Rattle.fo_reserving.proofs.Joining.{reserves_none, reserves_of}
use Rattle.fo_reserving.proofs.rest.settle_slots.Goals as goal

pub returns-then-are_none-clause-leaves : goal.returns-then-are_none-clause-leaves
returns-then-are_none-clause-leaves g c = reserves_none (parts c.args.cache.now.mind (g.D.Disk.state c.args.cache.now.main).holds (g.D.Disk.faults c.args.cache.now.main))

pub returns-clause-clears : goal.returns-clause-clears
returns-clause-clears g c = on_ok c.settle.result (none_clears c.settle.new.cache.mind.clears.items) c.settle.ensures.none

pub returns-clause-leaves : goal.returns-clause-leaves
returns-clause-leaves g c =
    let old = c.args.cache.now in
    let new = c.settle.new.cache in
    let e = c.settle.ensures in
    reserves_of (parts old.mind (g.D.Disk.state old.main).holds (g.D.Disk.faults old.main)) (parts new.mind (g.D.Disk.state new.main).holds (g.D.Disk.faults new.main)) e.rests e.keeps (λ x. (e.blocks x).0)
    (inr (e.queued, some_slot old.mind.clears.items (subst (λ (cs : List Clearing). 0 < length cs) c.deref.ensures.value (c.are_none.ensures.some c.if-are_none.false))))
    e.clears

pub returns-then-are_none-clause-clears : goal.returns-then-are_none-clause-clears
returns-then-are_none-clause-clears g c = sym c.deref.ensures.value ∙ c.are_none.ensures.none c.if-are_none.true
