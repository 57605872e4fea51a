use Rattle.std.proofs.Common.{[], sym, ap, ◌∙◌, subst, arith}
use Rattle.fo_order.specs.Turns.{IsQuiet}
use Rattle.fo_cache.specs.of_waits.Listed.{Clears}
use Rattle.fo_cache.specs.of_mind.Parts.{IsPinned, Parts}
use Rattle.fo_cache.proofs.Easing.{eases_on}
use Rattle.fo_cache.proofs.Lessening.{certain_left}
use Rattle.fo_cache.specs.of_mind.MindParts.{parts}
use Rattle.fo_settling.proofs.Clearing.{clearings_of, clearings_on, lasts_on, lasts_renumbered, lasts_sealed, lasts_waited}
use Rattle.fo_settling.specs.Costs.{Costs}
use Rattle.fo_settling.proofs.Costing.{costs_doubted, costs_of}
use Rattle.fo_settling.proofs.Waiting.{newborn_or_sealed}
use Rattle.fo_settling.proofs.rounds.settle_all.Goals as goal

pub returns-in_err-settle_rounds-clause-eases : goal.returns-in_err-settle_rounds-clause-eases
returns-in_err-settle_rounds-clause-eases g c = eases_on c.settle_doubt.ensures.eases c.settle_rounds.ensures.eases

pub returns-clause-eases : goal.returns-clause-eases
returns-clause-eases g c = eases_on (eases_on (eases_on c.settle_doubt.ensures.eases c.settle_rounds.ensures.eases) c.waits_over.ensures.eases) c.seal_pinned.ensures.eases

pub returns-clause-none : goal.returns-clause-none
returns-clause-none g c = λ b j h. c.in_ok-settle_rounds.ensures.done.1 b j (subst (λ (z : Parts). Clears z.clears b j) c.waits_over.ensures.over (subst (λ (z : Parts). Clears z.clears b j) c.seal_pinned.ensures.sealed.rest h))

pub returns-clause-quiet : goal.returns-clause-quiet
returns-clause-quiet g c = subst (λ (z : Parts). IsQuiet z.turns) (sym c.seal_pinned.ensures.sealed.rest) (subst (λ (z : Parts). IsQuiet z.turns) (sym c.waits_over.ensures.over) c.in_ok-settle_rounds.ensures.done.0)

pub returns-clause-no_wait : goal.returns-clause-no_wait
returns-clause-no_wait g c = ap (λ (z : Parts). z.waits) c.seal_pinned.ensures.sealed.rest ∙ ap (λ (z : Parts). z.waits) c.waits_over.ensures.over

pub returns-clause-pinned : goal.returns-clause-pinned
returns-clause-pinned g c = λ b is.
    let z = c.seal_pinned.ensures.sealed in
    newborn_or_sealed c.seal_pinned.new.self.mind.facts b (z.pinned b (subst (λ (q : Parts). IsPinned q.held b) z.rest is))

pub returns-in_err-settle_doubt-clause-clears : goal.returns-in_err-settle_doubt-clause-clears
returns-in_err-settle_doubt-clause-clears g c =
    let old = c.args.cache.now in
    let mid = c.settle_doubt.new.self in
    clearings_of (lasts_renumbered (g.D.Disk.state old.main) (g.D.Disk.state mid.main) (parts old.mind [] 0) (parts mid.mind [] 0) (g.D.Disk.faults old.main) (g.D.Disk.faults mid.main) old.mind.placed c.settle_doubt.ensures.renumbers)

pub returns-in_err-settle_rounds-clause-clears : goal.returns-in_err-settle_rounds-clause-clears
returns-in_err-settle_rounds-clause-clears g c =
    let old = c.args.cache.now in
    let mid = c.settle_doubt.new.self in
    clearings_on (clearings_of (lasts_renumbered (g.D.Disk.state old.main) (g.D.Disk.state mid.main) (parts old.mind [] 0) (parts mid.mind [] 0) (g.D.Disk.faults old.main) (g.D.Disk.faults mid.main) old.mind.placed c.settle_doubt.ensures.renumbers)) c.settle_rounds.ensures.clears

pub returns-clause-clears : goal.returns-clause-clears
returns-clause-clears g c =
    let old = c.args.cache.now in
    let mid = c.settle_doubt.new.self in
    let done = c.settle_rounds.new.cache in
    let over = c.waits_over.new.self in
    let end = c.seal_pinned.new.self in
    clearings_on (clearings_on (clearings_of (lasts_renumbered (g.D.Disk.state old.main) (g.D.Disk.state mid.main) (parts old.mind [] 0) (parts mid.mind [] 0) (g.D.Disk.faults old.main) (g.D.Disk.faults mid.main) old.mind.placed c.settle_doubt.ensures.renumbers)) c.settle_rounds.ensures.clears) (clearings_of (lasts_on
    (lasts_waited (parts done.mind [] 0) (parts over.mind [] 0) (g.D.Disk.state done.main).holds (g.D.Disk.state over.main).holds (g.D.Disk.faults done.main) (g.D.Disk.faults over.main) (ap (λ m. (g.D.Disk.state m).holds) c.waits_over.ensures.device) c.waits_over.ensures.over)
    (lasts_sealed (parts over.mind [] 0) (parts end.mind [] 0) (g.D.Disk.state over.main).holds (g.D.Disk.state end.main).holds (g.D.Disk.faults over.main) (g.D.Disk.faults end.main) (ap (λ m. (g.D.Disk.state m).holds) c.seal_pinned.ensures.device) c.seal_pinned.ensures.sealed)))

pub returns-in_err-settle_doubt-clause-calls : goal.returns-in_err-settle_doubt-clause-calls
returns-in_err-settle_doubt-clause-calls g c = let x = c.settle_doubt.ensures.calls in omega (arith, x)

pub returns-in_err-settle_rounds-clause-calls : goal.returns-in_err-settle_rounds-clause-calls
returns-in_err-settle_rounds-clause-calls g c =
    let x = certain_left (g.D.Disk.state c.args.cache.now.main) (g.D.Disk.state c.settle_doubt.new.self.main) (parts c.args.cache.now.mind [] 0) (parts c.settle_doubt.new.self.mind [] 0) _ _ c.settle_doubt.ensures.renumbers c.in_ok-settle_doubt.ensures.certain c.settle_doubt.ensures.turns c.settle_doubt.ensures.calls in
    let y = c.settle_rounds.ensures.calls in
    omega (arith, x, y)

pub returns-clause-calls : goal.returns-clause-calls
returns-clause-calls g c =
    let x = certain_left (g.D.Disk.state c.args.cache.now.main) (g.D.Disk.state c.settle_doubt.new.self.main) (parts c.args.cache.now.mind [] 0) (parts c.settle_doubt.new.self.mind [] 0) _ _ c.settle_doubt.ensures.renumbers c.in_ok-settle_doubt.ensures.certain c.settle_doubt.ensures.turns c.settle_doubt.ensures.calls in
    let y = c.settle_rounds.ensures.calls in
    let over = ap g.D.Disk.calls c.waits_over.ensures.device in
    let sealed = ap g.D.Disk.calls c.seal_pinned.ensures.device in
    omega (arith, x, y, over, sealed)

pub returns-in_err-settle_doubt-clause-costs : goal.returns-in_err-settle_doubt-clause-costs
returns-in_err-settle_doubt-clause-costs g c = costs_doubted (parts c.args.cache.now.mind [] 0) c.settle_doubt.ensures.made

pub returns-in_err-settle_rounds-clause-costs : goal.returns-in_err-settle_rounds-clause-costs
returns-in_err-settle_rounds-clause-costs g c =
    let d = c.settle_doubt.ensures in
    costs_of (parts c.args.cache.now.mind [] 0) (parts c.settle_doubt.new.self.mind [] 0) d.made d.renumbers d.turns c.settle_rounds.ensures.made

pub returns-clause-costs : goal.returns-clause-costs
returns-clause-costs g c =
    let old = c.args.cache.now in
    let p = parts old.mind [] 0 in
    let d = c.settle_doubt.ensures in
    let device = c.seal_pinned.ensures.device ∙ c.waits_over.ensures.device in
    subst (λ (z : _). Costs (g.D.Disk.state old.main) (g.D.Disk.state z) (g.D.Disk.calls old.main) (g.D.Disk.calls z) p) (sym device)
    (costs_of p (parts c.settle_doubt.new.self.mind [] 0) d.made d.renumbers d.turns c.settle_rounds.ensures.made)
