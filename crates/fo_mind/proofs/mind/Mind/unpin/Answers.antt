use Rattle.std.proofs.Common.{◌<◌, false, length, refl, sym, ap, subst, arith, ◌+◌}
use Rattle.fo_buffers.specs.Held.{Held, pinned_as}
use Rattle.fo_facts.specs.Known.{fact_at}
use Rattle.fo_mind.specs.MindParts.{parts}
use Rattle.fo_mind.specs.Sound.{Holding, Owing, Roomy, Standing, Waiting}
use Rattle.fo_mind.specs.Turning.{Turning, unpinned_fact}
use Rattle.fo_mind.proofs.Standing.{links_set, root_set, standing_here}
use Rattle.fo_mind.proofs.Unpinning.{holding_unpins, owing_unpins, placed_unpins, roomy_unpins, turning_unpins, unpins_of, waiting_unpins}
use Rattle.fo_mind.proofs.Making.{making_unpinned}
use Rattle.fo_mind.proofs.Changing.{changing_kept}
use Rattle.fo_mind.specs.Sound.{Changing}
use Rattle.fo_mind.proofs.mind.Mind.unpin.Goals as goal

pub owe_unlinked-requires : goal.owe_unlinked-requires
owe_unlinked-requires c =
    let self = c.args.self.now in
    let p = unpins_of c.in-Some.at self.buffers c.unpin.new.self c.in-Some.ensures.0 c.in-Some.ensures.1 in
    let lt = (self.holding.block c.in-Some.at p.was p.held).1 in
    let n = self.placed.fact_count in
    omega (arith, lt, n)

pub invariant_of-self-2-clause-placed : goal.invariant_of-self-2-clause-placed
invariant_of-self-2-clause-placed c = let self = c.args.self.now in placed_unpins self.facts c.owe_unlinked.new.facts c.in-Some.at c.owe_unlinked.ensures self.placed

pub invariant_of-self-2-clause-holding : goal.invariant_of-self-2-clause-holding
invariant_of-self-2-clause-holding c = let self = c.args.self.now in holding_unpins (unpins_of c.in-Some.at self.buffers c.unpin.new.self c.in-Some.ensures.0 c.in-Some.ensures.1) self.holding

pub invariant_of-self-2-clause-waiting : goal.invariant_of-self-2-clause-waiting
invariant_of-self-2-clause-waiting c = let self = c.args.self.now in waiting_unpins (unpins_of c.in-Some.at self.buffers c.unpin.new.self c.in-Some.ensures.0 c.in-Some.ensures.1) self.waiting

pub invariant_of-self-2-clause-owing : goal.invariant_of-self-2-clause-owing
invariant_of-self-2-clause-owing c =
    let self = c.args.self.now in
    let p = unpins_of c.in-Some.at self.buffers c.unpin.new.self c.in-Some.ensures.0 c.in-Some.ensures.1 in
    let b = (self.holding.block c.in-Some.at p.was p.held).1 in
    let n = self.placed.fact_count in
    let lt : c.in-Some.at < length self.facts = omega (arith, b, n) in
    owing_unpins p self.facts c.owe_unlinked.new.facts lt c.owe_unlinked.ensures self.owing

pub invariant_of-self-2-clause-roomy : goal.invariant_of-self-2-clause-roomy
invariant_of-self-2-clause-roomy c =
    let self = c.args.self.now in
    let p = unpins_of c.in-Some.at self.buffers c.unpin.new.self c.in-Some.ensures.0 c.in-Some.ensures.1 in
    let b = (self.holding.block c.in-Some.at p.was p.held).1 in
    let n = self.placed.fact_count in
    let lt : c.in-Some.at < length self.facts = omega (arith, b, n) in
    roomy_unpins p self.facts c.owe_unlinked.new.facts lt c.owe_unlinked.ensures self.roomy

pub invariant_of-self-2-clause-turning : goal.invariant_of-self-2-clause-turning
invariant_of-self-2-clause-turning c =
    let self = c.args.self.now in
    let p = unpins_of c.in-Some.at self.buffers c.unpin.new.self c.in-Some.ensures.0 c.in-Some.ensures.1 in
    let b = (self.holding.block c.in-Some.at p.was p.held).1 in
    let n = self.placed.fact_count in
    let lt : c.in-Some.at < length self.facts = omega (arith, b, n) in
    turning_unpins p self.facts c.owe_unlinked.new.facts lt c.owe_unlinked.ensures self.turning

pub invariant_of-self-clause-holding : goal.invariant_of-self-clause-holding
invariant_of-self-clause-holding c = let self = c.args.self.now in subst (λ (h : Held). Holding self.one.low self.first self.count self.labels h) (sym c.in_default.ensures.0) self.holding

pub invariant_of-self-clause-waiting : goal.invariant_of-self-clause-waiting
invariant_of-self-clause-waiting c = let self = c.args.self.now in subst (λ (h : Held). Waiting self.labels h self.waits.items) (sym c.in_default.ensures.0) self.waiting

pub invariant_of-self-clause-owing : goal.invariant_of-self-clause-owing
invariant_of-self-clause-owing c = let self = c.args.self.now in subst (λ (h : Held). Owing h self.order self.facts) (sym c.in_default.ensures.0) self.owing

pub invariant_of-self-clause-roomy : goal.invariant_of-self-clause-roomy
invariant_of-self-clause-roomy c = let self = c.args.self.now in subst (λ (h : Held). Roomy h self.order self.labels self.facts self.one.low self.spare self.pins (self.room + length self.clears.items)) (sym c.in_default.ensures.0) self.roomy

pub invariant_of-self-clause-turning : goal.invariant_of-self-clause-turning
invariant_of-self-clause-turning c = let self = c.args.self.now in subst (λ (h : Held). Turning self.first h self.order self.facts) (sym c.in_default.ensures.0) self.turning

pub returns-in_default : goal.returns-in_default
returns-in_default c = λ disk faults. (ap (λ (h : Held). record (parts c.args.self.now disk faults) { held = h }) c.in_default.ensures.0, λ q pinned. c.in_default.ensures.1 q (record { is = pinned }))

pub returns : goal.returns
returns c = λ disk faults. record { pinned = c.in-Some.ensures.0.is; held = c.in-Some.ensures.1; facts = c.owe_unlinked.ensures; rest = refl }

pub invariant_of-self-2-clause-making : goal.invariant_of-self-2-clause-making
invariant_of-self-2-clause-making c =
    let self = c.args.self.now in
    let p = unpins_of c.in-Some.at self.buffers c.unpin.new.self c.in-Some.ensures.0 c.in-Some.ensures.1 in
    let b = (self.holding.block c.in-Some.at p.was p.held).1 in
    let n = self.placed.fact_count in
    let lt : c.in-Some.at < length self.facts = omega (arith, b, n) in
    making_unpinned self.facts c.owe_unlinked.new.facts c.in-Some.at lt c.owe_unlinked.ensures self.making

pub invariant_of-self-2-clause-standing : goal.invariant_of-self-2-clause-standing
invariant_of-self-2-clause-standing c =
    let self = c.args.self.now in
    let p = unpins_of c.in-Some.at self.buffers c.unpin.new.self c.in-Some.ensures.0 c.in-Some.ensures.1 in
    let b = (self.holding.block c.in-Some.at p.was p.held).1 in
    let n = self.placed.fact_count in
    let lt : c.in-Some.at < length self.facts = omega (arith, b, n) in
    standing_here (pinned_as false p.was) p.others p.here (links_set self.facts c.owe_unlinked.new.facts c.in-Some.at (unpinned_fact (fact_at self.facts c.in-Some.at)) lt c.owe_unlinked.ensures refl) self.standing

pub invariant_of-self-2-clause-root_in : goal.invariant_of-self-2-clause-root_in
invariant_of-self-2-clause-root_in c =
    let self = c.args.self.now in
    let p = unpins_of c.in-Some.at self.buffers c.unpin.new.self c.in-Some.ensures.0 c.in-Some.ensures.1 in
    let b = (self.holding.block c.in-Some.at p.was p.held).1 in
    let n = self.placed.fact_count in
    let lt : c.in-Some.at < length self.facts = omega (arith, b, n) in
    root_set self.facts c.owe_unlinked.new.facts c.in-Some.at (unpinned_fact (fact_at self.facts c.in-Some.at)) lt c.owe_unlinked.ensures refl self.root_in

pub invariant_of-self-clause-standing : goal.invariant_of-self-clause-standing
invariant_of-self-clause-standing c = let self = c.args.self.now in subst (λ (h : Held). Standing h self.facts self.clears.items) (sym c.in_default.ensures.0) self.standing

pub invariant_of-self-2-clause-changing : goal.invariant_of-self-2-clause-changing
invariant_of-self-2-clause-changing c =
    let self = c.args.self.now in
    let p = unpins_of c.in-Some.at self.buffers c.unpin.new.self c.in-Some.ensures.0 c.in-Some.ensures.1 in
    changing_kept p.others p.was (pinned_as false p.was) p.held p.here (λ d. d) self.changing

pub invariant_of-self-clause-changing : goal.invariant_of-self-clause-changing
invariant_of-self-clause-changing c = let self = c.args.self.now in subst (λ (h : Held). Changing self.one.high self.labels h) (sym c.in_default.ensures.0) self.changing
