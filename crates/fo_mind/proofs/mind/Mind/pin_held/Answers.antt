use Rattle.std.proofs.Common.{◌<◌, true, length, refl, arith}
use Rattle.fo_mind.specs.MindParts.{parts}
use Rattle.fo_mind.proofs.Keeping.{pins_of, holding_pins, waiting_pins, is_pinned_now, placed_owed, owing_owed, roomy_owed}
use Rattle.fo_mind.proofs.Getting.{source_pins, marks_owed, brings_pins}
use Rattle.fo_mind.proofs.Coming.{comes_pins}
use Rattle.fo_mind.proofs.Turning.{turning_pins}
use Rattle.fo_facts.specs.Known.{fact_at, owing_as}
use Rattle.fo_mind.proofs.Making.{making_noted}
use Rattle.fo_buffers.specs.Held.{pinned_as}
use Rattle.fo_mind.proofs.Standing.{links_set, root_set, standing_here}
use Rattle.fo_mind.proofs.Changing.{changing_kept}
use Rattle.fo_mind.proofs.mind.Mind.pin_held.Goals as goal

pub invariant_of-self-clause-placed : goal.invariant_of-self-clause-placed
invariant_of-self-clause-placed c =
    let self = c.args.self.now in
    let n = self.placed.fact_count in
    let b = c.requires.block.1 in
    let lt : c.args.at < length self.facts = omega (arith, b, n) in
    placed_owed self.facts c.owe.new.self c.args.at c.args.rank lt c.owe.ensures self.placed

pub invariant_of-self-clause-holding : goal.invariant_of-self-clause-holding
invariant_of-self-clause-holding c =
    let self = c.args.self.now in
    holding_pins (pins_of c.args.at self.buffers c.pin.new.self c.requires.held c.pin.ensures.free c.pin.ensures.same) self.holding

pub invariant_of-self-clause-waiting : goal.invariant_of-self-clause-waiting
invariant_of-self-clause-waiting c =
    let self = c.args.self.now in
    waiting_pins (pins_of c.args.at self.buffers c.pin.new.self c.requires.held c.pin.ensures.free c.pin.ensures.same) self.waiting

pub invariant_of-self-clause-owing : goal.invariant_of-self-clause-owing
invariant_of-self-clause-owing c =
    let self = c.args.self.now in
    let n = self.placed.fact_count in
    let b = c.requires.block.1 in
    let lt : c.args.at < length self.facts = omega (arith, b, n) in
    let p = pins_of c.args.at self.buffers c.pin.new.self c.requires.held c.pin.ensures.free c.pin.ensures.same in
    owing_owed self.facts c.owe.new.self c.args.at c.args.rank lt c.owe.ensures p.others self.owing

pub invariant_of-self-clause-roomy : goal.invariant_of-self-clause-roomy
invariant_of-self-clause-roomy c =
    let self = c.args.self.now in
    let n = self.placed.fact_count in
    let b = c.requires.block.1 in
    let lt : c.args.at < length self.facts = omega (arith, b, n) in
    let p = pins_of c.args.at self.buffers c.pin.new.self c.requires.held c.pin.ensures.free c.pin.ensures.same in
    roomy_owed self.facts c.owe.new.self c.args.at c.args.rank lt c.owe.ensures c.requires.left p.room self.roomy

pub returns-clause-here : goal.returns-clause-here
returns-clause-here c = is_pinned_now (pins_of c.args.at c.args.self.now.buffers c.pin.new.self c.requires.held c.pin.ensures.free c.pin.ensures.same)

pub returns-clause-source : goal.returns-clause-source
returns-clause-source c = λ disk. source_pins disk (pins_of c.args.at c.args.self.now.buffers c.pin.new.self c.requires.held c.pin.ensures.free c.pin.ensures.same)

pub returns-clause-brings : goal.returns-clause-brings
returns-clause-brings c = λ disk faults.
    let self = c.args.self.now in
    let n = self.placed.fact_count in
    let b = c.requires.block.1 in
    let lt : c.args.at < length self.facts = omega (arith, b, n) in
    brings_pins (parts self disk faults) _ c.args.at refl (omega arith) refl
    (marks_owed self.facts c.owe.new.self c.args.at c.args.rank lt c.owe.ensures)
    (pins_of c.args.at self.buffers c.pin.new.self c.requires.held c.pin.ensures.free c.pin.ensures.same)

pub returns-clause-comes : goal.returns-clause-comes
returns-clause-comes c = λ disk. comes_pins disk (pins_of c.args.at c.args.self.now.buffers c.pin.new.self c.requires.held c.pin.ensures.free c.pin.ensures.same)

pub invariant_of-self-clause-turning : goal.invariant_of-self-clause-turning
invariant_of-self-clause-turning c =
    let self = c.args.self.now in
    let n = self.placed.fact_count in
    let b = c.requires.block.1 in
    let lt : c.args.at < length self.facts = omega (arith, b, n) in
    turning_pins self.facts c.owe.new.self c.args.rank lt c.owe.ensures (pins_of c.args.at self.buffers c.pin.new.self c.requires.held c.pin.ensures.free c.pin.ensures.same) self.turning

pub invariant_of-self-clause-making : goal.invariant_of-self-clause-making
invariant_of-self-clause-making c =
    let self = c.args.self.now in
    let n = self.placed.fact_count in
    let b = c.requires.block.1 in
    let lt : c.args.at < length self.facts = omega (arith, b, n) in
    making_noted self.facts c.owe.new.self c.args.at (owing_as c.args.rank (fact_at self.facts c.args.at)) lt c.owe.ensures refl (λ _ _. refl) self.making

pub invariant_of-self-clause-standing : goal.invariant_of-self-clause-standing
invariant_of-self-clause-standing c =
    let self = c.args.self.now in
    let p = pins_of c.args.at self.buffers c.pin.new.self c.requires.held c.pin.ensures.free c.pin.ensures.same in
    let n = self.placed.fact_count in
    let b = c.requires.block.1 in
    let lt : c.args.at < length self.facts = omega (arith, b, n) in
    standing_here (pinned_as true p.was) p.others p.here (links_set self.facts c.owe.new.self c.args.at (owing_as c.args.rank (fact_at self.facts c.args.at)) lt c.owe.ensures refl) self.standing

pub invariant_of-self-clause-root_in : goal.invariant_of-self-clause-root_in
invariant_of-self-clause-root_in c =
    let self = c.args.self.now in
    let n = self.placed.fact_count in
    let b = c.requires.block.1 in
    let lt : c.args.at < length self.facts = omega (arith, b, n) in
    root_set self.facts c.owe.new.self c.args.at (owing_as c.args.rank (fact_at self.facts c.args.at)) lt c.owe.ensures refl self.root_in

pub invariant_of-self-clause-changing : goal.invariant_of-self-clause-changing
invariant_of-self-clause-changing c =
    let self = c.args.self.now in
    let p = pins_of c.args.at self.buffers c.pin.new.self c.requires.held c.pin.ensures.free c.pin.ensures.same in
    changing_kept p.others p.was (pinned_as true p.was) p.held p.here (λ d. d) self.changing
