use Rattle.std.proofs.Common.{List, true, refl, ◌+◌, length, sym, subst}
use Rattle.fo_order.specs.Keeps.{Turns}
use Rattle.fo_facts.specs.declared.fact.Fact.{Fact}
use Rattle.fo_mind.specs.Sound.{Placed, Owing, Roomy}
use Rattle.fo_mind.proofs.Refilling.{refills_of, holding_refilled, waiting_refilled, owing_refilled, roomy_refilled, marks_turned, placed_turned, owing_turned, roomy_turned, turn_room, within_facts}
use Rattle.fo_mind.proofs.Results.{both}
use Rattle.fo_mind.specs.Frames.{SameMarks}
use Rattle.fo_mind.specs.Turning.{Turning}
use Rattle.fo_mind.proofs.Standing.{root_marks, standing_here}
use Rattle.fo_mind.proofs.Turning.{turning_refilled}
use Rattle.fo_mind.proofs.Making.{making_turned}
use Rattle.fo_mind.proofs.Changing.{changing_refilled}
use Rattle.fo_mind.proofs.mind.Mind.refill.Goals as goal

pub take_turn-requires-clause-flags : goal.take_turn-requires-clause-flags
take_turn-requires-clause-flags c = let self = c.args.self.now in (within_facts c.args.at self.placed self.holding c.requires.held).1

pub take_turn-requires-clause-facts : goal.take_turn-requires-clause-facts
take_turn-requires-clause-facts c = let self = c.args.self.now in (within_facts c.args.at self.placed self.holding c.requires.held).0

pub take_turn-requires-clause-room : goal.take_turn-requires-clause-room
take_turn-requires-clause-room c =
    let self = c.args.self.now in
    let w = within_facts c.args.at self.placed self.holding c.requires.held in
    λ due. turn_room self.facts c.args.at w.0 self.roomy (c.requires.owed due)

pub invariant_of-self-clause-placed : goal.invariant_of-self-clause-placed
invariant_of-self-clause-placed c =
    let self = c.args.self.now in
    let w = within_facts c.args.at self.placed self.holding c.requires.held in
    both (λ (t : Turns) (fs : List Fact). Placed self.labels t fs self.first self.count) c.take_turn.ensures.turns c.take_turn.ensures.items (placed_turned self.facts self.order c.args.at w.0 w.1 self.placed)

pub invariant_of-self-clause-holding : goal.invariant_of-self-clause-holding
invariant_of-self-clause-holding c =
    let self = c.args.self.now in
    holding_refilled (refills_of c.args.at c.args.bytes.now self.buffers c.write.new.self self.holding c.requires.held c.requires.good.long c.write.ensures) c.requires.good self.holding

pub invariant_of-self-clause-waiting : goal.invariant_of-self-clause-waiting
invariant_of-self-clause-waiting c =
    let self = c.args.self.now in
    waiting_refilled (refills_of c.args.at c.args.bytes.now self.buffers c.write.new.self self.holding c.requires.held c.requires.good.long c.write.ensures) c.requires.used self.waiting

pub invariant_of-self-clause-owing : goal.invariant_of-self-clause-owing
invariant_of-self-clause-owing c =
    let self = c.args.self.now in
    let w = within_facts c.args.at self.placed self.holding c.requires.held in
    let r = refills_of c.args.at c.args.bytes.now self.buffers c.write.new.self self.holding c.requires.held c.requires.good.long c.write.ensures in
    both (λ (t : Turns) (fs : List Fact). Owing c.write.new.self t fs) c.take_turn.ensures.turns c.take_turn.ensures.items (owing_turned self.facts self.order c.args.at w.0 w.1 (owing_refilled r self.owing))

pub invariant_of-self-clause-roomy : goal.invariant_of-self-clause-roomy
invariant_of-self-clause-roomy c =
    let self = c.args.self.now in
    let w = within_facts c.args.at self.placed self.holding c.requires.held in
    let r = refills_of c.args.at c.args.bytes.now self.buffers c.write.new.self self.holding c.requires.held c.requires.good.long c.write.ensures in
    both (λ (t : Turns) (fs : List Fact). Roomy c.write.new.self t self.labels fs self.one.low self.spare self.pins (self.room + length self.clears.items)) c.take_turn.ensures.turns c.take_turn.ensures.items
    (roomy_turned self.facts self.order c.args.at w.0 w.1 c.requires.owed (roomy_refilled r self.roomy))

pub returns-clause-is : goal.returns-clause-is
returns-clause-is c = λ disk faults. record { held = c.write.ensures; turns = c.take_turn.ensures.turns; facts = c.take_turn.ensures.items; rest = refl }

pub invariant_of-self-clause-turning : goal.invariant_of-self-clause-turning
invariant_of-self-clause-turning c =
    let self = c.args.self.now in
    let w = within_facts c.args.at self.placed self.holding c.requires.held in
    let r = refills_of c.args.at c.args.bytes.now self.buffers c.write.new.self self.holding c.requires.held c.requires.good.long c.write.ensures in
    both (λ (t : Turns) (fs : List Fact). Turning self.first c.write.new.self t fs) c.take_turn.ensures.turns c.take_turn.ensures.items (turning_refilled self.facts self.order c.args.at w.0 w.1 r self.placed self.holding self.turning)

pub invariant_of-self-clause-making : goal.invariant_of-self-clause-making
invariant_of-self-clause-making c =
    let self = c.args.self.now in
    let w = within_facts c.args.at self.placed self.holding c.requires.held in
    making_turned self.facts c.take_turn.new.facts self.order c.args.at w.0 c.take_turn.ensures.items self.making

pub invariant_of-self-clause-standing : goal.invariant_of-self-clause-standing
invariant_of-self-clause-standing c =
    let self = c.args.self.now in
    let r = refills_of c.args.at c.args.bytes.now self.buffers c.write.new.self self.holding c.requires.held c.requires.good.long c.write.ensures in
    let w = within_facts c.args.at self.placed self.holding c.requires.held in
    let marks : SameMarks self.facts c.take_turn.new.facts = subst (SameMarks self.facts) (sym c.take_turn.ensures.items) (marks_turned self.facts self.order c.args.at w.0 w.1) in
    standing_here (record { block = c.args.bytes.now; dirty = true; pinned = r.was.pinned }) r.others r.here marks.linked self.standing

pub invariant_of-self-clause-root_in : goal.invariant_of-self-clause-root_in
invariant_of-self-clause-root_in c =
    let self = c.args.self.now in
    let w = within_facts c.args.at self.placed self.holding c.requires.held in
    root_marks (subst (SameMarks self.facts) (sym c.take_turn.ensures.items) (marks_turned self.facts self.order c.args.at w.0 w.1)) self.root_in

pub invariant_of-self-clause-changing : goal.invariant_of-self-clause-changing
invariant_of-self-clause-changing c =
    let self = c.args.self.now in
    changing_refilled (refills_of c.args.at c.args.bytes.now self.buffers c.write.new.self self.holding c.requires.held c.requires.good.long c.write.ensures) c.requires.current self.changing
