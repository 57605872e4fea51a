use Rattle.std.proofs.Common.{refl, arith}
use Rattle.fo_mind.proofs.Ending.{clearable_fewer}
use Rattle.fo_mind.proofs.Making.{making_fewer}
use Rattle.fo_mind.proofs.Recalling.{making_due, marks_due, owing_due, placed_due, roomy_due, turning_due}
use Rattle.fo_mind.proofs.Refilling.{within_facts}
use Rattle.fo_mind.proofs.Standing.{root_marks, standing_fewer}
use Rattle.fo_mind.proofs.mind.Mind.recall.Goals as goal

pub invariant_of-self-clause-placed : goal.invariant_of-self-clause-placed
invariant_of-self-clause-placed c =
    let self = c.args.self.now in
    let w = within_facts c.args.at self.placed self.holding (self.standing.still c.args.at c.args.i c.requires.waits) in
    placed_due self.facts c.owe_due.new.facts self.order c.args.at w.0 c.owe_due.ensures.is self.placed

pub invariant_of-self-clause-clearable : goal.invariant_of-self-clause-clearable
invariant_of-self-clause-clearable c = clearable_fewer c.take_out.ensures.out.only c.args.self.now.clearable

pub invariant_of-self-clause-standing : goal.invariant_of-self-clause-standing
invariant_of-self-clause-standing c =
    let self = c.args.self.now in
    let w = within_facts c.args.at self.placed self.holding (self.standing.still c.args.at c.args.i c.requires.waits) in
    let marks = marks_due self.facts c.owe_due.new.facts self.order c.args.at w.0 c.owe_due.ensures.is in
    standing_fewer c.take_out.ensures.out.only marks.linked self.standing

pub invariant_of-self-clause-root_in : goal.invariant_of-self-clause-root_in
invariant_of-self-clause-root_in c =
    let self = c.args.self.now in
    let w = within_facts c.args.at self.placed self.holding (self.standing.still c.args.at c.args.i c.requires.waits) in
    root_marks (marks_due self.facts c.owe_due.new.facts self.order c.args.at w.0 c.owe_due.ensures.is) self.root_in

pub invariant_of-self-clause-owing : goal.invariant_of-self-clause-owing
invariant_of-self-clause-owing c =
    let self = c.args.self.now in
    let w = within_facts c.args.at self.placed self.holding (self.standing.still c.args.at c.args.i c.requires.waits) in
    owing_due self.facts c.owe_due.new.facts self.order c.args.at w.0 c.owe_due.ensures.is self.owing

pub invariant_of-self-clause-roomy : goal.invariant_of-self-clause-roomy
invariant_of-self-clause-roomy c =
    let self = c.args.self.now in
    let w = within_facts c.args.at self.placed self.holding (self.standing.still c.args.at c.args.i c.requires.waits) in
    let f = c.take_out.ensures.out.fewer c.requires.waits in
    roomy_due self.facts c.owe_due.new.facts self.order c.args.at w.0 c.owe_due.ensures.is (omega (arith, f)) self.roomy

pub invariant_of-self-clause-making : goal.invariant_of-self-clause-making
invariant_of-self-clause-making c =
    let self = c.args.self.now in
    let w = within_facts c.args.at self.placed self.holding (self.standing.still c.args.at c.args.i c.requires.waits) in
    let f = c.take_out.ensures.out.fewer c.requires.waits in
    making_due self.facts c.owe_due.new.facts self.order c.args.at w.0 c.owe_due.ensures.is (making_fewer (omega (arith, f)) self.making)

pub invariant_of-self-clause-turning : goal.invariant_of-self-clause-turning
invariant_of-self-clause-turning c =
    let self = c.args.self.now in
    let w = within_facts c.args.at self.placed self.holding (self.standing.still c.args.at c.args.i c.requires.waits) in
    turning_due self.facts c.owe_due.new.facts self.order c.args.at w.0 c.owe_due.ensures.is self.turning

pub invariant_of-self-clause-awaits : goal.invariant_of-self-clause-awaits
invariant_of-self-clause-awaits c =
    let a = c.args.self.now.awaits in
    let f = c.take_out.ensures.out.fewer c.requires.waits in
    omega (arith, a, f)

pub invariant_of-self-clause-clears_more : goal.invariant_of-self-clause-clears_more
invariant_of-self-clause-clears_more c =
    let self = c.args.self.now in
    let a = self.clears_more in
    let f = c.take_out.ensures.out.fewer c.requires.waits in
    let o = self.clears.ok.0 in
    let n = c.take_out.new.clears.ok.0 in
    let k = c.take_out.ensures.capacity in
    omega (arith, a, f, o, n, k)

pub returns-clause-recalled : goal.returns-clause-recalled
returns-clause-recalled c = λ disk faults.
    let self = c.args.self.now in
    let w = within_facts c.args.at self.placed self.holding (self.standing.still c.args.at c.args.i c.requires.waits) in
    record { out = c.take_out.ensures.out; marks = marks_due self.facts c.owe_due.new.facts self.order c.args.at w.0 c.owe_due.ensures.is; room = refl; rest = refl }

pub returns-clause-making : goal.returns-clause-making
returns-clause-making c =
    let self = c.args.self.now in
    let w = within_facts c.args.at self.placed self.holding (self.standing.still c.args.at c.args.i c.requires.waits) in
    let f = c.take_out.ensures.out.fewer c.requires.waits in
    making_due self.facts c.owe_due.new.facts self.order c.args.at w.0 c.owe_due.ensures.is (making_fewer (omega (arith, f)) self.making)
