use Rattle.std.proofs.Common.{◌-◌, false, arith, ap}
use Rattle.fo_image.specs.declared.types.Kind.TheVariants.{Root}
use Rattle.fo_mind.specs.MindParts.{parts}
use Rattle.fo_mind.proofs.Still.{frame_counts, image_counts, keeps_counts, no_wait_counts, order_counts, removes_one}
use Rattle.fo_unlink.specs.Pending.{Pending}
use Rattle.fo_mind.proofs.Making.{making_fewer}
use Rattle.fo_mind.proofs.Keeping.{roomy_fewer}
use Rattle.fo_mind.proofs.mind.Mind.retire.Goals as goal

pub returns-clause-now : goal.returns-clause-now
returns-clause-now c = λ disk faults. let p = parts c.args.self.now disk faults in image_counts p p.next p.granted (p.room - 1) c.push.new.self.removals

pub returns-clause-order : goal.returns-clause-order
returns-clause-order c = λ disk faults. let p = parts c.args.self.now disk faults in order_counts p p.next p.granted (p.room - 1) c.push.new.self.removals

pub returns-clause-no_wait : goal.returns-clause-no_wait
returns-clause-no_wait c = λ disk faults. let p = parts c.args.self.now disk faults in no_wait_counts p p.next p.granted (p.room - 1) c.push.new.self.removals

pub returns-clause-keeps : goal.returns-clause-keeps
returns-clause-keeps c = λ disk faults. let p = parts c.args.self.now disk faults in keeps_counts p p.next p.granted (p.room - 1) c.push.new.self.removals

pub returns-clause-frame : goal.returns-clause-frame
returns-clause-frame c = λ disk faults. let p = parts c.args.self.now disk faults in let some = c.requires.room in frame_counts p (p.room - 1) c.push.new.self.removals (omega (arith, some))

pub invariant_of-self-clause-roomy : goal.invariant_of-self-clause-roomy
invariant_of-self-clause-roomy c = roomy_fewer (omega arith) c.args.self.now.roomy

pub invariant_of-self-clause-making : goal.invariant_of-self-clause-making
invariant_of-self-clause-making c =
    let room = ap (λ (q : Pending). q.room) c.push.ensures.queued in
    let some = c.requires.room in
    let m = c.args.self.now.making.left in
    making_fewer (omega (arith, room, some, m)) c.args.self.now.making

pub returns-clause-removals : goal.returns-clause-removals
returns-clause-removals c = λ disk faults b e whole h.
    removes_one c.args.self.now.queue.removals c.push.new.self.removals (record { at = c.args.at; kind = Root; whole = false; epoch = c.args.epoch; after = c.args.after }) (ap (λ (q : Pending). q.removals) c.push.ensures.queued) b e whole h
