use Rattle.std.proofs.Common.{refl}
use Rattle.fo_mind.proofs.mind.Mind.learn.Goals as goal

pub invariant_of-self-clause-holding : goal.invariant_of-self-clause-holding
invariant_of-self-clause-holding c = rw c.learn.ensures c.args.self.now.holding

pub invariant_of-self-clause-changing : goal.invariant_of-self-clause-changing
invariant_of-self-clause-changing c = rw c.learn.ensures c.args.self.now.changing

pub invariant_of-self-clause-waiting : goal.invariant_of-self-clause-waiting
invariant_of-self-clause-waiting c = rw c.learn.ensures c.args.self.now.waiting

pub invariant_of-self-clause-standing : goal.invariant_of-self-clause-standing
invariant_of-self-clause-standing c = rw c.learn.ensures c.args.self.now.standing

pub invariant_of-self-clause-owing : goal.invariant_of-self-clause-owing
invariant_of-self-clause-owing c = rw c.learn.ensures c.args.self.now.owing

pub invariant_of-self-clause-roomy : goal.invariant_of-self-clause-roomy
invariant_of-self-clause-roomy c = rw c.learn.ensures c.args.self.now.roomy

pub invariant_of-self-clause-turning : goal.invariant_of-self-clause-turning
invariant_of-self-clause-turning c = rw c.learn.ensures c.args.self.now.turning

pub returns-clause-parts : goal.returns-clause-parts
returns-clause-parts c = λ disk faults. rw c.learn.ensures refl
