use Rattle.std.proofs.Common.{arith}
use Rattle.fo_taking.proofs.Stepping.{ends_spent, one_at_most, pushed_by, pushed_more, pushed_self, step_of, taking_more, taking_none}
use Rattle.fo_taking.proofs.taking.take_out.Goals as goal

pub loop-left-init : goal.loop-left-init
loop-left-init c = record {
  taking = λ now shows. taking_none now c.args.walk.now c.args.queue.now.removals c.args.budget;
  most = omega arith;
  pushed = pushed_self c.args.queue.now c.args.budget;
}

pub returns-clause-ends : goal.returns-clause-ends
returns-clause-ends c = λ now shows. let stop = c.loop-left-test.false in ends_spent (omega (arith, stop)) (c.loop-left.invariant.taking now shows)

pub loop-left-preserved : goal.loop-left-preserved
loop-left-preserved c =
    let i = c.loop-left.invariant in
    let a = c.in-Some.answer in
    let one = one_at_most a in
    let some = c.loop-left-test.true in
    let count = c.push-left.ensures.count in
    let most = i.most in
    record {
      taking = λ now shows. taking_more a (step_of c.take_step.result a c.in-Some.is c.take_step.ensures now shows) c.push-left.ensures.queued (omega (arith, one, some, count)) (i.taking now shows);
      most = omega (arith, most);
      pushed = pushed_by (omega (arith, one, some, count, most)) (pushed_more i.pushed c.push-left.ensures.pushed);
    }
