use Rattle.std.proofs.Common.{refl, ◌∙◌, arith, rules}
use Rattle.fo_mind.specs.MindParts.{parts}
use Rattle.fo_ending.proofs.Stepping.{steps_none, steps_on}
use Rattle.fo_ending.proofs.drain.close_all.Goals as goal

pub loop-init : goal.loop-init
loop-init g c =
    let old = c.args.cache.now in
    record { may = c.requires.may; steps = steps_none (parts old.mind (g.D.Disk.state old.main).holds (g.D.Disk.faults old.main)); size = refl; later = omega arith }

pub loop-preserved : goal.loop-preserved
loop-preserved g c =
    let was = c.loop.invariant in
    let now = c.close_some.ensures in
    record {
      may = c.in_ok-close_some.ensures.again (search rules);
      steps = steps_on was.steps now.steps;
      size = now.size ∙ was.size;
      later = let x = was.later in let y = now.later in omega (arith, x, y);
    }

pub returns-in_err-close_some-clause-steps : goal.returns-in_err-close_some-clause-steps
returns-in_err-close_some-clause-steps g c = steps_on c.loop.invariant.steps c.close_some.ensures.steps

pub returns-clause-steps : goal.returns-clause-steps
returns-clause-steps g c = steps_on c.loop.invariant.steps c.close_some.ensures.steps

pub returns-clause-empty : goal.returns-clause-empty
returns-clause-empty g c = c.in_ok-close_some.ensures.over (search rules)
