use Rattle.std.proofs.Common.{[]}
use Rattle.fo_taking.proofs.Stepping.{apart_item, asked_apart, some_step}
use Rattle.fo_taking.proofs.taking.step_apart.Goals as goal

pub step-requires : goal.step-requires
step-requires c = asked_apart c.args.walk.now c.args.pair.now c.requires.first [] [] c.requires.change

pub returns : goal.returns
returns c = λ region held. some_step c.args.walk.now c.step.new.self c.args.pair.now c.step.result [] [] c.requires.first c.step.ensures.steps c.step.ensures.queued c.step.ensures.lowers
    (λ now shows. apart_item c.args.pair.now c.args.walk.now now shows [] [] c.requires.change)
