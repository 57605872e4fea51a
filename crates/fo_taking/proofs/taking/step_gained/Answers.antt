use Rattle.std.proofs.Common.{[], refl}
use Rattle.fo_takeout.specs.declared.pair.Change.TheVariants.{Gained}
use Rattle.fo_taking.proofs.Stepping.{asked_gained, gained_item, lacks_step, some_step}
use Rattle.fo_taking.proofs.taking.step_gained.Goals as goal

pub step-requires : goal.step-requires
step-requires c = asked_gained c.args.walk.now c.args.pair.now c.requires.first [] c.in-Some.new.now c.requires.change c.in-Some.ensures.content

pub returns-in-Some : goal.returns-in-Some
returns-in-Some c = some_step c.args.walk.now c.step.new.self c.args.pair.now c.step.result [] c.in-Some.new.now c.requires.first c.step.ensures.steps c.step.ensures.queued c.step.ensures.lowers
    (λ now shows. gained_item c.args.pair.now c.args.walk.now now shows [] c.in-Some.new.now c.requires.change c.in-Some.ensures)

pub returns-in-None : goal.returns-in-None
returns-in-None c = lacks_step c.args.walk.now c.args.walk.now c.args.pair.now Gained refl c.requires.first c.requires.change c.in-None.ensures
