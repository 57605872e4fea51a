use Rattle.std.proofs.Common.{inr, refl}
use Rattle.fo_takeout.specs.declared.pair.Change.TheVariants.{Copied}
use Rattle.fo_taking.proofs.Stepping.{asked_copied, copied_item, lacks_step, some_step}
use Rattle.fo_taking.proofs.taking.step_beside.Goals as goal

pub step-requires : goal.step-requires
step-requires c = asked_copied c.args.walk.now c.args.pair.now c.requires.first c.args.old.now c.in-Some.new.now c.requires.change c.requires.held.content c.in-Some.ensures.content

pub returns-in-Some : goal.returns-in-Some
returns-in-Some c = some_step c.args.walk.now c.step.new.self c.args.pair.now c.step.result c.args.old.now c.in-Some.new.now c.requires.first c.step.ensures.steps c.step.ensures.queued c.step.ensures.lowers
    (λ now shows. copied_item c.args.pair.now c.args.walk.now now shows c.args.old.now c.in-Some.new.now c.requires.held c.in-Some.ensures)

pub returns-in-None : goal.returns-in-None
returns-in-None c = lacks_step c.args.walk.now c.args.walk.now c.args.pair.now Copied refl c.requires.first c.requires.change (inr c.in-None.ensures)
