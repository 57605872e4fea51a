use Rattle.fo_vacput.proofs.Tails.{none_yet, one_more}
use Rattle.fo_vacput.proofs.truncation.without.Goals as goal

pub loop-front-init : goal.loop-front-init
loop-front-init c = none_yet c.args.bytes.now c.args.unit.now

pub loop-front-preserved : goal.loop-front-preserved
loop-front-preserved c = one_more c.args.bytes.now c.loop-front.rest.now c.in-Some.front.now c.args.unit.now c.loop-front.invariant.0 c.loop-front.invariant.1 c.in-Some.ensures
