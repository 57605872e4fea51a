use Rattle.std.proofs.Common.{refl, sym}
use Rattle.fo_taking.proofs.Stepping.{over_step}
use Rattle.fo_taking.proofs.taking.take_step.Goals as goal

pub step_pair-requires-clause-first : goal.step_pair-requires-clause-first
step_pair-requires-clause-first c = sym c.in-Some.ensures

pub returns-in-None : goal.returns-in-None
returns-in-None c = over_step c.args.walk.now c.args.walk.now refl (sym c.in-None.ensures)
