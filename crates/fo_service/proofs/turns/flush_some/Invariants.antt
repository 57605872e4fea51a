use Rattle.fo_world.specs.Answers.{NotFewer}
use Rattle.fo_service.proofs.Flushing.{Flushing}
use Rattle.fo_service.proofs.turns.flush_some.Given as goal

abbrev pub invariant-flushes : goal.invariant-flushes
invariant-flushes g l = record {
  flushing : Flushing g.T.Turner.goes l.fn.turner l.counter l.turner;
  later : NotFewer (g.T.Turner.faults l.fn.turner) (g.T.Turner.faults l.turner);
}
