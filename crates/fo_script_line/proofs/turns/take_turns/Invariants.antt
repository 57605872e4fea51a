use Rattle.fo_world.specs.Answers.{NotFewer}
use Rattle.fo_script_line.proofs.Turning.{Turning}
use Rattle.fo_script_line.proofs.turns.take_turns.Given as goal

abbrev pub invariant-turns : goal.invariant-turns
invariant-turns g l = record {
  turning : Turning g.T.Turner.goes l.fn.first l.stage l.fn.on l.on l.counter;
  later : NotFewer (g.T.Turner.faults l.fn.on) (g.T.Turner.faults l.on);
}
