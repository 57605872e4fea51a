use Rattle.fo_world.specs.Answers.{NotFewer}
use Rattle.fo_script_line.specs.Sessions.{AllLetGo}
use Rattle.fo_script_line.proofs.sessions.let_everyone_go.Given as goal

abbrev pub invariant-sessions : goal.invariant-sessions
invariant-sessions g l = record {
  gone : AllLetGo g.T.Turner.goes l.now l.session l.fn.on l.on;
  later : NotFewer (g.T.Turner.faults l.fn.on) (g.T.Turner.faults l.on);
}
