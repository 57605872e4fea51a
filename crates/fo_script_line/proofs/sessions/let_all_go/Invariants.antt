use Rattle.fo_world.specs.Answers.{NotFewer}
use Rattle.fo_script_line.proofs.Letting.{Letting}
use Rattle.fo_script_line.proofs.sessions.let_all_go.Given as goal

abbrev pub invariant-fids : goal.invariant-fids
invariant-fids g l = record {
  letting : Letting g.T.Turner.goes l.session l.now l.fn.on l.on;
  later : NotFewer (g.T.Turner.faults l.fn.on) (g.T.Turner.faults l.on);
}

abbrev pub decreases-fids : goal.decreases-fids
decreases-fids g l = g.T.Turner.fids l.on l.session
