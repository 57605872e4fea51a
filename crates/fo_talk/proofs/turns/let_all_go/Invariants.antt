use Rattle.fo_world.specs.Answers.{NotFewer}
use Rattle.fo_talk.proofs.Letting.{Letting}
use Rattle.fo_talk.proofs.turns.let_all_go.Given as goal

abbrev pub invariant-fids : goal.invariant-fids
invariant-fids g l = record {
  letting : Letting g.M.Machine.goes (record { clock = g.C.Clock.coming l.fn.clock; state = l.fn.machine; faults = g.M.Machine.faults l.fn.machine }) (record { clock = g.C.Clock.coming l.clock; state = l.machine; faults = g.M.Machine.faults l.machine });
  later : NotFewer (g.M.Machine.faults l.fn.machine) (g.M.Machine.faults l.machine);
}

abbrev pub decreases-fids : goal.decreases-fids
decreases-fids g l = g.M.Machine.fids l.machine
