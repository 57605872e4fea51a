use Rattle.std.proofs.Common.{◌≡◌, ◌≤◌, []}
use Rattle.fo_order.specs.Turns.{IsQuiet}
use Rattle.fo_unlink.specs.Work.{work}
use Rattle.fo_mind.specs.MindParts.{parts}
use Rattle.fo_mind.specs.Parts.{count_of}
use Rattle.fo_closing.specs.Closings.{Closings}
use Rattle.fo_closing.specs.Rest.{AtRest}
use Rattle.fo_ending.proofs.calm.close_one.Given as goal

abbrev pub invariant-loop : goal.invariant-loop
invariant-loop g l = record {
  count : count_of (parts l.mind [] 0).region ≡ count_of (parts l.fn.mind [] 0).region;
  quiet : IsQuiet (parts l.mind [] 0).turns;
  same : (parts l.mind [] 0).region ≡ (parts l.fn.mind [] 0).region;
  rest : AtRest (parts l.mind [] 0);
  closes : Closings (g.D.Disk.state l.fn.main).holds (parts l.fn.mind (g.D.Disk.state l.fn.main).holds (g.D.Disk.faults l.fn.main)) (parts l.mind (g.D.Disk.state l.main).holds (g.D.Disk.faults l.main)) l.fn.mind.queue l.mind.queue;
  size : g.D.Disk.size l.main ≡ g.D.Disk.size l.fn.main;
  state : g.D.Disk.state l.main ≡ g.D.Disk.state l.fn.main;
  later : g.D.Disk.faults l.fn.main ≤ g.D.Disk.faults l.main;
}

abbrev pub decreases-loop : goal.decreases-loop
decreases-loop g l = work l.mind.queue
