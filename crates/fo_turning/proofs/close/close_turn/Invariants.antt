use Rattle.std.proofs.Common.{◌≡◌, ◌≤◌, []}
use Rattle.fo_unlink.specs.Work.{work}
use Rattle.fo_mind.specs.MindParts.{parts}
use Rattle.fo_closing.specs.Rest.{AtRest}
use Rattle.fo_turning.specs.Freed.{Yields}
use Rattle.fo_turning.specs.Unlinks.{Reading}
use Rattle.fo_turning.proofs.close.close_turn.Given as goal

abbrev pub invariant-loop-answer : goal.invariant-loop-answer
invariant-loop-answer g l = record {
  reading : Reading (g.D.Disk.state l.fn.cache.main).holds (parts l.fn.cache.mind (g.D.Disk.state l.fn.cache.main).holds (g.D.Disk.faults l.fn.cache.main)) (parts l.cache.mind (g.D.Disk.state l.cache.main).holds (g.D.Disk.faults l.cache.main)) l.fn.cache.mind.queue l.cache.mind.queue;
  yields : Yields (parts l.fn.cache.mind (g.D.Disk.state l.fn.cache.main).holds (g.D.Disk.faults l.fn.cache.main)) (parts l.cache.mind (g.D.Disk.state l.cache.main).holds (g.D.Disk.faults l.cache.main));
  rest : AtRest (parts l.cache.mind [] 0);
  size : g.D.Disk.size l.cache.main ≡ g.D.Disk.size l.fn.cache.main;
  state : g.D.Disk.state l.cache.main ≡ g.D.Disk.state l.fn.cache.main;
  later : g.D.Disk.faults l.fn.cache.main ≤ g.D.Disk.faults l.cache.main;
}

abbrev pub decreases-loop-answer : goal.decreases-loop-answer
decreases-loop-answer g l = work l.cache.mind.queue
