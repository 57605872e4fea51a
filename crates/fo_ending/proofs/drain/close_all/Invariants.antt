use Rattle.std.proofs.Common.{◌≡◌, ◌≤◌, []}
use Rattle.fo_mind.specs.MindParts.{parts}
use Rattle.fo_ending.specs.Steps.{MayDrain, Steps, live_count}
use Rattle.fo_ending.proofs.drain.close_all.Given as goal

abbrev pub invariant-loop : goal.invariant-loop
invariant-loop g l = record {
  may : MayDrain (parts l.cache.mind [] 0);
  steps : Steps (parts l.fn.cache.mind (g.D.Disk.state l.fn.cache.main).holds (g.D.Disk.faults l.fn.cache.main)) (parts l.cache.mind (g.D.Disk.state l.cache.main).holds (g.D.Disk.faults l.cache.main));
  size : g.D.Disk.size l.cache.main ≡ g.D.Disk.size l.fn.cache.main;
  later : g.D.Disk.faults l.fn.cache.main ≤ g.D.Disk.faults l.cache.main;
}

abbrev pub decreases-loop : goal.decreases-loop
decreases-loop g l = live_count (parts l.cache.mind [] 0).region
