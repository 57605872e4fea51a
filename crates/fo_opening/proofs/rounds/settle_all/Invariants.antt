use Rattle.std.proofs.Common.{◌≡◌, ◌+◌, ◌≤◌, [], length}
use Rattle.fo_mind.specs.MindParts.{parts}
use Rattle.fo_cache.specs.Work.{calls_left}
use Rattle.fo_reserving.specs.of_settling.Clearings.{Clearings}
use Rattle.fo_opening.specs.Ending.{Ending}
use Rattle.fo_opening.proofs.rounds.settle_all.Given as goal

abbrev pub invariant-loop : goal.invariant-loop
invariant-loop g l = record {
  clears : Clearings (parts l.fn.cache.mind (g.D.Disk.state l.fn.cache.main).holds (g.D.Disk.faults l.fn.cache.main)) (parts l.cache.mind (g.D.Disk.state l.cache.main).holds (g.D.Disk.faults l.cache.main));
  ending : Ending (g.D.Disk.state l.fn.cache.main) (g.D.Disk.state l.cache.main) (g.D.Disk.faults l.fn.cache.main) (g.D.Disk.faults l.cache.main) (parts l.fn.cache.mind [] 0) (parts l.cache.mind [] 0);
  size : g.D.Disk.size l.cache.main ≡ g.D.Disk.size l.fn.cache.main;
  spent : g.D.Disk.calls l.cache.main + calls_left (parts l.cache.mind [] 0) ≤ g.D.Disk.calls l.fn.cache.main + calls_left (parts l.fn.cache.mind [] 0);
  later : g.D.Disk.faults l.fn.cache.main ≤ g.D.Disk.faults l.cache.main;
}

abbrev pub decreases-loop : goal.decreases-loop
decreases-loop g l = length l.cache.mind.clears.items
