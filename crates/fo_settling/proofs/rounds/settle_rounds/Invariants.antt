use Rattle.std.proofs.Common.{◌≡◌, ◌+◌, ◌≤◌, [], length}
use Rattle.fo_cache.specs.of_mind.MindParts.{parts}
use Rattle.fo_cache.specs.Easing.{Eases}
use Rattle.fo_cache.specs.Work.{calls_left}
use Rattle.fo_settling.specs.Clearings.{Clearings}
use Rattle.fo_settling.specs.Costs.{Fewer, Spends, most_calls, most_writes}
use Rattle.fo_settling.proofs.rounds.settle_rounds.Given as goal

abbrev pub invariant-loop : goal.invariant-loop
invariant-loop g l = record {
  eases : Eases (parts l.fn.cache.mind (g.D.Disk.state l.fn.cache.main).holds (g.D.Disk.faults l.fn.cache.main)) (parts l.cache.mind (g.D.Disk.state l.cache.main).holds (g.D.Disk.faults l.cache.main));
  clears : Clearings (parts l.fn.cache.mind (g.D.Disk.state l.fn.cache.main).holds (g.D.Disk.faults l.fn.cache.main)) (parts l.cache.mind (g.D.Disk.state l.cache.main).holds (g.D.Disk.faults l.cache.main));
  size : g.D.Disk.size l.cache.main ≡ g.D.Disk.size l.fn.cache.main;
  spent : g.D.Disk.calls l.cache.main + calls_left (parts l.cache.mind [] 0) ≤ g.D.Disk.calls l.fn.cache.main + calls_left (parts l.fn.cache.mind [] 0);
  spends : Spends (g.D.Disk.state l.fn.cache.main) (g.D.Disk.state l.cache.main) (g.D.Disk.calls l.fn.cache.main) (g.D.Disk.calls l.cache.main) (parts l.fn.cache.mind [] 0) (most_calls (parts l.cache.mind [] 0)) (most_writes (parts l.cache.mind [] 0));
  waits : Fewer (parts l.fn.cache.mind [] 0) (parts l.cache.mind [] 0);
  later : g.D.Disk.faults l.fn.cache.main ≤ g.D.Disk.faults l.cache.main;
}

abbrev pub decreases-loop : goal.decreases-loop
decreases-loop g l = length l.cache.mind.clears.items
