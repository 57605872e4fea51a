use Rattle.std.proofs.Common.{◌≡◌, ◌+◌, ◌≤◌, []}
use Rattle.fo_mind.specs.MindParts.{parts}
use Rattle.fo_cache.specs.Settling.{Settles}
use Rattle.fo_cache.specs.Work.{work}
use Rattle.fo_opening.proofs.turns.take_turns.Given as goal

abbrev pub invariant-loop : goal.invariant-loop
invariant-loop g l = record {
  settles : Settles (g.D.Disk.state l.fn.cache.main) (g.D.Disk.state l.cache.main) (parts l.fn.cache.mind [] 0) (parts l.cache.mind [] 0);
  size : g.D.Disk.size l.cache.main ≡ g.D.Disk.size l.fn.cache.main;
  spent : g.D.Disk.calls l.cache.main + work (parts l.cache.mind [] 0).turns ≤ g.D.Disk.calls l.fn.cache.main + work (parts l.fn.cache.mind [] 0).turns;
  later : g.D.Disk.faults l.fn.cache.main ≤ g.D.Disk.faults l.cache.main;
}

abbrev pub decreases-loop : goal.decreases-loop
decreases-loop g l = work (parts l.cache.mind [] 0).turns
