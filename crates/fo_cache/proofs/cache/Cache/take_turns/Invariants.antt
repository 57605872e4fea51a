use Rattle.std.proofs.Common.{◌≡◌, ◌+◌, ◌≤◌, []}
use Rattle.fo_mind.specs.MindParts.{parts}
use Rattle.fo_cache.specs.Called.{Makes, turns_of}
use Rattle.fo_cache.specs.Settling.{Settles}
use Rattle.fo_cache.specs.Work.{work}
use Rattle.fo_cache.proofs.cache.Cache.take_turns.Given as goal

abbrev pub invariant-loop : goal.invariant-loop
invariant-loop g l = record {
  settles : Settles (g.D.Disk.state l.fn.self.main) (g.D.Disk.state l.self.main) (parts l.fn.self.mind [] 0) (parts l.self.mind [] 0);
  size : g.D.Disk.size l.self.main ≡ g.D.Disk.size l.fn.self.main;
  spent : g.D.Disk.calls l.self.main + work (parts l.self.mind [] 0).turns ≤ g.D.Disk.calls l.fn.self.main + work (parts l.fn.self.mind [] 0).turns;
  makes : Makes (g.D.Disk.state l.fn.self.main) (g.D.Disk.state l.self.main) (g.D.Disk.calls l.fn.self.main) (g.D.Disk.calls l.self.main) (work (parts l.fn.self.mind [] 0).turns) (work (parts l.self.mind [] 0).turns) (turns_of (parts l.fn.self.mind [] 0).turns) (turns_of (parts l.self.mind [] 0).turns);
  later : g.D.Disk.faults l.fn.self.main ≤ g.D.Disk.faults l.self.main;
}

abbrev pub decreases-loop : goal.decreases-loop
decreases-loop g l = work (parts l.self.mind [] 0).turns
