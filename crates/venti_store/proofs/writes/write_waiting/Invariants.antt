use Rattle.std.proofs.Common.{◌≡◌, ◌+◌, ◌≤◌}
use Rattle.venti_store.specs.Kept.{waits}
use Rattle.venti_store.specs.Settling.{Run, Goes, WroteBytes, Waits}
use Rattle.venti_store.proofs.writes.write_waiting.Given as goal

abbrev pub invariant-loop-i : goal.invariant-loop-i
invariant-loop-i g l = record {
  size : g.A.Disk.size l.device ≡ g.A.Disk.size l.fn.device;
  later : g.A.Disk.faults l.fn.device ≤ g.A.Disk.faults l.device;
  calls : g.A.Disk.calls l.device ≤ g.A.Disk.calls l.fn.device + l.i;
  goes : (run : Run) → run.size ≡ g.A.Disk.size l.fn.device → run.settled ≡ l.first → Waits run (waits l.pending) → Goes run (g.A.Disk.state l.fn.device)
      → Goes run (g.A.Disk.state l.device);
  wrote : (run : Run) → run.size ≡ g.A.Disk.size l.fn.device → run.settled ≡ l.first → Waits run (waits l.pending) → Goes run (g.A.Disk.state l.fn.device)
      → WroteBytes run (run.settled + l.i) (g.A.Disk.state l.device);
}
