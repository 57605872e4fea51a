use Rattle.std.proofs.Common.{◌≡◌, ◌+◌, ◌*◌, ◌/◌, ◌≤◌, length}
use Rattle.venti_store.specs.Settling.{Run, Goes, WroteBytes, WroteLines}
use Rattle.venti_store.proofs.writes.write_lines.Given as goal

abbrev pub invariant-loop-group : goal.invariant-loop-group
invariant-loop-group g l = record {
  size : g.A.Disk.size l.device ≡ g.A.Disk.size l.fn.device;
  later : g.A.Disk.faults l.fn.device ≤ g.A.Disk.faults l.device;
  calls : g.A.Disk.calls l.device + l.fn.first / 341 ≤ g.A.Disk.calls l.fn.device + l.group;
  goes : (run : Run) → run.size ≡ g.A.Disk.size l.fn.device → run.settled ≡ l.fn.first → run.lines ≡ l.lines → Goes run (g.A.Disk.state l.fn.device)
      → Goes run (g.A.Disk.state l.device);
  wrote : (run : Run) → run.size ≡ g.A.Disk.size l.fn.device → run.settled ≡ l.fn.first → run.lines ≡ l.lines → Goes run (g.A.Disk.state l.fn.device)
      → WroteLines run (341 * l.group) (g.A.Disk.state l.device);
  bytes : (run : Run) → WroteBytes run (length run.lines) (g.A.Disk.state l.fn.device) → WroteBytes run (length run.lines) (g.A.Disk.state l.device);
}
