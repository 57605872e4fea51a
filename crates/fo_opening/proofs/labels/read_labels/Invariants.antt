use Rattle.std.proofs.Common.{◌≡◌, ◌≤◌}
use Rattle.fo_opening.specs.Opens.{HasTable, IsTable}
use Rattle.fo_opening.proofs.labels.read_labels.Given as goal

abbrev pub invariant-loop-n : goal.invariant-loop-n
invariant-loop-n g l = record {
  table : IsTable l.count l.labels;
  has : HasTable (g.D.Disk.state l.fn.main).holds l.n l.labels;
  size : g.D.Disk.size l.main ≡ g.D.Disk.size l.fn.main;
  state : g.D.Disk.state l.main ≡ g.D.Disk.state l.fn.main;
  later : g.D.Disk.faults l.fn.main ≤ g.D.Disk.faults l.main;
}
