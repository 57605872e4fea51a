use Rattle.std.proofs.Common.{◌≡◌, ◌≤◌, length}
use Rattle.fo_disk.specs.Disk.{latest, IsSure}
use Rattle.fo_format.specs.Labels.{HasLabelBlocks}
use Rattle.fo_format.proofs.labels.write_labels.Given as goal

abbrev pub invariant-loop-at : goal.invariant-loop-at
invariant-loop-at g l = record {
  size : g.D.Disk.size l.main ≡ l.blocks;
  long : length l.block ≡ 8192;
  later : g.D.Disk.faults l.fn.main ≤ g.D.Disk.faults l.main;
  labels : HasLabelBlocks l.blocks l.at (latest (g.D.Disk.state l.fn.main).holds) (latest (g.D.Disk.state l.main).holds);
  sure : IsSure (g.D.Disk.state l.fn.main) → IsSure (g.D.Disk.state l.main);
}
