use Rattle.std.proofs.Common.{◌≡◌, ◌+◌, ◌*◌, ◌≤◌, List, length}
use Rattle.fo_disk.specs.Disk.{Block}
use Rattle.fo_sound.specs.Device.{Shows}
use Rattle.fo_check_labels.specs.Known.{IsBelow, IsFew}
use Rattle.fo_check_labels.specs.Table.{IsScanned}
use Rattle.fo_check_labels.proofs.labels.Labels.read.Given as goal

abbrev pub invariant-loop-n : goal.invariant-loop-n
invariant-loop-n g l = record {
  size : g.D.Reads.size l.main ≡ l.blocks;
  kept : g.D.Reads.state l.main ≡ g.D.Reads.state l.fn.main;
  later : g.D.Reads.faults l.fn.main ≤ g.D.Reads.faults l.main;
  long : length l.block ≡ 8192;
  below : IsBelow (585 * l.n) l.labels.known.items;
  few : IsFew l.blocks (585 * l.n) l.labels.known.items;
  once : g.D.Reads.reads l.main ≤ g.D.Reads.reads l.fn.main + 1;
  unread : 2 + l.n ≤ g.D.Reads.watched → g.D.Reads.reads l.main ≤ g.D.Reads.reads l.fn.main;
  reads : g.D.Reads.calls l.main ≤ g.D.Reads.calls l.fn.main + l.n;
  table : (image : List Block) → length image ≡ l.blocks → Shows (g.D.Reads.state l.fn.main).holds image → IsScanned image l.n (585 * l.n) l.labels.known.items;
}
