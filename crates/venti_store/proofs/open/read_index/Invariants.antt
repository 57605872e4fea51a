use Rattle.std.proofs.Common.{◌+◌, ◌≡◌, ◌*◌, ◌≤◌, List, length, min}
use Rattle.fo_disk.specs.Disk.{Block}
use Rattle.fo_sound.specs.Device.{Shows}
use Rattle.venti_store.specs.Opening.{ReadLines}
use Rattle.venti_store.proofs.open.read_index.Given as goal

abbrev pub invariant-loop-group : goal.invariant-loop-group
invariant-loop-group g l = record {
  size : g.A.Disk.size l.device ≡ g.A.Disk.size l.fn.device;
  kept : g.A.Disk.state l.device ≡ g.A.Disk.state l.fn.device;
  calls : g.A.Disk.calls l.device ≤ g.A.Disk.calls l.fn.device + l.group;
  later : g.A.Disk.faults l.fn.device ≤ g.A.Disk.faults l.device;
  long : length l.block ≡ 8192;
  count : length l.index.lines.items ≡ min l.used (341 * l.group);
  lines : (vault : List Block) → Shows (g.A.Disk.state l.fn.device).holds vault → ReadLines (min l.used (341 * l.group)) l.index.lines.items vault;
}
