use Rattle.std.proofs.Common.{◌≡◌, false, replicate, take}
use Rattle.fo_disk.specs.Memory.{cells_of, holds_of, picked}
use Rattle.fo_disk.proofs.Cells.{ones}
use Rattle.fo_disk.proofs.memory.MemDisk.image.Given as goal

abbrev pub invariant-loop-i : goal.invariant-loop-i
invariant-loop-i l = record {
  cells : cells_of l.cells.items ≡ ones (picked (take l.i l.picks) (holds_of l.self));
  unsure : l.unsure.items ≡ replicate l.i false;
}
