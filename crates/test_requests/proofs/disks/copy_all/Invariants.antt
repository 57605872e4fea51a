use Rattle.std.proofs.Common.{◌≡◌, length}
use Rattle.fo_disk.specs.Disk.{IsSure}
use Rattle.fo_disk.specs.Memory.{state_of}
use Rattle.test_requests.proofs.disks.copy_all.Given as goal

abbrev pub invariant-loop-at : goal.invariant-loop-at
invariant-loop-at l = (length l.from.cells.items ≡ 64) × (length l.to.cells.items ≡ 64) × IsSure (state_of l.to)
