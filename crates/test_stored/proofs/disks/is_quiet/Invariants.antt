use Rattle.std.proofs.Common.{ℕ, ◌<◌}
use Rattle.fo_disk.specs.Disk.{IsSettled}
use Rattle.fo_disk.specs.Memory.{holds_of}
use Rattle.test_stored.proofs.disks.is_quiet.Given as goal

abbrev pub invariant-loop-at : goal.invariant-loop-at
invariant-loop-at l = (k : ℕ) → k < l.at → IsSettled (holds_of l.disk) k
