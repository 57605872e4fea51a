use Rattle.std.proofs.Common.{◌≡◌, length}
use Rattle.fo_disk.specs.Memory.{holds_of}
use Rattle.compare.specs.Picks.{Picks}
use Rattle.compare.proofs.disks.pick_all.Given as goal

abbrev pub invariant-loop-at : goal.invariant-loop-at
invariant-loop-at l = (length l.picks.items ≡ l.at) × Picks l.picks.items (holds_of l.main)
