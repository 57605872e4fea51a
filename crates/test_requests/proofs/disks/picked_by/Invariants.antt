use Rattle.fo_disk.specs.Memory.{holds_of}
use Rattle.test_requests.specs.Picks.{Picks}
use Rattle.test_requests.proofs.disks.picked_by.Given as goal

abbrev pub invariant-loop-at : goal.invariant-loop-at
invariant-loop-at l = Picks l.picks (holds_of l.disk)
