use Rattle.test_requests.proofs.Quieting.{synced_quiet}
use Rattle.test_requests.proofs.disks.copy_all.Goals as goal

pub returns : goal.returns
returns c = record { quiet = synced_quiet c.loop-at.to c.sync.new.self c.sync.result c.loop-at.invariant.2 c.sync.ensures.state }
