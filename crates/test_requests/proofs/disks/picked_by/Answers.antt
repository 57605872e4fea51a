use Rattle.test_requests.proofs.Picking.{oldest_picks}
use Rattle.test_requests.proofs.Quieting.{made_quiet}
use Rattle.test_requests.proofs.disks.picked_by.Goals as goal

pub loop-at-init : goal.loop-at-init
loop-at-init c = oldest_picks c.args.disk.now 64 c.requires.count

pub returns : goal.returns
returns c = record { quiet = made_quiet _ c.image.result c.image.ensures.holds }
