use Rattle.test_requests.proofs.Picking.{oldest_picks}
use Rattle.test_requests.proofs.disks.copied.Goals as goal

pub image-requires-clause-count : goal.image-requires-clause-count
image-requires-clause-count c = (oldest_picks c.args.arena.now 16 c.requires).count

pub image-requires-clause-versions : goal.image-requires-clause-versions
image-requires-clause-versions c = (oldest_picks c.args.arena.now 16 c.requires).each
