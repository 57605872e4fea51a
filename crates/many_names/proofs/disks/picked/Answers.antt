use Rattle.many_names.proofs.Picking.{oldest_of}
use Rattle.many_names.proofs.Quieting.{made_quiet}
use Rattle.many_names.proofs.disks.picked.Goals as goal

pub image-requires-clause-count : goal.image-requires-clause-count
image-requires-clause-count c = (oldest_of c.args.disk.now c.args.blocks c.args.picks.now c.requires.picks c.requires.count).count

pub image-requires-clause-versions : goal.image-requires-clause-versions
image-requires-clause-versions c = (oldest_of c.args.disk.now c.args.blocks c.args.picks.now c.requires.picks c.requires.count).each

pub returns : goal.returns
returns c = record { quiet = made_quiet _ c.image.result c.image.ensures.holds }
