use Rattle.compare.proofs.Quieting.{made_quiet}
use Rattle.compare.proofs.disks.picked.Goals as goal

pub returns : goal.returns
returns c = record { quiet = made_quiet _ c.image.result c.image.ensures.holds }
