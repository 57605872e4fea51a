use Rattle.fo_mind.specs.MindParts.{parts}
use Rattle.fo_cache.proofs.Outcomes.{quiet_is_memory}
use Rattle.fo_cache.proofs.cache.Cache.quiet_is_memory.Goals as goal

pub returns : goal.returns
returns g c = let self = c.args.self.now in quiet_is_memory {p = parts self.mind (g.D.Disk.state self.main).holds 0} self.mind.turning self.fits
