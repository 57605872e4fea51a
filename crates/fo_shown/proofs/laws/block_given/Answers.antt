use Rattle.fo_shown.proofs.Showing.{block_shows}
use Rattle.fo_shown.proofs.laws.block_given.Goals as goal

pub returns : goal.returns
returns g c =
    block_shows (g.met.B.Blocks.active c.args.before.now).0 (c.requires.gives.2).images
