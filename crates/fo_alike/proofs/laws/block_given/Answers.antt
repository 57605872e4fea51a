use Rattle.fo_alike.proofs.Likes.{block_same}
use Rattle.fo_alike.proofs.laws.block_given.Goals as goal

pub returns : goal.returns
returns g c =
    block_same (g.met.B.Blocks.active c.args.before.now).0 (c.requires.gives.2).images
