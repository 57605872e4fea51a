use Rattle.fo_dir_pairs.proofs.Like.{stand_like}
use Rattle.fo_dir_pairs.proofs.Settled.{lazily}
use Rattle.fo_dir_pairs.proofs.laws.stands_alike.Goals as goal

pub returns : goal.returns
returns g c =
    let s = g.B.Blocks.state c.args.before.now in
    let t = g.B.Blocks.state c.args.after.now in
    lazily t (λ image is. let h = c.requires.images.each image is in stand_like s t c.requires.images.each (c.requires.now (g.met.B.Blocks.told c.args.before.now h.0 h.1)) c.requires.stand)
