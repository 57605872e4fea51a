use Rattle.fo_dir_pairs.proofs.Settled.{lazily, still_stand}
use Rattle.fo_dir_pairs.proofs.laws.none_added.Goals as goal

pub returns : goal.returns
returns g c =
    let s = g.B.Blocks.state c.args.before.now in
    let t = g.B.Blocks.state c.args.after.now in
    lazily t (λ image is. still_stand s t c.requires.images (c.requires.now (g.met.B.Blocks.told c.args.before.now image (c.requires.images.each image is))) c.requires.stand)
