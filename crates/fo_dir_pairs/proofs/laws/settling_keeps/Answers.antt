use Rattle.fo_dir_pairs.proofs.Settled.{lazily, settled_stand}
use Rattle.fo_dir_pairs.proofs.laws.settling_keeps.Goals as goal

pub returns : goal.returns
returns g c =
    let after = c.args.after.now in
    let t = g.B.Blocks.state after in
    lazily t (λ image is. settled_stand t c.requires.settled (c.requires.stand.each t.now (c.requires.images.each t.now (g.met.B.Blocks.present after (g.met.B.Blocks.told after image is)))))
