use Rattle.fo_dir_pairs.proofs.Finding.{HasWays}
use Rattle.fo_dir_pairs.proofs.Flushed.{flushed_stand}
use Rattle.fo_dir_pairs.proofs.Settled.{lazily}
use Rattle.fo_dir_pairs.proofs.laws.waiting_cleared.Given as given
use Rattle.fo_dir_pairs.proofs.laws.waiting_cleared.Goals as goal

ways : (g : given.Over) (b : _) → (g.B.Blocks.state b).tells → HasWays (g.B.Blocks.state b)
ways g b told = record {
  top = (g.met.B.Blocks.active b).0;
  one_spot = g.met.B.Blocks.one_spot b;
  present = g.met.B.Blocks.present b told;
  super_at = g.met.B.Blocks.super_stands b told;
  placed = λ image is. g.met.B.Blocks.placed b image is;
  few = λ image is. g.met.B.Blocks.few b image is;
}

pub returns : goal.returns
returns g c =
    let before = c.args.before.now in
    let after = c.args.after.now in
    let t = g.B.Blocks.state after in
    lazily t (λ image is.
    let told = g.met.B.Blocks.told before image (c.requires.images.each image is) in
    flushed_stand (g.B.Blocks.state before) t (c.requires.clears told) (ways g before told) (ways g after (g.met.B.Blocks.told after image is)) c.requires.stand)
