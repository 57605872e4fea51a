use Rattle.fo_dir_pairs.proofs.Puts.{free_unshown}
use Rattle.fo_dir_pairs.proofs.laws.unused_pairs.Goals as goal

pub returns : goal.returns
returns g c = λ image x r is shows found pair.
    let on = c.args.on.now in
    let told = g.met.B.Blocks.told on image is in
    free_unshown {s = g.B.Blocks.state on}
    (record {
      top = (g.met.B.Blocks.active on).0;
      one_spot = g.met.B.Blocks.one_spot on;
      present = g.met.B.Blocks.present on told;
      super_at = g.met.B.Blocks.super_stands on told;
      placed = λ y here. g.met.B.Blocks.placed on y here;
      few = λ y here. g.met.B.Blocks.few on y here;
    })
    c.requires.stand (c.requires.named told).each c.requires.unused is shows found pair
