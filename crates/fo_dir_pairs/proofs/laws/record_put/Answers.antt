use Rattle.fo_dir_pairs.proofs.Waited.{waited_stand}
use Rattle.fo_dir_pairs.proofs.laws.record_put.Goals as goal

pub returns : goal.returns
returns g c =
    let before = c.args.before.now in
    let s = g.B.Blocks.state before in
    waited_stand s (g.B.Blocks.state c.args.after.now) c.args.leaf c.args.entries c.args.bytes.now c.requires.images c.requires.puts c.requires.pairs c.requires.stand
    (λ image is. let told = g.met.B.Blocks.told before image is in record {
      ways = record {
        top = (g.met.B.Blocks.active before).0;
        one_spot = g.met.B.Blocks.one_spot before;
        present = g.met.B.Blocks.present before told;
        super_at = g.met.B.Blocks.super_stands before told;
        placed = λ x here. g.met.B.Blocks.placed before x here;
        few = λ x here. g.met.B.Blocks.few before x here;
      };
      linked = (c.requires.lower told).leaf_linked;
      hangs = λ x here. g.met.B.Blocks.in_place before c.args.entries (c.requires.lower told).entries_sealed (c.requires.spared told) (c.requires.lower told).entries_linked x here;
    })
