use Rattle.std.proofs.Common.{subst}
use Rattle.test_names.specs.Root.{IsInMemory}
use Rattle.test_names.proofs.Ground.{Ground, root_place_is}
use Rattle.test_names.proofs.root.pinned_root.Given as given
use Rattle.test_names.proofs.root.pinned_root.Goals as goal

ground_of : (g : given.Over) (b : g.row.B.Denot) → IsInMemory (g.B.Blocks.state b) → Ground (g.B.Blocks.state b)
ground_of g b memory =
    let s = g.B.Blocks.state b in
    let told = memory.told in
    record {
      told = told;
      active = (g.met.B.Blocks.active b).0;
      not_one = (g.met.B.Blocks.active b).1;
      placed = g.met.B.Blocks.placed b s.now (g.met.B.Blocks.present b told);
      ranked = g.met.B.Blocks.ranked b s.now (g.met.B.Blocks.present b told);
      one = g.met.B.Blocks.one_place b;
      super_stands = g.met.B.Blocks.super_stands b told;
      labelled = λ y q ne stands. g.met.B.Blocks.labelled b y q told ne stands;
      live = λ y ne r. g.met.B.Blocks.live b y told ne r;
      root_named = g.met.B.Blocks.root_named b told;
      root_block = (g.met.B.Blocks.root_is b).0;
      root_is = (g.met.B.Blocks.root_is b).1 told;
    }

pub get-requires-clause-place : goal.get-requires-clause-place
get-requires-clause-place g c = λ told p stands. root_place_is (ground_of g c.args.on.now (c.requires.memory c.args.on.now)) p (subst (λ b. (g.B.Blocks.state c.args.on.now).stands b p) c.root-root.ensures stands)
