use Rattle.std.proofs.Common.{IfSome, subst}
use Rattle.test_names.specs.Root.{IsSource}
use Rattle.test_names.proofs.Opening.{source_looks}
use Rattle.test_names.specs.Root.{IsInMemory}
use Rattle.test_names.proofs.Ground.{Ground, none_looks}
use Rattle.test_names.proofs.own.own_leaf.Given as given
use Rattle.test_names.proofs.own.own_leaf.Goals as goal

ground_of : (g : given.Over) (b : g.row.B.Denot) → IsInMemory (g.B.Blocks.state b) → Ground (g.B.Blocks.state b)
ground_of g b memory =
    let s = g.B.Blocks.state b in
    let told = memory.told in
    record {
      told = told;
      active = (g.met.B.Blocks.active b).0;
      not_one = (g.met.B.Blocks.active b).1;
      placed = g.met.B.Blocks.placed b s.now (g.met.B.Blocks.present b told);
      ranked = g.met.B.Blocks.ranked b s.now (g.met.B.Blocks.present b told);
      one = g.met.B.Blocks.one_place b;
      super_stands = g.met.B.Blocks.super_stands b told;
      labelled = λ y q ne stands. g.met.B.Blocks.labelled b y q told ne stands;
      live = λ y ne r. g.met.B.Blocks.live b y told ne r;
      root_named = g.met.B.Blocks.root_named b told;
      root_block = (g.met.B.Blocks.root_is b).0;
      root_is = (g.met.B.Blocks.root_is b).1 told;
    }

pub own_linked-requires-clause-source : goal.own_linked-requires-clause-source
own_linked-requires-clause-source g c =
    let mid = c.opened.new.on in
    let end = c.is_ready.new.on in
    let e = c.is_ready.ensures in
    let was = subst (λ o. IfSome o (IsSource (g.B.Blocks.state mid) c.args.part)) c.in-Some.is c.in_ok-source.ensures.source in
    source_looks c.args.part c.in-Some.source c.is_ready.new.source (ground_of g end (c.requires.memory end)) (g.met.B.Blocks.keeps_all mid end e.keeps) (c.requires.memory mid).told e.looks (none_looks e.looks c.in_ok-source.ensures.none) e.same e.over was
