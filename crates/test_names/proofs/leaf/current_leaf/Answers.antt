use Rattle.std.proofs.Common.{refl}
use Rattle.fo_looks.proofs.Looks.{looks_joins}
use Rattle.test_names.proofs.Opening.{source_looks}
use Rattle.test_names.specs.Root.{IsInMemory}
use Rattle.test_names.proofs.Ground.{Ground, none_looks}
use Rattle.test_names.proofs.leaf.current_leaf.Given as given
use Rattle.test_names.proofs.leaf.current_leaf.Goals as goal

ground_of : (g : given.Over) (b : g.row.B.Denot) → IsInMemory (g.B.Blocks.state b) → Ground (g.B.Blocks.state b)
ground_of g b memory =
    let s = g.B.Blocks.state b in
    let told = memory.told in
    record {
      told = told;
      active = (g.met.B.Blocks.active b).0;
      not_one = (g.met.B.Blocks.active b).1;
      placed = g.met.B.Blocks.placed b s.now (g.met.B.Blocks.present b told);
      ranked = g.met.B.Blocks.ranked b s.now (g.met.B.Blocks.present b told);
      one = g.met.B.Blocks.one_place b;
      super_stands = g.met.B.Blocks.super_stands b told;
      labelled = λ y q ne stands. g.met.B.Blocks.labelled b y q told ne stands;
      live = λ y ne r. g.met.B.Blocks.live b y told ne r;
      root_named = g.met.B.Blocks.root_named b told;
      root_block = (g.met.B.Blocks.root_is b).0;
      root_is = (g.met.B.Blocks.root_is b).1 told;
    }

pub is_current-requires-clause-source : goal.is_current-requires-clause-source
is_current-requires-clause-source g c =
    let on = c.args.on.now in
    let mid = c.leaf.new.on in
    let looks = c.leaf.ensures.looks in
    let comes = none_looks looks.0 c.requires.none in
    source_looks c.args.part c.args.source.now c.args.source.now (ground_of g mid (c.requires.memory mid)) (g.met.B.Blocks.keeps_all on mid looks.1) (c.requires.memory on).told looks.0 comes (record { tree = refl; generation = refl; limit = refl }) c.leaf.ensures.over c.requires.source

pub returns-in_err-is_current-clause-looks : goal.returns-in_err-is_current-clause-looks
returns-in_err-is_current-clause-looks g c = looks_joins (g.met.B.Blocks.keeps_all c.args.on.now c.leaf.new.on c.leaf.ensures.looks.1) c.leaf.ensures.looks.0 c.is_current.ensures.looks

pub returns-then-not-branch-clause-looks : goal.returns-then-not-branch-clause-looks
returns-then-not-branch-clause-looks g c = looks_joins (g.met.B.Blocks.keeps_all c.args.on.now c.leaf.new.on c.leaf.ensures.looks.1) c.leaf.ensures.looks.0 c.is_current.ensures.looks

pub returns-clause-looks : goal.returns-clause-looks
returns-clause-looks g c = looks_joins (g.met.B.Blocks.keeps_all c.args.on.now c.leaf.new.on c.leaf.ensures.looks.1) c.leaf.ensures.looks.0 c.is_current.ensures.looks
