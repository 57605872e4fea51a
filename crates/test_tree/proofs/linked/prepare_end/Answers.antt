use Rattle.test_tree.specs.Linked.{Ground}
use Rattle.test_tree.proofs.Grounds.{none_looks}
use Rattle.test_tree.proofs.Linking.{linked_looks}
use Rattle.test_tree.proofs.linked.prepare_end.Given as given
use Rattle.test_tree.proofs.linked.prepare_end.Goals as goal

ground_of : (g : given.Over) (b : g.row.B.Denot) → (g.B.Blocks.state b).tells → Ground (g.B.Blocks.state b)
ground_of g b told =
    let s = g.B.Blocks.state b in
    record {
      told = told;
      not_one = (g.met.B.Blocks.active b).1;
      placed = g.met.B.Blocks.placed b s.now (g.met.B.Blocks.present b told);
      one = g.met.B.Blocks.one_place b;
      super_stands = g.met.B.Blocks.super_stands b told;
      labelled = λ y q ne stands. g.met.B.Blocks.labelled b y q told ne stands;
      live = λ y ne r. g.met.B.Blocks.live b y told ne r;
      root_named = g.met.B.Blocks.root_named b told;
      root_block = (g.met.B.Blocks.root_is b).0;
      root_is = (g.met.B.Blocks.root_is b).1 told;
    }

pub returns-in-Err-clause-linked : goal.returns-in-Err-clause-linked
returns-in-Err-clause-linked g c =
    let old = c.args.on.now in
    let new = c.prepare.new.on in
    let e = c.prepare.ensures in
    linked_looks c.args.ways.now c.prepare.new.self (ground_of g new (c.requires.memory new).told) (g.met.B.Blocks.keeps_all old new e.looks.1) (c.requires.memory old).told e.looks.0 (none_looks e.looks.0 c.requires.none) e.same.0 e.same.1 e.same.2 e.over c.requires.linked

pub returns-clause-linked : goal.returns-clause-linked
returns-clause-linked g c =
    let old = c.args.on.now in
    let new = c.prepare.new.on in
    let e = c.prepare.ensures in
    linked_looks c.args.ways.now c.prepare.new.self (ground_of g new (c.requires.memory new).told) (g.met.B.Blocks.keeps_all old new e.looks.1) (c.requires.memory old).told e.looks.0 (none_looks e.looks.0 c.requires.none) e.same.0 e.same.1 e.same.2 e.over c.requires.linked
