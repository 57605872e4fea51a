use Rattle.std.proofs.Common.{◌∙◌, sym, ap, arith}
use Rattle.fo_image.specs.declared.types.Label.{Label}
use Rattle.std.proofs.lemmas.Bool.{eqb-true}
use Rattle.test_names.proofs.Leaves.{leaf_place, leaf_got}
use Rattle.test_names.specs.Root.{IsInMemory}
use Rattle.test_names.proofs.Ground.{Ground}
use Rattle.test_names.proofs.leaf.is_current.Given as given
use Rattle.test_names.proofs.leaf.is_current.Goals as goal

ground_of : (g : given.Over) (b : g.row.B.Denot) → IsInMemory (g.B.Blocks.state b) → Ground (g.B.Blocks.state b)
ground_of g b memory =
    let s = g.B.Blocks.state b in
    let told = memory.told in
    record {
      told = told;
      active = (g.met.B.Blocks.active b).0;
      not_one = (g.met.B.Blocks.active b).1;
      placed = g.met.B.Blocks.placed b s.now (g.met.B.Blocks.present b told);
      ranked = g.met.B.Blocks.ranked b s.now (g.met.B.Blocks.present b told);
      one = g.met.B.Blocks.one_place b;
      super_stands = g.met.B.Blocks.super_stands b told;
      labelled = λ y q ne stands. g.met.B.Blocks.labelled b y q told ne stands;
      live = λ y ne r. g.met.B.Blocks.live b y told ne r;
      root_named = g.met.B.Blocks.root_named b told;
      root_block = (g.met.B.Blocks.root_is b).0;
      root_is = (g.met.B.Blocks.root_is b).1 told;
    }

pub get-requires-clause-place : goal.get-requires-clause-place
get-requires-clause-place g c = λ told q stands.
    let on = c.args.on.now in
    let place = leaf_place (ground_of g on (c.requires.memory on)) c.args.part c.args.source.now c.requires.source c.args.i c.args.at c.requires.leaf q stands in
    (place.0 ∙ sym c.kind.ensures, place.1 ∙ sym c.rank.ensures)

pub returns-in-Ok-clause-leaf : goal.returns-in-Ok-clause-leaf
returns-in-Ok-clause-leaf g c = λ same.
    let on = c.args.on.now in
    let end = c.get.new.self in
    let s = g.B.Blocks.state on in
    let u = g.B.Blocks.state end in
    let memory = c.requires.memory end in
    let pins = (c.requires.memory on).pins in
    leaf_got {s = s} {u = u} {p = c.args.part} {x = c.args.source.now} {i = c.args.i} {at = c.args.at} (record {
      ground = ground_of g on (c.requires.memory on);
      later = ground_of g end memory;
      all = g.met.B.Blocks.keeps_all on end c.in-Ok.ensures.keeps;
      is = c.requires.source;
      here = c.requires.leaf;
      block = c.requires.block;
      looks = c.in-Ok.ensures.looks;
      pins = c.in-Ok.ensures.pinned (omega (arith, pins));
      formed = λ t b q top ne r stands. g.met.B.Blocks.formed end u.now t b q (g.met.B.Blocks.present end memory.told) top ne r stands;
    }) (ap (λ (l : Label). l.epoch) (sym c.label.ensures) ∙ eqb-true c.label.result.epoch c.high.result same ∙ c.high.ensures)
