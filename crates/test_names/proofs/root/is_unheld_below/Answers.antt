use Rattle.std.proofs.Common.{◌≡◌, ◌+◌, ◌∙◌, sym, ap, subst}
use Rattle.fo_crash.specs.declared.slot.Slot.TheVariants.{Entry as Head}
use Rattle.fo_crash.specs.Images.{target}
use Rattle.test_names.specs.Parts.{slot_of}
use Rattle.test_names.proofs.Opening.{top_place_is}
use Rattle.test_names.specs.Root.{IsInMemory}
use Rattle.test_names.proofs.Ground.{Ground}
use Rattle.test_names.proofs.root.is_unheld_below.Given as given
use Rattle.test_names.proofs.root.is_unheld_below.Goals as goal

ground_of : (g : given.Over) (b : g.row.B.Denot) → IsInMemory (g.B.Blocks.state b) → Ground (g.B.Blocks.state b)
ground_of g b memory =
    let s = g.B.Blocks.state b in
    let told = memory.told in
    record {
      told = told;
      active = (g.met.B.Blocks.active b).0;
      not_one = (g.met.B.Blocks.active b).1;
      placed = g.met.B.Blocks.placed b s.now (g.met.B.Blocks.present b told);
      ranked = g.met.B.Blocks.ranked b s.now (g.met.B.Blocks.present b told);
      one = g.met.B.Blocks.one_place b;
      super_stands = g.met.B.Blocks.super_stands b told;
      labelled = λ y q ne stands. g.met.B.Blocks.labelled b y q told ne stands;
      live = λ y ne r. g.met.B.Blocks.live b y told ne r;
      root_named = g.met.B.Blocks.root_named b told;
      root_block = (g.met.B.Blocks.root_is b).0;
      root_is = (g.met.B.Blocks.root_is b).1 told;
    }

pub get-requires-clause-block : goal.get-requires-clause-block
get-requires-clause-block g c = g.met.B.Blocks.within c.args.on.now c.args.root (slot_of c.args.part) c.args.top c.requires.root.1 (ap target c.requires.entry ∙ c.requires.top.0)

pub get-requires-clause-place : goal.get-requires-clause-place
get-requires-clause-place g c = λ told q stands.
    let on = c.args.on.now in
    let s = g.B.Blocks.state on in
    let slot = subst (λ b. (s.now b).slot (slot_of c.args.part) ≡ Head c.args.entry.now) c.requires.root.0 c.requires.entry in
    let place = top_place_is (ground_of g on (c.requires.memory on)) c.args.part c.args.entry.now c.args.top slot c.requires.dir c.requires.top.0 c.requires.top.1 q stands in
    (place.0 ∙ sym c.kind.ensures, place.1 ∙ ap (λ n. n + 1) (sym c.rank.ensures))
