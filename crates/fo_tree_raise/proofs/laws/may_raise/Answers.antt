use Rattle.fo_tree_down.proofs.of_tree_own.Link.{Laws}
use Rattle.fo_tree_raise.proofs.Standing.{can_raise}
use Rattle.fo_tree_raise.proofs.laws.may_raise.Goals as goal

pub returns : goal.returns
returns g c =
    let b = c.args.on.now in
    let s = g.B.Blocks.state b in
    let laws : Laws s = record { present = g.met.B.Blocks.present b; active = (g.met.B.Blocks.active b).0; not_one = (g.met.B.Blocks.active b).1; one = g.met.B.Blocks.one_place b; super_stands = g.met.B.Blocks.super_stands b; placed = λ told. g.met.B.Blocks.placed b s.now (g.met.B.Blocks.present b told); ranked = λ told. g.met.B.Blocks.ranked b s.now (g.met.B.Blocks.present b told); live = λ y told ne r. g.met.B.Blocks.live b y told ne r; clears = g.met.B.Blocks.clears_entries b; waits_within = g.met.B.Blocks.waits_within b; covers_told = g.met.B.Blocks.covers_told b; within = g.met.B.Blocks.within b; spelled = g.met.B.Blocks.spelled b; apart_hangs = λ told w is r. g.met.B.Blocks.apart_hangs b s.now 1 w is (g.met.B.Blocks.present b told) (g.met.B.Blocks.active b).0 r; small = g.met.B.Blocks.small b } in
    can_raise laws (λ told. g.met.B.Blocks.few b s.now (g.met.B.Blocks.present b told)) c.requires.over.1 c.requires.current c.requires.linked
