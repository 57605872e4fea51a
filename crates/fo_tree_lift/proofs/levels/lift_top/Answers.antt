use Rattle.std.proofs.Common.{inl, inr, ⊎_elim}
use Rattle.fo_tree_grow.proofs.of_tree_own.Link.{Laws}
use Rattle.fo_tree_grow.proofs.of_tree_raise.Standing.{can_raise}
use Rattle.fo_tree_grow.proofs.of_tree_raise.Bearing.{bears}
use Rattle.fo_tree_lift.proofs.Lifting.{new_top}
use Rattle.fo_tree_lift.proofs.levels.lift_top.Goals as goal

pub raise_levels-requires-clause-top : goal.raise_levels-requires-clause-top
raise_levels-requires-clause-top g c =
    let b = c.args.on.now in
    let s = g.B.Blocks.state b in
    let laws : Laws s = record { present = g.met.B.Blocks.present b; active = (g.met.B.Blocks.active b).0; not_one = (g.met.B.Blocks.active b).1; one = g.met.B.Blocks.one_place b; super_stands = g.met.B.Blocks.super_stands b; placed = λ told. g.met.B.Blocks.placed b s.now (g.met.B.Blocks.present b told); ranked = λ told. g.met.B.Blocks.ranked b s.now (g.met.B.Blocks.present b told); live = λ y told ne r. g.met.B.Blocks.live b y told ne r; clears = g.met.B.Blocks.clears_entries b; waits_within = g.met.B.Blocks.waits_within b; covers_told = g.met.B.Blocks.covers_told b; within = g.met.B.Blocks.within b; spelled = g.met.B.Blocks.spelled b; apart_hangs = λ told w is r. g.met.B.Blocks.apart_hangs b s.now 1 w is (g.met.B.Blocks.present b told) (g.met.B.Blocks.active b).0 r; small = g.met.B.Blocks.small b } in
    can_raise laws (λ told. g.met.B.Blocks.few b s.now (g.met.B.Blocks.present b told)) c.requires.over.1 c.requires.current c.requires.linked

pub raise_levels-requires-clause-low : goal.raise_levels-requires-clause-low
raise_levels-requires-clause-low g c = c.requires.over.1.hangs.low

pub returns-clause-lifts : goal.returns-clause-lifts
returns-clause-lifts g c =
    let e = c.raise_levels.ensures in
    let kept = c.args.kept.now in
    let over = c.requires.over.1 in
    let some = c.requires.some.0 in
    record {
      adds = e.adds;
      new = new_top c.requires.some.1 e.top;
      instead = λ b y made h. let was = e.instead b y made h in (was.0, was.1, ⊎_elim (λ own. inl (own.0, inl own.1)) (λ old. inr old) was.2);
      comes = e.comes;
      only = e.only;
      bears = e.bears kept some (bears over);
      still = λ limit o n was. e.still kept limit o n over.hangs.room was;
      clear = e.clear kept some over.hangs.room c.requires.clear;
      ways = e.ways kept;
      owns = λ told b. let both = e.owns told kept some (bears over) b in (both.0, λ made. both.1 (inl made));
      stays = λ told b has current. (e.owns told kept some (bears over) b).1 (inr has);
      leaves = λ told k few. inl (e.leaves told kept some (bears over) k few);
    }
