use Rattle.std.proofs.Common.{◌/◌, ◌%◌, inl, refl}
use Rattle.fo_tree_own.proofs.Here.{here_own}
use Rattle.fo_tree_own.proofs.below.own_below.Goals as goal

pub returns-then-is_current-clause-step : goal.returns-then-is_current-clause-step
returns-then-is_current-clause-step g c =
    let on = c.args.on.now in
    let s = g.B.Blocks.state on in
    inl (
      refl,
      refl,
      here_own s c.args.tree.now c.args.level (c.args.k / 409) c.args.above (c.args.k % 409) c.args.below
          (record { present = g.met.B.Blocks.present on; active = (g.met.B.Blocks.active on).0; not_one = (g.met.B.Blocks.active on).1; one = g.met.B.Blocks.one_place on; super_stands = g.met.B.Blocks.super_stands on; placed = λ told. g.met.B.Blocks.placed on s.now (g.met.B.Blocks.present on told); ranked = λ told. g.met.B.Blocks.ranked on s.now (g.met.B.Blocks.present on told); live = λ y told ne r. g.met.B.Blocks.live on y told ne r; clears = g.met.B.Blocks.clears_entries on; waits_within = g.met.B.Blocks.waits_within on; covers_told = g.met.B.Blocks.covers_told on; within = g.met.B.Blocks.within on; spelled = g.met.B.Blocks.spelled on; apart_hangs = λ told w is r. g.met.B.Blocks.apart_hangs on s.now 1 w is (g.met.B.Blocks.present on told) (g.met.B.Blocks.active on).0 r; small = g.met.B.Blocks.small on })
          c.requires.above c.requires.leads c.requires.below c.requires.told (c.is_current.ensures.yes c.if-is_current.true),
    )
