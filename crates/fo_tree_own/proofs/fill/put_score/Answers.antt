use Rattle.std.proofs.Common.{arith}
use Rattle.fo_tree_own.proofs.Filling.{Scoring, score_spelled, score_cost, score_dropped, may_score, filled_score, bare_score}
use Rattle.fo_tree_own.proofs.fill.put_score.Goals as goal

pub put_slot-requires-clause-pinned : goal.put_slot-requires-clause-pinned
put_slot-requires-clause-pinned g c =
    c.requires.bare.2.is_pinned

pub put_slot-requires-clause-current : goal.put_slot-requires-clause-current
put_slot-requires-clause-current g c =
    c.requires.bare.2.current

pub put_slot-requires-clause-spelled : goal.put_slot-requires-clause-spelled
put_slot-requires-clause-spelled g c =
    let on = c.args.on.now in
    let m = g.B.Blocks.state on in
    let x : Scoring c.requires.bare.0 c.args.at c.args.i c.args.pointer m = record {
      is = c.requires.bare.2;
      inner = c.requires.bare.1;
      few = c.requires.slot;
      holds = c.requires.holds;
      none = c.requires.none;
      spelled = λ j lt. g.met.B.Blocks.spelled on c.args.at j c.requires.bare.2.is_pinned lt;
    } in
    score_spelled x

pub put_slot-requires-clause-settled : goal.put_slot-requires-clause-settled
put_slot-requires-clause-settled g c =
    c.requires.bare.2.still c.args.i

pub put_slot-requires-clause-same_use : goal.put_slot-requires-clause-same_use
put_slot-requires-clause-same_use g c =
    λ a w. absurd (c.requires.bare.2.unwaited a c.args.i w)

pub put_slot-requires-clause-leads : goal.put_slot-requires-clause-leads
put_slot-requires-clause-leads g c =
    λ b e. absurd (c.requires.none b e)

pub put_slot-requires-clause-may : goal.put_slot-requires-clause-may
put_slot-requires-clause-may g c =
    let on = c.args.on.now in
    let m = g.B.Blocks.state on in
    let x : Scoring c.requires.bare.0 c.args.at c.args.i c.args.pointer m = record {
      is = c.requires.bare.2;
      inner = c.requires.bare.1;
      few = c.requires.slot;
      holds = c.requires.holds;
      none = c.requires.none;
      spelled = λ j lt. g.met.B.Blocks.spelled on c.args.at j c.requires.bare.2.is_pinned lt;
    } in
    λ told. may_score x

pub put_slot-requires-clause-room : goal.put_slot-requires-clause-room
put_slot-requires-clause-room g c =
    let on = c.args.on.now in
    let m = g.B.Blocks.state on in
    let x : Scoring c.requires.bare.0 c.args.at c.args.i c.args.pointer m = record {
      is = c.requires.bare.2;
      inner = c.requires.bare.1;
      few = c.requires.slot;
      holds = c.requires.holds;
      none = c.requires.none;
      spelled = λ j lt. g.met.B.Blocks.spelled on c.args.at j c.requires.bare.2.is_pinned lt;
    } in
    let none = score_cost x in omega (arith, none)

pub put_slot-requires-clause-tops : goal.put_slot-requires-clause-tops
put_slot-requires-clause-tops g c =
    let on = c.args.on.now in
    let m = g.B.Blocks.state on in
    let x : Scoring c.requires.bare.0 c.args.at c.args.i c.args.pointer m = record {
      is = c.requires.bare.2;
      inner = c.requires.bare.1;
      few = c.requires.slot;
      holds = c.requires.holds;
      none = c.requires.none;
      spelled = λ j lt. g.met.B.Blocks.spelled on c.args.at j c.requires.bare.2.is_pinned lt;
    } in
    λ n b lt h. let none = score_dropped x in absurd (omega (arith, lt, none))

pub returns-clause-filled : goal.returns-clause-filled
returns-clause-filled g c =
    let on = c.args.on.now in
    let m = g.B.Blocks.state on in
    let x : Scoring c.requires.bare.0 c.args.at c.args.i c.args.pointer m = record {
      is = c.requires.bare.2;
      inner = c.requires.bare.1;
      few = c.requires.slot;
      holds = c.requires.holds;
      none = c.requires.none;
      spelled = λ j lt. g.met.B.Blocks.spelled on c.args.at j c.requires.bare.2.is_pinned lt;
    } in
    let end = c.put_slot.new.self in
    let u = g.B.Blocks.state end in
    let p = c.put_slot.ensures in
    let cost = score_cost x in
    filled_score {m = m} {u = u} (record {
      scoring = x;
      no_cost = cost;
      puts = p.now;
      images = p.images;
      frame = p.frame;
      hangs = p.hangs;
      order = p.order;
      no_wait = p.no_wait;
      covers = p.covers;
      all = g.met.B.Blocks.keeps_all on end p.keeps;
      told = g.met.B.Blocks.covers_told on;
      told_new = g.met.B.Blocks.covers_told end;
    })

pub returns-clause-bare : goal.returns-clause-bare
returns-clause-bare g c =
    let on = c.args.on.now in
    let m = g.B.Blocks.state on in
    let x : Scoring c.requires.bare.0 c.args.at c.args.i c.args.pointer m = record {
      is = c.requires.bare.2;
      inner = c.requires.bare.1;
      few = c.requires.slot;
      holds = c.requires.holds;
      none = c.requires.none;
      spelled = λ j lt. g.met.B.Blocks.spelled on c.args.at j c.requires.bare.2.is_pinned lt;
    } in
    let end = c.put_slot.new.self in
    let u = g.B.Blocks.state end in
    let p = c.put_slot.ensures in
    let cost = score_cost x in
    bare_score {m = m} {u = u} (record {
      scoring = x;
      no_cost = cost;
      puts = p.now;
      images = p.images;
      frame = p.frame;
      hangs = p.hangs;
      order = p.order;
      no_wait = p.no_wait;
      covers = p.covers;
      all = g.met.B.Blocks.keeps_all on end p.keeps;
      told = g.met.B.Blocks.covers_told on;
      told_new = g.met.B.Blocks.covers_told end;
    })
