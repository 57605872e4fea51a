use Rattle.std.proofs.Common.{◌+◌, ◌≤◌, sym, ap, ◌∙◌, subst, arith}
use Rattle.fo_ports.specs.Sources.{depth_for}
use Rattle.fo_dir_read.proofs.of_looks.Looks.{looks_joins, same_leaves_joins}
use Rattle.fo_dir_read.specs.Names.{leaf_count}
use Rattle.fo_dir_read.proofs.Looking.{caused_later, pins_more}
use Rattle.fo_dir_list.proofs.Room.{tight_on, tight_more, room_here}
use Rattle.fo_dir_list.proofs.rooms.leaf_for.Goals as goal

pub returns-in-Err-clause-looks : goal.returns-in-Err-clause-looks
returns-in-Err-clause-looks g c = let v = c.loop-i.invariant in looks_joins (g.met.B.Blocks.keeps_all c.args.on.now c.loop-i.on v.3) v.2 c.taken_at.ensures.looks

pub returns-in-Err-clause-cause : goal.returns-in-Err-clause-cause
returns-in-Err-clause-cause g c =
    let v = c.loop-i.invariant in
    caused_later (g.B.Blocks.state c.args.on.now) (g.B.Blocks.state c.loop-i.on) (g.B.Blocks.state c.taken_at.new.on) (g.met.B.Blocks.keeps_all c.args.on.now c.loop-i.on v.3) c.in-Err.why c.in-Err.ensures.cause

pub loop-i-preserved : goal.loop-i-preserved
loop-i-preserved g c =
    let v = c.loop-i.invariant in
    let all = g.met.B.Blocks.keeps_all c.args.on.now c.loop-i.on v.3 in
    let same = c.taken_at.ensures.same in
    let most = ap (λ n. depth_for n + 1) v.1.1 in (
      c.taken_at.ensures.over,
      (same.0 ∙ v.1.0, same.1 ∙ v.1.1, same_leaves_joins all.still_tells.1 v.1.2 same.2),
      looks_joins all v.2 c.taken_at.ensures.looks,
      g.met.B.Blocks.keeps_joins c.args.on.now c.loop-i.on c.taken_at.new.on v.3 c.taken_at.ensures.keeps,
      pins_more c.loop-i.i (depth_for (g.S.Bytes.size c.args.records.now) + 1) _ _ _ v.4 (subst (λ n. (g.B.Blocks.state c.loop-i.on).pins_left ≤ (g.B.Blocks.state c.taken_at.new.on).pins_left + n) most c.taken_at.ensures.pins),
      (λ told. let still = all.still_tells.1 told in tight_more (tight_on (c.taken_at.ensures.looks.memory still) (λ j. (same.2.leaves still j).0) (v.5 told)) (c.in-Ok.ensures.takes still) (omega (arith, c.if-used-len.false))),
    )

pub returns-then-used-len-clause-room : goal.returns-then-used-len-clause-room
returns-then-used-len-clause-room g c = λ told.
    let v = c.loop-i.invariant in
    let still = (g.met.B.Blocks.keeps_all c.args.on.now c.loop-i.on v.3).still_tells.1 told in
    let same = c.taken_at.ensures.same in
    room_here (tight_on (c.taken_at.ensures.looks.memory still) (λ j. (same.2.leaves still j).0) (v.5 told)) (c.in-Ok.ensures.takes still) (omega (arith, c.if-used-len.true))
    (subst (λ n. c.loop-i.i ≤ n) (c.count_of-count.ensures.is ∙ ap leaf_count (sym (same.1 ∙ v.1.1))) (omega (arith, c.loop-i-test.true)))

pub returns-then-used-len-clause-looks : goal.returns-then-used-len-clause-looks
returns-then-used-len-clause-looks g c = let v = c.loop-i.invariant in looks_joins (g.met.B.Blocks.keeps_all c.args.on.now c.loop-i.on v.3) v.2 c.taken_at.ensures.looks
