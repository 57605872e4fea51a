use Rattle.std.proofs.Common.{◌+◌, ◌≤◌, ap, ◌∙◌, subst}
use Rattle.fo_ports.specs.Sources.{depth_for}
use Rattle.fo_dir_read.proofs.of_looks.Looks.{looks_joins, same_leaves_joins}
use Rattle.fo_dir_read.proofs.Looking.{caused_later, pins_more}
use Rattle.fo_dir_list.proofs.Least.{more_below}
use Rattle.fo_dir_list.proofs.list.next.Goals as goal

pub returns-in-Err-clause-looks : goal.returns-in-Err-clause-looks
returns-in-Err-clause-looks g c = let v = c.loop-i.invariant in looks_joins (g.met.B.Blocks.keeps_all c.args.on.now c.loop-i.on v.3) v.2 c.next_at.ensures.looks

pub returns-in-Err-clause-cause : goal.returns-in-Err-clause-cause
returns-in-Err-clause-cause g c =
    let v = c.loop-i.invariant in
    caused_later (g.B.Blocks.state c.args.on.now) (g.B.Blocks.state c.loop-i.on) (g.B.Blocks.state c.next_at.new.on) (g.met.B.Blocks.keeps_all c.args.on.now c.loop-i.on v.3) c.in-Err.why c.in-Err.ensures.cause

pub loop-i-preserved : goal.loop-i-preserved
loop-i-preserved g c =
    let v = c.loop-i.invariant in
    let all = g.met.B.Blocks.keeps_all c.args.on.now c.loop-i.on v.3 in
    let same = c.next_at.ensures.same in
    let most = ap (λ n. depth_for n + 1) v.1.1 in (
      c.next_at.ensures.over,
      (same.0 ∙ v.1.0, same.1 ∙ v.1.1, same_leaves_joins all.still_tells.1 v.1.2 same.2),
      looks_joins all v.2 c.next_at.ensures.looks,
      g.met.B.Blocks.keeps_joins c.args.on.now c.loop-i.on c.next_at.new.on v.3 c.next_at.ensures.keeps,
      pins_more c.loop-i.i (depth_for (g.S.Bytes.size c.args.records.now) + 1) _ _ _ v.4 (subst (λ n. (g.B.Blocks.state c.loop-i.on).pins_left ≤ (g.B.Blocks.state c.next_at.new.on).pins_left + n) most c.next_at.ensures.pins),
      (λ told. let still = all.still_tells.1 told in more_below (c.next_at.ensures.looks.memory still) (λ j. (same.2.leaves still j).0) (v.5 told) (c.in-Ok.ensures.next still) (c.lesser-best.ensures.answers c.args.after.now)),
      c.lesser-best.ensures.holds v.6 c.in-Ok.ensures.holds,
      c.lesser-best.ensures.later c.args.after.now v.7 c.in-Ok.ensures.later,
    )
