use Rattle.std.proofs.Common.{◌+◌, ◌<◌, ◌≤◌, sym, ap, ◌∙◌, subst}
use Rattle.fo_dir_read.specs.Names.{leaf_count}
use Rattle.fo_ports.specs.Sources.{depth_for}
use Rattle.fo_dir_read.proofs.of_looks.Looks.{looks_joins, same_leaves_joins}
use Rattle.fo_dir_read.proofs.Looking.{caused_later, pins_more}
use Rattle.fo_dir_sure.proofs.Settled.{one_more, but_one, pins_idle}
use Rattle.fo_dir_sure.proofs.others.others_are_sure.Goals as goal
use Rattle.fo_dir_sure.proofs.others.others_are_sure.Goals.{then-i-but+in-Ok-true, else-i-but}

pub returns-in-Ok-false-clause-looks : goal.returns-in-Ok-false-clause-looks
returns-in-Ok-false-clause-looks g c = let v = c.loop-i.invariant in looks_joins (g.met.B.Blocks.keeps_all c.args.on.now c.loop-i.on v.3) v.2 c.is_sure_at.ensures.looks

pub returns-in-Ok-false-clause-unsure : goal.returns-in-Ok-false-clause-unsure
returns-in-Ok-false-clause-unsure g c = λ no.
    let long = c.is_sure_at.ensures.same.1 ∙ c.loop-i.invariant.1.1 in (
      c.loop-i.i,
      subst (λ n. c.loop-i.i < n) (c.count_of-count.ensures.is ∙ ap leaf_count (sym long)) c.loop-i-test.true,
      c.if-i-but.true,
      c.in-Ok-false.ensures.unsure c.in-Ok-false.field-0-test,
    )

pub returns-in-Err-clause-looks : goal.returns-in-Err-clause-looks
returns-in-Err-clause-looks g c = let v = c.loop-i.invariant in looks_joins (g.met.B.Blocks.keeps_all c.args.on.now c.loop-i.on v.3) v.2 c.is_sure_at.ensures.looks

pub returns-in-Err-clause-cause : goal.returns-in-Err-clause-cause
returns-in-Err-clause-cause g c =
    let v = c.loop-i.invariant in
    caused_later (g.B.Blocks.state c.args.on.now) (g.B.Blocks.state c.loop-i.on) (g.B.Blocks.state c.is_sure_at.new.on) (g.met.B.Blocks.keeps_all c.args.on.now c.loop-i.on v.3) c.in-Err.why c.in-Err.ensures.cause

pub loop-i-preserved : goal.loop-i-preserved
loop-i-preserved g c =
    let v = c.loop-i.invariant in
    let all = g.met.B.Blocks.keeps_all c.args.on.now c.loop-i.on v.3 in
    let b = g.B.Blocks.state c.loop-i.on in
    let d = depth_for (g.S.Bytes.size c.args.source.now) in
    elim c.if-i-but.branch [
      | then-i-but+in-Ok-true w ↦
          let same = w.is_sure_at.ensures.same in
          let e = g.B.Blocks.state w.is_sure_at.new.on in
          rw (w.source-is, w.on-is) (
            w.is_sure_at.ensures.over,
            (same.0 ∙ v.1.0, same.1 ∙ v.1.1, same_leaves_joins all.still_tells.1 v.1.2 same.2),
            looks_joins all v.2 w.is_sure_at.ensures.looks,
            g.met.B.Blocks.keeps_joins c.args.on.now c.loop-i.on w.is_sure_at.new.on v.3 w.is_sure_at.ensures.keeps,
            pins_more c.loop-i.i d _ _ _ v.4 (subst (λ n. b.pins_left ≤ e.pins_left + n) (ap depth_for v.1.1) w.is_sure_at.ensures.pins),
            (λ told. let still = all.still_tells.1 told in one_more b e still w.is_sure_at.ensures.looks (λ j. (same.2.leaves still j).0) (v.5 told) (w.in-Ok-true.ensures.sure w.in-Ok-true.field-0-test still)),
          )
      | else-i-but w ↦
          rw (w.source-is, w.on-is) (
            v.0,
            v.1,
            v.2,
            v.3,
            pins_idle c.loop-i.i d _ _ v.4,
            (λ told. but_one w.if-i-but.false (v.5 told)),
          )
    ]
