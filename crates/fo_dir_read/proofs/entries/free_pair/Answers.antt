use Rattle.std.proofs.Common.{◌+◌, ◌≤◌, ◌<◌, IfSome, ap, ◌∙◌, subst, arith}
use Rattle.fo_ports.specs.Sources.{depth_for}
use Rattle.fo_looks.proofs.Looks.{looks_joins, same_leaves_joins}
use Rattle.fo_dir_read.specs.Pairs.{FreeAt}
use Rattle.fo_dir_read.proofs.Looking.{caused_later, pins_more}
use Rattle.fo_dir_read.proofs.Pairs.{are_on, are_more, are_part, part_free}
use Rattle.fo_dir_read.proofs.entries.free_pair.Goals as goal

pub returns-in-Ok-Some-clause-free : goal.returns-in-Ok-Some-clause-free
returns-in-Ok-Some-clause-free g c = λ told.
    let v = c.loop-i.invariant in
    let all = g.met.B.Blocks.keeps_all c.args.on.now c.loop-i.on v.3 in
    let still = all.still_tells.1 told in
    let new = g.B.Blocks.state c.free_at.new.on in
    let leaves = g.S.Bytes.leaves c.free_at.new.entries c.free_at.new.on in
    let p = c.in-Ok-Some.p in
    let lt = subst (λ o. IfSome o (λ n. n < 102)) c.in-Ok-Some.field-0-is c.in-Ok-Some.ensures.within in
    let free = subst (λ o. FreeAt new leaves c.loop-i.i o) c.in-Ok-Some.field-0-is (c.in-Ok-Some.ensures.free still) in
    let before = are_on (g.met.B.Blocks.clears_used c.loop-i.on still) (c.free_at.ensures.looks.memory still) (λ i. (c.free_at.ensures.same.2.leaves still i).0) (v.5 told) in
    (part_free new leaves c.loop-i.i (g.S.Bytes.size c.free_at.new.entries) p lt free, are_part new leaves c.loop-i.i p lt before free)

pub returns-in-Ok-Some-clause-looks : goal.returns-in-Ok-Some-clause-looks
returns-in-Ok-Some-clause-looks g c = let v = c.loop-i.invariant in looks_joins (g.met.B.Blocks.keeps_all c.args.on.now c.loop-i.on v.3) v.2 c.free_at.ensures.looks

pub returns-in-Err-clause-looks : goal.returns-in-Err-clause-looks
returns-in-Err-clause-looks g c = let v = c.loop-i.invariant in looks_joins (g.met.B.Blocks.keeps_all c.args.on.now c.loop-i.on v.3) v.2 c.free_at.ensures.looks

pub returns-in-Err-clause-cause : goal.returns-in-Err-clause-cause
returns-in-Err-clause-cause g c =
    let v = c.loop-i.invariant in
    caused_later (g.B.Blocks.state c.args.on.now) (g.B.Blocks.state c.loop-i.on) (g.B.Blocks.state c.free_at.new.on) (g.met.B.Blocks.keeps_all c.args.on.now c.loop-i.on v.3) c.in-Err.why c.in-Err.ensures.cause

pub loop-i-preserved : goal.loop-i-preserved
loop-i-preserved g c =
    let v = c.loop-i.invariant in
    let all = g.met.B.Blocks.keeps_all c.args.on.now c.loop-i.on v.3 in
    let same = c.free_at.ensures.same in
    let most = ap (λ n. depth_for n + 1) v.1.1 in
    let new = g.B.Blocks.state c.free_at.new.on in
    let leaves = g.S.Bytes.leaves c.free_at.new.entries c.free_at.new.on in (
      c.free_at.ensures.over,
      (same.0 ∙ v.1.0, same.1 ∙ v.1.1, same_leaves_joins all.still_tells.1 v.1.2 same.2),
      looks_joins all v.2 c.free_at.ensures.looks,
      g.met.B.Blocks.keeps_joins c.args.on.now c.loop-i.on c.free_at.new.on v.3 c.free_at.ensures.keeps,
      pins_more c.loop-i.i (depth_for (g.S.Bytes.size c.args.entries.now) + 1) _ _ _ v.4 (subst (λ n. (g.B.Blocks.state c.loop-i.on).pins_left ≤ new.pins_left + n) most c.free_at.ensures.pins),
      (λ told.
          let still = all.still_tells.1 told in
          let before = are_on (g.met.B.Blocks.clears_used c.loop-i.on still) (c.free_at.ensures.looks.memory still) (λ i. (same.2.leaves still i).0) (v.5 told) in
          are_more new leaves c.loop-i.i before (subst (λ o. FreeAt new leaves c.loop-i.i o) c.in-Ok-None.field-0-is (c.in-Ok-None.ensures.free still))),
    )

pub returns-in-Ok-Some-clause-within : goal.returns-in-Ok-Some-clause-within
returns-in-Ok-Some-clause-within g c =
    let lt = subst (λ o. IfSome o (λ n. n < 102)) c.in-Ok-Some.field-0-is c.in-Ok-Some.ensures.within in
    let less = c.loop-i-test.true in
    let count = c.count_of-count.ensures.is in
    omega (arith, lt, less, count)
