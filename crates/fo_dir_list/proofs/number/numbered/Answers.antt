use Rattle.std.proofs.Common.{◌+◌, ◌≤◌, ◌<◌, sym, ap, ◌∙◌, subst}
use Rattle.fo_ports.specs.Sources.{depth_for}
use Rattle.fo_dir_read.proofs.of_looks.Looks.{looks_joins, same_leaves_joins}
use Rattle.fo_dir_read.specs.Names.{leaf_count}
use Rattle.fo_dir_read.proofs.Looking.{caused_later, pins_more}
use Rattle.fo_dir_list.proofs.Numbers.{lacks_on, lacks_more}
use Rattle.fo_dir_list.proofs.number.numbered.Goals as goal

pub returns-in-Ok-Some-clause-found : goal.returns-in-Ok-Some-clause-found
returns-in-Ok-Some-clause-found g c = λ told.
    let v = c.loop-i.invariant in
    let all = g.met.B.Blocks.keeps_all c.args.on.now c.loop-i.on v.3 in
    let still = all.still_tells.1 told in
    let f = c.in-Ok-Some.ensures.found still in
    let same = c.look_in.ensures.same in
    record {
      within = subst (λ n. c.loop-i.i < n) (c.count_of-count.ensures.is ∙ ap leaf_count (sym (same.1 ∙ v.1.1))) c.loop-i-test.true;
      before = lacks_on (c.look_in.ensures.looks.memory still) (λ j. (same.2.leaves still j).0) (v.5 told);
      records = f.records;
      has = f.has;
      first = sym (f.each f.records f.has) ∙ c.in-Ok-Some.field-0-is;
    }

pub returns-in-Ok-Some-clause-looks : goal.returns-in-Ok-Some-clause-looks
returns-in-Ok-Some-clause-looks g c = let v = c.loop-i.invariant in looks_joins (g.met.B.Blocks.keeps_all c.args.on.now c.loop-i.on v.3) v.2 c.look_in.ensures.looks

pub returns-in-Err-clause-looks : goal.returns-in-Err-clause-looks
returns-in-Err-clause-looks g c = let v = c.loop-i.invariant in looks_joins (g.met.B.Blocks.keeps_all c.args.on.now c.loop-i.on v.3) v.2 c.look_in.ensures.looks

pub returns-in-Err-clause-cause : goal.returns-in-Err-clause-cause
returns-in-Err-clause-cause g c =
    let v = c.loop-i.invariant in
    caused_later (g.B.Blocks.state c.args.on.now) (g.B.Blocks.state c.loop-i.on) (g.B.Blocks.state c.look_in.new.on) (g.met.B.Blocks.keeps_all c.args.on.now c.loop-i.on v.3) c.in-Err.why c.in-Err.ensures.cause

pub loop-i-preserved : goal.loop-i-preserved
loop-i-preserved g c =
    let v = c.loop-i.invariant in
    let all = g.met.B.Blocks.keeps_all c.args.on.now c.loop-i.on v.3 in
    let same = c.look_in.ensures.same in
    let most = ap (λ n. depth_for n + 1) v.1.1 in (
      c.look_in.ensures.over,
      (same.0 ∙ v.1.0, same.1 ∙ v.1.1, same_leaves_joins all.still_tells.1 v.1.2 same.2),
      looks_joins all v.2 c.look_in.ensures.looks,
      g.met.B.Blocks.keeps_joins c.args.on.now c.loop-i.on c.look_in.new.on v.3 c.look_in.ensures.keeps,
      pins_more c.loop-i.i (depth_for (g.S.Bytes.size c.args.records.now) + 1) _ _ _ v.4 (subst (λ n. (g.B.Blocks.state c.loop-i.on).pins_left ≤ (g.B.Blocks.state c.look_in.new.on).pins_left + n) most c.look_in.ensures.pins),
      (λ told. lacks_more c.in-Ok-None.field-0-is (lacks_on (c.look_in.ensures.looks.memory (all.still_tells.1 told)) (λ j. (same.2.leaves (all.still_tells.1 told) j).0) (v.5 told)) (c.in-Ok-None.ensures.found (all.still_tells.1 told))),
    )

pub returns-in-Ok-Some-clause-within : goal.returns-in-Ok-Some-clause-within
returns-in-Ok-Some-clause-within g c = subst (λ n. c.loop-i.i < n) c.count_of-count.ensures.is c.loop-i-test.true
