use Rattle.std.proofs.Common.{sym, ap, subst, ◌∙◌, arith}
use Rattle.fo_files_plan.specs.of_files_at.declared.at.Step.{Step}
use Rattle.fo_files_plan.specs.of_files_at.Held.{FileHolds}
use Rattle.fo_files_plan.proofs.Trails.{step_in}
use Rattle.fo_files_along.proofs.along.step_at.Goals as goal

pub dir_at-requires-clause-holds : goal.dir_at-requires-clause-holds
dir_at-requires-clause-holds g c =
    let s = g.B.Blocks.state c.args.on.now in
    let way = c.args.way.now in
    let h = step_in s 2120 way.steps.items way.file c.requires.way.1.0 c.args.k c.index.result.now c.requires.within.0 c.requires.way.1.1.follows in
    subst (λ (x : Step). FileHolds s x.dir) (sym c.index.ensures) h.1.holds

pub dir_at-requires-clause-high : goal.dir_at-requires-clause-high
dir_at-requires-clause-high g c =
    let s = g.B.Blocks.state c.args.on.now in
    let way = c.args.way.now in
    let h = step_in s 2120 way.steps.items way.file c.requires.way.1.0 c.args.k c.index.result.now c.requires.within.0 c.requires.way.1.1.follows in
    let high = h.1.high in
    let ranked = ap (λ (x : Step). x.dir.rank) c.index.ensures ∙ h.1.ranked in omega (arith, high, ranked)

pub returns-clause-is : goal.returns-clause-is
returns-clause-is g c =
    let is = c.dir_at.ensures.is in
    record {
      step = c.index.result.now;
      within = c.requires.within.0;
      step_is = c.index.ensures;
      pair = record { block_is = is.0; slot_is = is.1; number_is = is.2; rank_is = is.3 };
    }
