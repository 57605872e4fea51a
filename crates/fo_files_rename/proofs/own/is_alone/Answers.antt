use Rattle.std.proofs.Common.{◌-◌, sym, ap, subst, ◌∙◌, arith}
use Rattle.fo_files_edit.specs.of_files_at.declared.at.Step.{Step}
use Rattle.fo_files_edit.specs.of_files_at.Held.{FileHolds}
use Rattle.fo_files_edit.proofs.of_files_along.Ways.{step_at}
use Rattle.fo_files_rename.proofs.own.is_alone.Goals as goal

pub stands_alone-requires-clause-holds : goal.stands_alone-requires-clause-holds
stands_alone-requires-clause-holds g c =
    let s = g.B.Blocks.state c.args.on.now in
    let count = c.len-depth.ensures in
    let h = step_at s c.args.root c.args.trail.now c.args.way.now (c.len-depth.result - 1) c.index-step.result.now c.requires.way (let some = c.requires.some in omega (arith, count, some)) in
    subst (λ (x : Step). FileHolds s x.dir) (sym c.index-step.ensures) h.1.holds

pub stands_alone-requires-clause-high : goal.stands_alone-requires-clause-high
stands_alone-requires-clause-high g c =
    let s = g.B.Blocks.state c.args.on.now in
    let count = c.len-depth.ensures in
    let h = step_at s c.args.root c.args.trail.now c.args.way.now (c.len-depth.result - 1) c.index-step.result.now c.requires.way (let some = c.requires.some in omega (arith, count, some)) in
    let high = h.1.high in
    let ranked = ap (λ (x : Step). x.dir.rank) c.index-step.ensures ∙ h.1.ranked in omega (arith, high, ranked)
