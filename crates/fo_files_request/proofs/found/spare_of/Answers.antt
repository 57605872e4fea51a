use Rattle.std.proofs.Common.{◌-◌, sym, ap, subst, ◌∙◌, arith}
use Rattle.fo_files_into.specs.of_files_at.declared.at.Step.{Step}
use Rattle.fo_files_into.specs.of_files_at.Held.{FileHolds}
use Rattle.fo_files_into.proofs.of_files_along.Ways.{file_holds, step_at, steps_long}
use Rattle.fo_files_request.proofs.found.spare_of.Goals as goal

pub record_len-len-requires : goal.record_len-len-requires
record_len-len-requires g c = (file_holds (g.B.Blocks.state c.args.on.now) c.args.root c.args.trail.now c.args.way.now c.requires.way).named

pub spare_for-requires-clause-holds : goal.spare_for-requires-clause-holds
spare_for-requires-clause-holds g c =
    let s = g.B.Blocks.state c.args.on.now in
    let long = steps_long s c.args.root c.args.trail.now c.args.way.now c.requires.way in
    let some = c.requires.some in
    let count = c.len.ensures in
    let h = step_at s c.args.root c.args.trail.now c.args.way.now (c.len.result - 1) c.index-step.result.now c.requires.way (omega (arith, count, long, some)) in
    subst (λ (x : Step). FileHolds s x.dir) (sym c.index-step.ensures) h.1.holds

pub spare_for-requires-clause-high : goal.spare_for-requires-clause-high
spare_for-requires-clause-high g c =
    let s = g.B.Blocks.state c.args.on.now in
    let long = steps_long s c.args.root c.args.trail.now c.args.way.now c.requires.way in
    let some = c.requires.some in
    let count = c.len.ensures in
    let h = step_at s c.args.root c.args.trail.now c.args.way.now (c.len.result - 1) c.index-step.result.now c.requires.way (omega (arith, count, long, some)) in
    let high = h.1.high in
    let ranked = ap (λ (x : Step). x.dir.rank) c.index-step.ensures ∙ h.1.ranked in omega (arith, high, ranked)
