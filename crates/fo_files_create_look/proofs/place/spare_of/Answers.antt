use Rattle.std.proofs.Common.{◌-◌, ◌<◌, ◌≤◌, length, get_or, sym, ap, subst, ◌∙◌, arith}
use Rattle.fo_files_along.specs.of_files_at.declared.at.Step.{Step}
use Rattle.fo_files_along.specs.of_files_at.Held.{FileHolds}
use Rattle.fo_files_along.proofs.Ways.{file_holds, step_at}
use Rattle.fo_files_create_look.proofs.place.spare_of.Goals as goal

pub record_len-was-requires : goal.record_len-was-requires
record_len-was-requires g c = (file_holds (g.B.Blocks.state c.args.on.now) c.args.root c.requires.way.0 c.args.way.now c.requires.way.1).named

pub touched_len-len-requires-clause-holds : goal.touched_len-len-requires-clause-holds
touched_len-len-requires-clause-holds g c = (file_holds (g.B.Blocks.state c.args.on.now) c.args.root c.requires.way.0 c.args.way.now c.requires.way.1).named

pub spare_for-requires-clause-holds : goal.spare_for-requires-clause-holds
spare_for-requires-clause-holds g c =
    let s = g.B.Blocks.state c.args.on.now in
    let some = c.in-len1-up.len_at_least in
    let h = step_at s c.args.root c.requires.way.0 c.args.way.now (length c.as_slice.result.now - 1) c.step-item.result c.requires.way.1 (subst (λ xs. length c.as_slice.result.now - 1 < length xs) c.as_slice.ensures.value (omega (arith, some))) in
    subst (λ (x : Step). FileHolds s x.dir) (sym (c.step-item.is ∙ ap (λ xs. get_or xs (length c.as_slice.result.now - 1) c.step-item.result) c.as_slice.ensures.value)) h.1.holds

pub spare_for-requires-clause-high : goal.spare_for-requires-clause-high
spare_for-requires-clause-high g c =
    let s = g.B.Blocks.state c.args.on.now in
    let some = c.in-len1-up.len_at_least in
    let h = step_at s c.args.root c.requires.way.0 c.args.way.now (length c.as_slice.result.now - 1) c.step-item.result c.requires.way.1 (subst (λ xs. length c.as_slice.result.now - 1 < length xs) c.as_slice.ensures.value (omega (arith, some))) in
    subst (λ (x : Step). 40 ≤ x.dir.rank) (sym (c.step-item.is ∙ ap (λ xs. get_or xs (length c.as_slice.result.now - 1) c.step-item.result) c.as_slice.ensures.value)) (subst (λ n. 40 ≤ n) (sym h.1.ranked) h.1.high)
