use Rattle.std.proofs.Common.{◌-◌, ◌<◌, ◌≤◌, length, get_or, sym, ap, subst, ◌∙◌, arith}
use Rattle.fo_image.specs.Record.{RecordHolds}
use Rattle.fo_files_along.specs.of_files_at.declared.at.Step.{Step}
use Rattle.fo_files_along.specs.of_files_at.Held.{FileHolds}
use Rattle.fo_files_along.proofs.Ways.{step_at}
use Rattle.fo_files_take.proofs.look.spare_of.Goals as goal

pub record_len-was-requires : goal.record_len-was-requires
record_len-was-requires g c =
    let some = c.in-len2-up.len_at_least in
    let w = c.requires.way in
    let h = step_at (g.B.Blocks.state c.args.on.now) w.0 w.1.0 c.args.way.now (length c.as_slice.result.now - 1) c.step-item.result w.1.1 (subst (λ xs. length c.as_slice.result.now - 1 < length xs) c.as_slice.ensures.value (omega (arith, some))) in
    subst (λ (x : Step). RecordHolds x.dir.named) (sym (c.step-item.is ∙ ap (λ xs. get_or xs (length c.as_slice.result.now - 1) c.step-item.result) c.as_slice.ensures.value)) h.1.holds.named

pub spare_for-requires-clause-holds : goal.spare_for-requires-clause-holds
spare_for-requires-clause-holds g c =
    let some = c.in-len2-up.len_at_least in
    let w = c.requires.way in
    let h = step_at (g.B.Blocks.state c.args.on.now) w.0 w.1.0 c.args.way.now (length c.as_slice.result.now - 2) c.above-item.result w.1.1 (subst (λ xs. length c.as_slice.result.now - 2 < length xs) c.as_slice.ensures.value (omega (arith, some))) in
    subst (λ (x : Step). FileHolds (g.B.Blocks.state c.args.on.now) x.dir) (sym (c.above-item.is ∙ ap (λ xs. get_or xs (length c.as_slice.result.now - 2) c.above-item.result) c.as_slice.ensures.value)) h.1.holds

pub spare_for-requires-clause-high : goal.spare_for-requires-clause-high
spare_for-requires-clause-high g c =
    let some = c.in-len2-up.len_at_least in
    let w = c.requires.way in
    let h = step_at (g.B.Blocks.state c.args.on.now) w.0 w.1.0 c.args.way.now (length c.as_slice.result.now - 2) c.above-item.result w.1.1 (subst (λ xs. length c.as_slice.result.now - 2 < length xs) c.as_slice.ensures.value (omega (arith, some))) in
    subst (λ (x : Step). 40 ≤ x.dir.rank) (sym (c.above-item.is ∙ ap (λ xs. get_or xs (length c.as_slice.result.now - 2) c.above-item.result) c.as_slice.ensures.value)) (subst (λ n. 40 ≤ n) (sym h.1.ranked) h.1.high)
