use Rattle.std.proofs.Common.{◌-◌, ◌<◌, length, get_or, ap, subst, ◌∙◌, arith}
use Rattle.fo_files_create_look.specs.of_files_at.declared.at.Step.{Step}
use Rattle.fo_files_create.proofs.Steps.{last_leaf_is}
use Rattle.fo_files_create.proofs.along.own_leaf.Goals as goal

pub returns-in-len1-up : goal.returns-in-len1-up
returns-in-len1-up c =
    let some = c.in-len1-up.len_at_least in
    let value = c.as_slice.ensures.value in
    let is = c.step-item.is ∙ ap (λ xs. get_or xs (length xs - 1) c.step-item.result) value in
    ap (λ (x : Step). x.leaf) is ∙ last_leaf_is c.args.way.now.steps.items c.step-item.result (subst (λ xs. 0 < length xs) value (omega (arith, some)))
