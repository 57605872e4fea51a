use Rattle.std.proofs.Common.{ap, ◌∙◌}
use Rattle.std.proofs.lemmas.List.{get_or_default}
use Rattle.fo_files_along.specs.of_files_at.declared.at.Step.{Step}
use Rattle.fo_files_take.proofs.remove.leaf_at.Goals as goal

pub returns : goal.returns
returns c = record { is = λ d. ap (λ (x : Step). x.leaf) (c.index.ensures ∙ get_or_default c.args.way.now.steps.items c.args.k c.index.result.now d c.requires.within) }
