use Rattle.std.proofs.Common.{◌∙◌}
use Rattle.std.proofs.lemmas.List.{get_or_default}
use Rattle.fo_files_take.proofs.look.step_of.Goals as goal

pub returns : goal.returns
returns c = record { is = λ d. c.index.ensures ∙ get_or_default c.args.way.now.steps.items c.args.k c.index.result.now d c.requires.within }
