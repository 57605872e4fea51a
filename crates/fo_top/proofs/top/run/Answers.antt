use Rattle.std.proofs.Common.{◌∙◌}
use Rattle.fo_top.proofs.top.run.Goals as goal

pub returns-clause-talks : goal.returns-clause-talks
returns-clause-talks g c = λ is. c.act-why.ensures.talks (c.command_of-command.ensures ∙ is)

pub returns-clause-scripts : goal.returns-clause-scripts
returns-clause-scripts g c = λ is. c.act-why.ensures.scripts (c.command_of-command.ensures ∙ is)
