use Rattle.std.proofs.Common.{sym, ◌∙◌}
use Rattle.fo_dir_list.proofs.Least.{lesser_new, lesser_old}
use Rattle.fo_dir_list.proofs.list.lesser.Goals as goal

pub returns-then-is_better-clause-answers : goal.returns-then-is_better-clause-answers
returns-then-is_better-clause-answers c = λ after front last a b. lesser_new after front last c.args.best c.args.found (sym c.is_better.ensures ∙ c.if-is_better.true) a b

pub returns-else-is_better-clause-answers : goal.returns-else-is_better-clause-answers
returns-else-is_better-clause-answers c = λ after front last a b. lesser_old after front last c.args.best c.args.found (sym c.is_better.ensures ∙ c.if-is_better.false) a b
