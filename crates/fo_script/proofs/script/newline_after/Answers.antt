use Rattle.std.proofs.Common.{sym, ◌∙◌}
use Rattle.fo_script.proofs.Newlines.{seen_some, seen_none}
use Rattle.fo_script.proofs.script.newline_after.Goals as goal

pub returns-in_default-clause-is : goal.returns-in_default-clause-is
returns-in_default-clause-is c = seen_none c.args.bytes.now c.args.seen c.requires.within c.requires.none (sym c.newline.ensures.is ∙ c.in_default.is)

pub returns-clause-is : goal.returns-clause-is
returns-clause-is c = seen_some c.args.bytes.now c.args.seen c.in-Some.end c.requires.within c.requires.none (sym c.newline.ensures.is ∙ c.in-Some.is)
