use Rattle.fo_script_line.proofs.Doing.{answered_said}
use Rattle.fo_script_line.proofs.line.answer_line.Goals as goal

pub returns-clause-answered : goal.returns-clause-answered
returns-clause-answered g c =
    answered_said _ _ _ _ _ _ c.in-Some.line c.in_ok-answer.answer c.say.result c.if-text-gt-LONGEST_LINE.false (rw c.in-Some.is at c.in_ok-line.ensures.found) c.in_ok-answer.ensures.takes c.say.ensures.put
